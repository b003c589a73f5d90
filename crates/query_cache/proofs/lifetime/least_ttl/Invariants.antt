use Rattle.std.proofs.Common.{◌≡◌, take}
use Rattle.std.specs.Prelude.{min}
use Rattle.std.specs.List.{fold}
use Rattle.query_cache.proofs.lifetime.least_ttl.Given as goal

-- the least so far
abbrev pub invariant-loop-other : goal.invariant-loop-other
invariant-loop-other l = l.least ≡ fold (λ least other. min least other.ttl) l.initial.least (take l.other-index l.others)
