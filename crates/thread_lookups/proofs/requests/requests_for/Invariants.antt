use Rattle.std.proofs.Common.{◌≡◌, map, take}
use Rattle.host_lookups.specs.Answered.{addresses_of}
use Rattle.thread_lookups.proofs.requests.requests_for.Given as goal

abbrev pub invariant-loop-name : goal.invariant-loop-name
invariant-loop-name l = l.requests.items ≡ map (λ name. addresses_of name.now) (take l.name-index l.names)
