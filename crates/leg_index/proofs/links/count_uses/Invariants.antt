use Rattle.std.proofs.Common.{◌≡◌, take}
use Rattle.leg_index.specs.Links.{used}
use Rattle.leg_index.proofs.links.count_uses.Given as goal

-- the items before this index are counted
abbrev pub invariant-loop-index : goal.invariant-loop-index
invariant-loop-index l = l.count ≡ used l.server l.link (take l.index l.uses)
