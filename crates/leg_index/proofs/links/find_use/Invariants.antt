use Rattle.std.proofs.Common.{◌≡◌, take}
use Rattle.leg_index.specs.Links.{used}
use Rattle.leg_index.proofs.links.find_use.Given as goal

-- no item before this index counts a leg on the server over the link
abbrev pub invariant-loop-index : goal.invariant-loop-index
invariant-loop-index l = used l.server l.link (take l.index l.uses) ≡ 0
