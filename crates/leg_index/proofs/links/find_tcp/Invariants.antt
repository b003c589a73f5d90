use Rattle.std.proofs.Common.{take}
use Rattle.leg_index.specs.Links.{NoneOverTcp}
use Rattle.leg_index.proofs.links.find_tcp.Given as goal

-- no item before this index counts a leg on the server over TCP
abbrev pub invariant-loop-index : goal.invariant-loop-index
invariant-loop-index l = NoneOverTcp l.server (take l.index l.uses)
