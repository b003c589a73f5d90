use Rattle.std.proofs.Common.{◌≡◌, take, None}
use Rattle.leg_index.specs.Flights.{leg_in_row}
use Rattle.leg_index.proofs.fresh.position.Given as goal

-- no attempt before this index has the identifier
abbrev pub invariant-loop-index : goal.invariant-loop-index
invariant-loop-index l = leg_in_row l.id (take l.index l.fresh.items) ≡ None
