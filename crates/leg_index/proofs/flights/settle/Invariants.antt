use Rattle.leg_index.specs.Flights.{StandOnce, SameLegs, leg_by_id}
use Rattle.leg_index.proofs.flights.settle.Given as goal

-- what the calls so far have put into the map has left the row
abbrev pub invariant-loop : goal.invariant-loop
invariant-loop l = StandOnce l.fresh.items l.legs × SameLegs (leg_by_id l.fn.fresh.items l.fn.legs) (leg_by_id l.fresh.items l.legs)
