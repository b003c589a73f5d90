use Rattle.leg_index.proofs.FlightLemmas.{none_indexed}
use Rattle.leg_index.proofs.flights.Flights.make.Goals as goal

-- nothing stands in any of the three
pub invariant_of-result : goal.invariant_of-result
invariant_of-result c = none_indexed c.new.result.items c.new-2.result _ c.new.ensures.items c.new-2.ensures.empty c.in_ok-pool.ensures
