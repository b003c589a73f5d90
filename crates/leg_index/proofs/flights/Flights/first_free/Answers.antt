use Rattle.leg_index.proofs.FlightLemmas.{first_free_seen}
use Rattle.leg_index.proofs.flights.Flights.first_free.Goals as goal

-- the pool has the identifiers of the legs
pub returns : goal.returns
returns c = first_free_seen c.self.inside.fresh.items c.self.inside.legs _ c.self.view_is c.self.inside.pool c.self.invariant.taken c.args.word _ c.first_free.ensures
