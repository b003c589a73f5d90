use Rattle.std.proofs.Common.{refl}
use Rattle.leg_index.proofs.FlightLemmas.{indexed_same, seen_same}
use Rattle.leg_index.proofs.flights.Flights.index_all.Goals as goal

pub invariant_of-self : goal.invariant_of-self
invariant_of-self c = indexed_same c.self.inside.fresh.items c.settle.new.fresh.items c.self.inside.legs c.settle.new.legs c.self.inside.pool c.self.inside.pool c.self.invariant c.settle.ensures.once refl c.settle.ensures.same

pub returns : goal.returns
returns c = seen_same c.self.inside.fresh.items c.self.inside.legs _ c.self.view_is c.settle.new.fresh.items c.settle.new.legs c.settle.ensures.same
