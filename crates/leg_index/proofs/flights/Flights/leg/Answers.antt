use Rattle.std.proofs.Common.{ap, sym, ◌∙◌}
use Rattle.std.specs.HashMap.{get}
use Rattle.std.specs.Option.{option_or}
use Rattle.std.specs.Prelude.{nat_eq}
use Rattle.leg_index.specs.Flights.{leg_by_id}
use Rattle.leg_index.proofs.FlightLemmas.{get-seen, free_none, first_found}
use Rattle.leg_index.proofs.flights.Flights.leg.Goals as goal

-- the first attempt has the identifier
pub returns-in-Some : goal.returns-in-Some
returns-in-Some c = sym (get-seen c.self.inside.fresh.items c.self.inside.legs _ c.self.view_is c.args.id
    ∙ ap (λ x. option_or x (get nat_eq c.self.inside.legs c.args.id)) (first_found c.args.id c.self.inside.fresh.items c.in-Some.leg c.in-Some.ensures))

-- none has it
pub returns-then-not-is_used : goal.returns-then-not-is_used
returns-then-not-is_used c = sym (get-seen c.self.inside.fresh.items c.self.inside.legs _ c.self.view_is c.args.id
    ∙ free_none c.self.inside.pool (leg_by_id c.self.inside.fresh.items c.self.inside.legs) (leg_by_id c.self.inside.fresh.items c.self.inside.legs) c.self.invariant.taken c.args.id (sym c.is_used.ensures ∙ c.if-not-is_used.true))

-- another one has it
pub returns : goal.returns
returns c = c.find_apart.ensures ∙ sym (get-seen c.self.inside.fresh.items c.self.inside.legs _ c.self.view_is c.args.id)
