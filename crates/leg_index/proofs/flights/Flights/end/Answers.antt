use Rattle.std.proofs.Common.{ap, sym, ◌∙◌}
use Rattle.std.specs.HashMap.{get}
use Rattle.std.specs.Option.{option_or}
use Rattle.std.specs.Prelude.{nat_eq}
use Rattle.leg_index.specs.Flights.{leg_by_id}
use Rattle.leg_index.proofs.FlightLemmas.{get-seen, free_none, none_lost, first_found, popped, seen_loses, indexed_loses}
use Rattle.leg_index.proofs.flights.Flights.end.Goals as goal

-- no attempt has the identifier
pub invariant_of-self : goal.invariant_of-self
invariant_of-self c =
    let legs = leg_by_id c.self.inside.fresh.items c.self.inside.legs in
    let none = free_none c.self.inside.pool legs legs c.self.invariant.taken c.args.id (sym c.give_back.ensures.was_used ∙ c.if-not-give_back.true) in
    indexed_loses c.self.inside.fresh.items c.self.inside.fresh.items c.self.inside.legs c.self.inside.legs c.self.inside.pool c.give_back.new.self c.self.invariant c.self.invariant.once c.args.id c.give_back.ensures.given_back (none_lost c.args.id legs none)

pub returns-then-not-give_back-clause-ended : goal.returns-then-not-give_back-clause-ended
returns-then-not-give_back-clause-ended c =
    let legs = leg_by_id c.self.inside.fresh.items c.self.inside.legs in
    let none = free_none c.self.inside.pool legs legs c.self.invariant.taken c.args.id (sym c.give_back.ensures.was_used ∙ c.if-not-give_back.true) in
    seen_loses c.self.inside.fresh.items c.self.inside.legs _ c.self.view_is c.self.inside.fresh.items c.self.inside.legs c.args.id (none_lost c.args.id legs none)

pub returns-then-not-give_back-clause-leg : goal.returns-then-not-give_back-clause-leg
returns-then-not-give_back-clause-leg c =
    let legs = leg_by_id c.self.inside.fresh.items c.self.inside.legs in
    let none = free_none c.self.inside.pool legs legs c.self.invariant.taken c.args.id (sym c.give_back.ensures.was_used ∙ c.if-not-give_back.true) in
    sym (get-seen c.self.inside.fresh.items c.self.inside.legs _ c.self.view_is c.args.id ∙ none)

-- the first has it
pub invariant_of-self-in-Some : goal.invariant_of-self-in-Some
invariant_of-self-in-Some c =
    let gone = popped c.self.inside.fresh.items c.self.inside.legs c.self.invariant.once c.args.id c.in-Some.leg c.in-Some.ensures c.pop_front.new.self.items c.pop_front.ensures.rest in
    indexed_loses c.self.inside.fresh.items c.pop_front.new.self.items c.self.inside.legs c.self.inside.legs c.self.inside.pool c.give_back.new.self c.self.invariant gone.1 c.args.id c.give_back.ensures.given_back gone.0

pub returns-in-Some-clause-ended : goal.returns-in-Some-clause-ended
returns-in-Some-clause-ended c =
    let gone = popped c.self.inside.fresh.items c.self.inside.legs c.self.invariant.once c.args.id c.in-Some.leg c.in-Some.ensures c.pop_front.new.self.items c.pop_front.ensures.rest in
    seen_loses c.self.inside.fresh.items c.self.inside.legs _ c.self.view_is c.pop_front.new.self.items c.self.inside.legs c.args.id gone.0

pub returns-in-Some-clause-leg : goal.returns-in-Some-clause-leg
returns-in-Some-clause-leg c = sym (get-seen c.self.inside.fresh.items c.self.inside.legs _ c.self.view_is c.args.id
    ∙ ap (λ x. option_or x (get nat_eq c.self.inside.legs c.args.id)) (first_found c.args.id c.self.inside.fresh.items c.in-Some.leg c.in-Some.ensures))

-- another one has it
pub invariant_of-self-2 : goal.invariant_of-self-2
invariant_of-self-2 c = indexed_loses c.self.inside.fresh.items c.end_apart.new.fresh.items c.self.inside.legs c.end_apart.new.legs c.self.inside.pool c.give_back.new.self c.self.invariant c.end_apart.ensures.once c.args.id c.give_back.ensures.given_back c.end_apart.ensures.ended

pub returns-clause-ended : goal.returns-clause-ended
returns-clause-ended c = seen_loses c.self.inside.fresh.items c.self.inside.legs _ c.self.view_is c.end_apart.new.fresh.items c.end_apart.new.legs c.args.id c.end_apart.ensures.ended

pub returns-clause-leg : goal.returns-clause-leg
returns-clause-leg c = c.end_apart.ensures.leg ∙ sym (get-seen c.self.inside.fresh.items c.self.inside.legs _ c.self.view_is c.args.id)
