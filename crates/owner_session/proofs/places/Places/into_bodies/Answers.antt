use Rattle.std.proofs.Common.{◌∙◌, ◌++◌, ◌∷◌, [], ap, arith, filter_map}
use Rattle.owner_session.proofs.PlaceLemmas.{last_none, last_some}
use Rattle.owner_session.proofs.places.Places.into_bodies.Goals as goal

-- the last place had a body
pub loop-place-preserved-in-Some-place : goal.loop-place-preserved-in-Some-place
loop-place-preserved-in-Some-place g c = (
  ap (λ rest. filter_map (λ place. place) c.pop.new.self.items ++ rest) c.push_front_reserved.ensures.items
      ∙ last_some c.loop-place.places.items c.pop.new.self.items c.in-Some-place.body c.loop-place.bodies.items (c.in-Some.ensures.items ∙ ap (λ place. c.pop.new.self.items ++ place ∷ []) c.in-Some-place.is)
      ∙ c.loop-place.invariant.0,
  omega (arith, c.loop-place.invariant.1, c.push_front_reserved.ensures.len, c.push_front_reserved.ensures.capacity, c.in-Some.ensures.cases),
)

-- or none
pub loop-place-preserved : goal.loop-place-preserved
loop-place-preserved g c = (
  last_none c.loop-place.places.items c.pop.new.self.items c.loop-place.bodies.items (c.in-Some.ensures.items ∙ ap (λ place. c.pop.new.self.items ++ place ∷ []) c.in_default-place.is)
      ∙ c.loop-place.invariant.0,
  omega (arith, c.loop-place.invariant.1, c.in-Some.ensures.cases),
)
