-- The requests of a run, each with the callback of its body.
use Rattle.std.specs.Prelude.{List, [], true, ℕ, ◌∷◌}
use Rattle.chan_types.specs.Plans.{Plan}
use Rattle.chan_types.specs.declared.spec.Spec.{Spec}
use Rattle.completion_ticket.specs.States.{CallbackState}

module _ {B : Type 0} (plan : B → Plan) (name : B → ℕ) where
  -- the callback that a body becomes
  abbrev pub callback_of : B → CallbackState
  callback_of body = record { plan = plan body; boxed = true; name = name body }

  -- each request with the callback of the body at its place, as far as there are both
  abbrev pub requests_of : List Spec → List B → List (Spec × CallbackState)
  requests_of [] bodies = []
  requests_of (spec ∷ specs) [] = []
  requests_of (spec ∷ specs) (body ∷ bodies) = (spec, callback_of body) ∷ requests_of specs bodies
