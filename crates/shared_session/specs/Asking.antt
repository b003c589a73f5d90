-- How the requests of a session are accepted through a pass, before anything else is done through it.
use Rattle.std.specs.Prelude.{Bool, Err, List, Ok, [], false, map, true, ℕ, ◌++◌, ◌∷◌, ◌≡◌}
use Rattle.chan_types.specs.declared.spec.Spec.{Spec}
use Rattle.channel_model.specs.Commands.{Asking}
use Rattle.channel_model.specs.Known.{Calls}
use Rattle.channel_model.specs.Meanings.{Accepts}
use Rattle.channel_model.specs.declared.answers.Refused.{Refused}
use Rattle.completion_ticket.specs.States.{CallbackState}
use Rattle.shared_channel.specs.Passes.{PassView, desk_of}
use Rattle.shared_channel.specs.Under.{plan_of}

-- a request as it is asked, with the script of its callback
abbrev pub asking_of : Spec × CallbackState → Asking
asking_of request = record { spec = request.0; script = plan_of request.1 }

-- the same of each of these requests
abbrev pub askings : List (Spec × CallbackState) → List Asking
askings requests = map asking_of requests

-- a request was accepted; or it was refused
abbrev pub AsksOne : Bool → Spec × CallbackState → PassView → PassView → Type 0
AsksOne true request old new = (number : ℕ) × Calls (Accepts plan_of request.0 request.1 (Ok number)) 0 (desk_of old) (desk_of new)
AsksOne false request old new = (refused : Refused CallbackState) × Calls (Accepts plan_of request.0 request.1 (Err refused)) 0 (desk_of old) (desk_of new)

-- each of these was accepted, in order, and nothing else was done
abbrev pub AcceptsEach : List (Spec × CallbackState) → PassView → PassView → Type 0
AcceptsEach [] old new = new ≡ old
AcceptsEach (request ∷ requests) old new = (middle : PassView) × AsksOne true request old middle × AcceptsEach requests middle new

-- none of these requests is left; or the first of them was refused
abbrev pub EndsAsking : Bool → List (Spec × CallbackState) → PassView → PassView → Type 0
EndsAsking true left old new = (left ≡ []) × (new ≡ old)
EndsAsking false left old new = (request : Spec × CallbackState) × (others : List (Spec × CallbackState)) × (left ≡ request ∷ others) × AsksOne false request old new

-- all of these requests were accepted, in order; or the first of them, up to one that was refused
pub record AsksAll (requests : List (Spec × CallbackState)) (all : Bool) (old new : PassView) : Type 0 where
  pub asked : List (Spec × CallbackState)
  pub left : List (Spec × CallbackState)
  pub parts : requests ≡ asked ++ left
  pub middle : PassView
  pub accepts : AcceptsEach asked old middle
  pub ends : EndsAsking all left middle new
