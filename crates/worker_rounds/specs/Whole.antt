-- A channel with workers, from its making to its end.
use Rattle.std.specs.Prelude.{List, Result, [], ℕ, ◌+◌, ◌∷◌, ◌≡◌}
use Rattle.atomic_table.specs.Seated.{TableId}
use Rattle.chan_types.specs.declared.spec.Spec.{Spec}
use Rattle.channel_model.specs.Known.{Calls, Known}
use Rattle.channel_model.specs.Meanings.{Accepts}
use Rattle.channel_model.specs.Setting.{Setting}
use Rattle.channel_model.specs.declared.answers.Refused.{Refused}
use Rattle.completion_ticket.specs.States.{CallbackState}
use Rattle.shared_channel.specs.Finishing.{Finishes}
use Rattle.shared_channel.specs.Making.{IsNewChannel}
use Rattle.shared_channel.specs.Passes.{PassView, desk_of}
use Rattle.shared_channel.specs.Under.{plan_of}
use Rattle.worker_rounds.specs.Serving.{Serves}
use Rattle.worker_rounds.specs.declared.whole.Plan.{Plan}
use Rattle.worker_rounds.specs.declared.whole.Whole.{Whole}

-- a request was handed to the channel through a place, which accepted it or had no memory for it
abbrev pub AsksOne : Spec × CallbackState → PassView → PassView → Type 0
AsksOne request old new = (reply : Result ℕ (Refused CallbackState)) × Calls (Accepts plan_of request.0 request.1 reply) 0 (desk_of old) (desk_of new)

-- each of these requests was, in order, and nothing else was done
abbrev pub AsksEach : List (Spec × CallbackState) → PassView → PassView → Type 0
AsksEach [] old new = new ≡ old
AsksEach (request ∷ requests) old new = (middle : PassView) × AsksOne request old middle × AsksEach requests middle new

-- a channel was made, with a pass for its owner and one for each worker; the requests were handed to it through the owner's; it was served, and ended
pub record IsWhole {P : Type 0} (steps : P → Known → P → Known → Type 0) (ends : P → Known → Type 0) (setting : Setting) (plan : Plan) (requests : List (Spec × CallbackState)) (pump : P) (whole : Whole P) : Type 0 where
  pub lock : TableId
  pub owner : PassView
  pub workers : List PassView
  pub made : IsNewChannel lock setting (plan.workers + 1) (owner ∷ workers)
  pub asked : PassView
  pub asks : AsksEach requests owner asked
  pub owner_new : PassView
  pub workers_new : List PassView
  pub serves : Serves steps ends plan.orders whole.refused asked workers pump owner_new workers_new whole.pump
  -- the end of a shared channel: the journal is lawful, its entries are these passes' alone, and each accepted request was called once, with its fate
  pub finishes : Finishes (λ journal. journal.entries.items) plan.orders (owner_new ∷ workers_new) whole.finished
