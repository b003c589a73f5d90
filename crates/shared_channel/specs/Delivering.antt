-- How several ready requests are delivered: taken one after the other, and then their tickets are spent.
use Rattle.std.specs.Prelude.{List, None, Some, [], length, ℕ, ◌<◌, ◌∷◌, ◌≡◌, ◌⊎◌}
use Rattle.chan_types.specs.declared.orders.Orders.{Orders}
use Rattle.chan_types.specs.declared.ticket.Ticket.{Ticket}
use Rattle.channel_model.specs.Known.{Calls}
use Rattle.channel_model.specs.Meanings.{Takes}
use Rattle.completion_ticket.specs.States.{CallbackState, CalledState}
use Rattle.shared_channel.specs.Passes.{PassView, desk_of}
use Rattle.shared_channel.specs.Spending.{Spends}
use Rattle.shared_channel.specs.Under.{plan_of}

-- these tickets were taken through a pass, one after the other
abbrev pub TakesEach : PassView → List (Ticket CallbackState) → PassView → Type 0
TakesEach old [] new = new ≡ old
TakesEach old (ticket ∷ tickets) new = (middle : PassView) × Calls (Takes plan_of (Some ticket)) 0 (desk_of old) (desk_of middle) × TakesEach middle tickets new

-- there are as many tickets as were wanted; or fewer, and then none was ready
abbrev pub EndsTaking : ℕ → List (Ticket CallbackState) → PassView → PassView → Type 0
EndsTaking most tickets old new = ((length tickets ≡ most) × (new ≡ old)) ⊎ ((length tickets < most) × Calls (Takes plan_of None) 0 (desk_of old) (desk_of new))

-- up to so many tickets were taken, as long as a request was ready
pub record TakesUpTo (most : ℕ) (old : PassView) (tickets : List (Ticket CallbackState)) (new : PassView) : Type 0 where
  pub middle : PassView
  pub each : TakesEach old tickets middle
  pub ending : EndsTaking most tickets middle new

-- these tickets were spent through a pass, one after the other, and this is left of their callbacks
abbrev pub SpendsEach : Orders → List (Ticket CallbackState) → PassView → List CalledState → PassView → Type 0
SpendsEach orders [] old [] new = new ≡ old
SpendsEach orders [] old (called ∷ more) new = ⊥
SpendsEach orders (ticket ∷ tickets) old [] new = ⊥
SpendsEach orders (ticket ∷ tickets) old (called ∷ more) new = (middle : PassView) × Spends orders ticket old called middle × SpendsEach orders tickets middle more new

-- up to so many ready requests were taken, and then all of their tickets spent
pub record DeliversUpTo (orders : Orders) (most : ℕ) (old : PassView) (called : List CalledState) (new : PassView) : Type 0 where
  pub tickets : List (Ticket CallbackState)
  pub middle : PassView
  pub takes : TakesUpTo most old tickets middle
  pub spends : SpendsEach orders tickets middle called new
