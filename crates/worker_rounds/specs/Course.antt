-- What the owner of a channel does through its place, one thing after the other.
use Rattle.std.specs.List.Sorted.{IsPermutation}
use Rattle.std.specs.Prelude.{List, None, Option, Some, [], ◌++◌, ◌∷◌, ◌≡◌}
use Rattle.chan_types.specs.declared.orders.Orders.{Orders}
use Rattle.channel_model.specs.Known.{Calls, Known}
use Rattle.channel_model.specs.Meanings.{Takes}
use Rattle.completion_ticket.specs.States.{CalledState}
use Rattle.delivery_pool.specs.Pools.{tickets_in}
use Rattle.delivery_pool.specs.declared.message.Message.{Message}
use Rattle.pooled_places.specs.Tickets.{TicketState}
use Rattle.shared_channel.specs.Passes.{PassView, desk_of}
use Rattle.shared_channel.specs.Spending.{Spends}
use Rattle.shared_channel.specs.Under.{plan_of}
use Rattle.ticket_queue.specs.Passes.{PassState}
use Rattle.worker_rounds.specs.Going.{GoesFreely}

-- the owner takes the first ready request; or takes it and spends its ticket at once; finds none ready; or has its pump make a step
pub data Deed : Type 0 where
  taking : TicketState → Deed
  delivering : TicketState → Deed
  finding_none : Deed
  stepping : Deed

-- the tickets that are taken, and those that are spent, in order
abbrev pub tickets_taken : List Deed → List TicketState
tickets_taken [] = []
tickets_taken (taking its ∷ deeds) = its ∷ tickets_taken deeds
tickets_taken (delivering its ∷ deeds) = its ∷ tickets_taken deeds
tickets_taken (finding_none ∷ deeds) = tickets_taken deeds
tickets_taken (stepping ∷ deeds) = tickets_taken deeds

abbrev pub tickets_spent : List Deed → List TicketState
tickets_spent [] = []
tickets_spent (taking its ∷ deeds) = tickets_spent deeds
tickets_spent (delivering its ∷ deeds) = its ∷ tickets_spent deeds
tickets_spent (finding_none ∷ deeds) = tickets_spent deeds
tickets_spent (stepping ∷ deeds) = tickets_spent deeds

-- the first ready request was taken through a place; or nothing was done
abbrev pub TakesFirst : Option TicketState → PassView → PassView → Type 0
TakesFirst None old new = new ≡ old
TakesFirst (Some its) old new = Calls (Takes plan_of (Some its.ticket)) 0 (desk_of old) (desk_of new) × (its.channel ≡ old.lock)

module _ {P : Type 0} (steps : P → Known → P → Known → Type 0) where
  -- a pump made a step at a place, where it took nothing and was on nobody's command
  abbrev pub MakesStep : PassView × P → PassView × P → Type 0
  MakesStep old new = GoesFreely (desk_of old.0) (desk_of new.0) × steps old.1 (desk_of old.0) new.1 (desk_of new.0)

  -- one of these was done at a place by callbacks' orders
  abbrev pub DoesOne : Orders → Deed → PassView × P → PassView × P → Type 0
  DoesOne orders (taking its) old new = TakesFirst (Some its) old.0 new.0 × (new.1 ≡ old.1)
  DoesOne orders (delivering its) old new =
      (middle : PassView) × (called : CalledState) × TakesFirst (Some its) old.0 middle × Spends orders its.ticket middle called new.0 × (new.1 ≡ old.1)
  DoesOne orders finding_none old new = Calls (Takes plan_of None) 0 (desk_of old.0) (desk_of new.0) × (new.1 ≡ old.1)
  DoesOne orders stepping old new = MakesStep old new

  -- these were done, one after the other, and nothing else
  abbrev pub DoesEach : Orders → List Deed → PassView × P → PassView × P → Type 0
  DoesEach orders [] old new = new ≡ old
  DoesEach orders (deed ∷ deeds) old new = (middle : PassView × P) × DoesOne orders deed old middle × DoesEach orders deeds middle new

  -- the first ready request was taken, or none is to be taken in this round; before that none was ready, and steps were made
  pub record Draws (place_old : PassView) (pump_old : P) (drawn : Option TicketState) (place_new : PassView) (pump_new : P) : Type 0 where
    pub deeds : List Deed
    pub waiting : PassView
    -- nothing is taken or spent there, so the orders don't matter
    pub course : (orders : Orders) → DoesEach orders deeds (place_old, pump_old) (waiting, pump_new)
    pub taken_are : tickets_taken deeds ≡ []
    pub spent_are : tickets_spent deeds ≡ []
    pub takes : TakesFirst drawn waiting place_new

  -- the owner did these things, and of the tickets that it took it sent these through its pass of the pool, and spent the others, each as soon as it had taken it
  pub record Shares (orders : Orders) (old : PassView × P) (right_old : PassState (Message TicketState)) (new : PassView × P) (right_new : PassState (Message TicketState)) : Type 0 where
    pub deeds : List Deed
    pub course : DoesEach orders deeds old new
    pub sent : List TicketState
    pub sends : tickets_in right_new.sent ≡ tickets_in right_old.sent ++ sent
    pub shared : IsPermutation (tickets_taken deeds) (sent ++ tickets_spent deeds)
    pub right_is : right_new ≡ record right_old { sent = right_new.sent }
