-- The workers of a pool, by their places and by their passes of the pool.
use Rattle.std.specs.List.{AllByRecursion}
use Rattle.std.specs.Prelude.{List, [], map, ◌++◌, ◌∷◌, ◌≡◌, ⊤}
use Rattle.chan_types.specs.declared.orders.Orders.{Orders}
use Rattle.delivery_pool.specs.Pools.{PoolState, tickets_in}
use Rattle.delivery_pool.specs.Spending.{SpendsEach}
use Rattle.delivery_pool.specs.declared.message.Message.{Message}
use Rattle.delivery_pool.specs.declared.working.Worker.{Worker}
use Rattle.pooled_places.specs.Delivery.{SpendsTicket}
use Rattle.pooled_places.specs.Tickets.{TicketState}
use Rattle.shared_channel.specs.Passes.{PassView}
use Rattle.ticket_queue.specs.Passes.{PassState, QueueState, new_pass}

-- the pool's passes of workers, as they are made
abbrev pub AreNewRights : QueueState (Message TicketState) → List (PassState (Message TicketState)) → Type 0
AreNewRights queue rights = AllByRecursion (λ right. right ≡ new_pass queue 1) rights

module _ {S : Type 0} where
  -- the pool's passes of these workers
  abbrev pub rights_of : List (Worker TicketState S) → List (PassState (Message TicketState))
  rights_of crew = map (λ worker. worker.pass) crew

  -- their places
  abbrev pub places_of : (S → PassView) → List (Worker TicketState S) → List PassView
  places_of place crew = map (λ worker. place worker.spender) crew

  -- they are of this pool, whose passes they have as they were made, and go by these orders
  abbrev pub AreNewWorkers : (S → Orders) → PoolState TicketState → Orders → List (Worker TicketState S) → Type 0
  AreNewWorkers orders pool given crew =
      AllByRecursion (λ worker. (worker.pool.now ≡ pool) × (worker.pass ≡ new_pass pool.queue 1) × (orders worker.spender ≡ given)) crew

  module _ (place : S → PassView) (orders : S → Orders) where
    -- a worker spent through its place what its pass of the pool received meanwhile, and sent nothing
    pub record HasWorked (old new : Worker TicketState S) : Type 0 where
      pub tickets : List TicketState
      pub spent : SpendsEach SpendsTicket (orders old.spender, place old.spender) tickets (orders new.spender, place new.spender)
      pub got : tickets_in new.pass.got ≡ tickets_in old.pass.got ++ tickets
      pub pass_is : new.pass ≡ record old.pass { got = new.pass.got }

    -- the same of each of these workers, one by one
    abbrev pub AllHaveWorked : List (Worker TicketState S) → List (Worker TicketState S) → Type 0
    AllHaveWorked [] [] = ⊤
    AllHaveWorked [] (new ∷ news) = ⊥
    AllHaveWorked (old ∷ olds) [] = ⊥
    AllHaveWorked (old ∷ olds) (new ∷ news) = HasWorked old new × AllHaveWorked olds news
