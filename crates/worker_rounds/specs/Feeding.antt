-- A round whose tickets come one by one.
use Rattle.std.specs.Prelude.{List, None, Option, Some, [], ◌∷◌, ◌≡◌, ◌⊎◌}
use Rattle.ticket_queue.specs.Passes.{PassState, QueueState, WasFull, after_send}
use Rattle.delivery_pool.specs.declared.message.Message.{Message}
use Rattle.delivery_pool.specs.declared.message.Message.TheVariants.{Ticket}
use Rattle.delivery_pool.specs.Pools.{PoolState, after_stops}

module _ {T S : Type 0} (spends : S → T → S → Type 0) where
  -- a ticket in hand was sent; or the queue was full, and it was spent here
  abbrev pub FeedsOne : QueueState (Message T) → T → S → PassState (Message T) → S → PassState (Message T) → Type 0
  FeedsOne queue ticket before old after new =
      ((new ≡ after_send old (Ticket ticket)) × (after ≡ before)) ⊎ ((new ≡ old) × WasFull queue old × spends before ticket after)

module _ {T S : Type 0} (draws : S → Option T → S → Type 0) (spends : S → T → S → Type 0) where
  -- each of these tickets was drawn, and then sent or spent here
  abbrev pub FeedsEach : QueueState (Message T) → List T → S → PassState (Message T) → S → PassState (Message T) → Type 0
  FeedsEach queue [] before old after new = (after ≡ before) × (new ≡ old)
  FeedsEach queue (ticket ∷ tickets) before old after new =
      (drawn : S) × (between : S) × (middle : PassState (Message T)) × draws before (Some ticket) drawn × FeedsOne spends queue ticket drawn old between middle × FeedsEach queue tickets between middle after new

  -- and then no more was drawn, and each worker was told to stop
  pub record Feeds (pool : PoolState T) (before : S) (old : PassState (Message T)) (after : S) (new : PassState (Message T)) : Type 0 where
    pub tickets : List T
    pub last : S
    pub middle : PassState (Message T)
    pub each : FeedsEach pool.queue tickets before old last middle
    pub none : draws last None after
    pub stops : new ≡ after_stops pool.workers middle
