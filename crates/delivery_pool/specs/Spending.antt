-- What is done with a pool's tickets: who spent which, and which were offered.
use Rattle.std.specs.List.Sorted.{IsPermutation}
use Rattle.std.specs.Prelude.{List, [], length, min, ℕ, ◌+◌, ◌++◌, ◌-◌, ◌^◌, ◌∷◌, ◌≡◌, ◌⊎◌}
use Rattle.ticket_queue.specs.Passes.{PassState, QueueState, WasFull, after_send}
use Rattle.delivery_pool.specs.declared.message.Message.{Message}
use Rattle.delivery_pool.specs.declared.message.Message.TheVariants.{Stop, Ticket}
use Rattle.delivery_pool.specs.Pools.{PoolState, after_stops, messages_of, tickets_got, tickets_in, tickets_sent}

module _ {T : Type 0} where
  -- so many tickets there are; what is above the greatest count counts as that
  abbrev pub IsCount : ℕ → List T → Type 0
  IsCount count tickets = count ≡ min (length tickets) (2 ^ 64 - 1)

module _ {T S : Type 0} (spends : S → T → S → Type 0) where
  -- these tickets were spent, one after the other
  abbrev pub SpendsEach : S → List T → S → Type 0
  SpendsEach old [] new = new ≡ old
  SpendsEach old (ticket ∷ tickets) new = (middle : S) × spends old ticket middle × SpendsEach middle tickets new

  -- tickets were received, and then one stop, and nothing else; each of the tickets was spent
  pub record Works (count : ℕ) (old : PassState (Message T)) (before : S) (new : PassState (Message T)) (after : S) : Type 0 where
    pub tickets : List T
    pub received : new ≡ record old { got = old.got ++ (messages_of tickets ++ Stop ∷ []) }
    pub spent : SpendsEach before tickets after
    pub counted : IsCount count tickets

  -- what nobody had received was spent: with it, the tickets that were sent are, up to order, those that were received
  pub record Drains (passes : List (PassState (Message T))) (count : ℕ) (before after : S) : Type 0 where
    pub tickets : List T
    pub spent : SpendsEach before tickets after
    pub all : IsPermutation (tickets_sent passes) (tickets_got passes ++ tickets)
    pub counted : IsCount count tickets

  -- the same of the one pass that all others were joined into
  pub record SpendsRest (pass : PassState (Message T)) (count : ℕ) (before after : S) : Type 0 where
    pub tickets : List T
    pub spent : SpendsEach before tickets after
    pub all : IsPermutation (tickets_in pass.sent) (tickets_in pass.got ++ tickets)
    pub counted : IsCount count tickets

  -- a ticket was spent, and counted
  abbrev pub SpendsTicket : T → ℕ → ℕ → S → S → Type 0
  SpendsTicket ticket count next before after = (next ≡ min (count + 1) (2 ^ 64 - 1)) × spends before ticket after

  -- a message was taken care of: a stop changes nothing
  abbrev pub SpendsMessage : Message T → ℕ → ℕ → S → S → Type 0
  SpendsMessage Stop count next before after = (next ≡ count) × (after ≡ before)
  SpendsMessage (Ticket ticket) count next before after = SpendsTicket ticket count next before after

  -- the ticket was sent; or the queue was full, and it was spent here
  abbrev pub OffersOne : QueueState (Message T) → T → PassState (Message T) → S → PassState (Message T) → S → Type 0
  OffersOne queue ticket old before new after =
      ((new ≡ after_send old (Ticket ticket)) × (after ≡ before)) ⊎ ((new ≡ old) × WasFull queue old × spends before ticket after)

  -- each of these tickets was sent or spent here, one after the other
  abbrev pub OffersEach : QueueState (Message T) → List T → PassState (Message T) → S → PassState (Message T) → S → Type 0
  OffersEach queue [] old before new after = (new ≡ old) × (after ≡ before)
  OffersEach queue (ticket ∷ tickets) old before new after =
      (middle : PassState (Message T)) × (between : S) × OffersOne queue ticket old before middle between × OffersEach queue tickets middle between new after

  -- and then each worker was told to stop
  pub record OffersAll (pool : PoolState T) (tickets : List T) (old : PassState (Message T)) (before : S) (new : PassState (Message T)) (after : S) : Type 0 where
    pub middle : PassState (Message T)
    pub each : OffersEach pool.queue tickets old before middle after
    pub stops : new ≡ after_stops pool.workers middle
