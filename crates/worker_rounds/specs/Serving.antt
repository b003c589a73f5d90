-- What serving a channel with workers comes to.
use Rattle.std.specs.List.{AllByRecursion}
use Rattle.std.specs.List.Sorted.{IsPermutation}
use Rattle.std.specs.Prelude.{Bool, List, false, flat_map, map, true, ℕ, ◌++◌, ◌∷◌, ◌≡◌, ◌≤◌}
use Rattle.chan_types.specs.declared.orders.Orders.{Orders}
use Rattle.channel_model.specs.Known.{Known}
use Rattle.delivery_pool.specs.Pools.{AreAll, IsNewPool, PoolState}
use Rattle.delivery_pool.specs.Spending.{Drains, SpendsEach}
use Rattle.delivery_pool.specs.declared.message.Message.{Message}
use Rattle.delivery_pool.specs.declared.working.Worker.{Worker}
use Rattle.pooled_places.specs.Delivery.{SpendsTicket}
use Rattle.pooled_places.specs.Standing.{AreStill}
use Rattle.pooled_places.specs.Tickets.{TicketState}
use Rattle.shared_channel.specs.Passes.{PassView, desk_of}
use Rattle.ticket_queue.specs.Passes.{PassState, QueueState}
use Rattle.worker_rounds.specs.Course.{Deed, DoesEach, tickets_spent, tickets_taken}
use Rattle.worker_rounds.specs.Crews.{places_of, rights_of}
use Rattle.worker_rounds.specs.Rounds.{RunsRounds}

-- a new pool for so many workers, and all of its passes
pub record IsPoolFor (count : ℕ) (pool : PoolState TicketState) (rights : List (PassState (Message TicketState))) : Type 0 where
  pub few : count ≤ 16
  pub room : ℕ
  pub new : IsNewPool count room pool rights

-- a worker's place before and behind, and the tickets that it spent meanwhile
pub record Stint : Type 0 where
  pub old : PassView
  pub tickets : List TicketState
  pub new : PassView

-- they were spent through that place, one after the other, by callbacks' orders
abbrev pub IsStint : Orders → Stint → Type 0
IsStint orders stint = SpendsEach SpendsTicket (orders, stint.old) stint.tickets (orders, stint.new)

module _ {P : Type 0} (steps : P → Known → P → Known → Type 0) (ends : P → Known → Type 0) (orders : Orders) where
  -- the owner of a channel took requests, handed out their tickets or spent them at once, and had its pump make steps, until all was done; each worker spent tickets
  pub record HasServed (owner : PassView) (workers : List PassView) (pump_old : P) (owner_new : PassView) (workers_new : List PassView) (pump_new : P) : Type 0 where
    pub deeds : List Deed
    pub course : DoesEach steps orders deeds (owner, pump_old) (owner_new, pump_new)
    pub ended : ends pump_new (desk_of owner_new)
    pub stints : List Stint
    pub olds : map (λ stint. stint.old) stints ≡ workers
    pub news : map (λ stint. stint.new) stints ≡ workers_new
    pub each : AllByRecursion (IsStint orders) stints
    -- each ticket that was taken was spent once
    pub once : IsPermutation (tickets_taken deeds) (tickets_spent deeds ++ flat_map (λ stint. stint.tickets) stints)

  -- nothing was done, for want of memory; or the channel was served
  abbrev pub Serves : Bool → PassView → List PassView → P → PassView → List PassView → P → Type 0
  Serves true owner workers pump_old owner_new workers_new pump_new = (owner_new ≡ owner) × (workers_new ≡ workers) × (pump_new ≡ pump_old)
  Serves false owner workers pump_old owner_new workers_new pump_new = HasServed owner workers pump_old owner_new workers_new pump_new

  -- rounds were run over a pool until all was done, and these are its passes, and the workers' places still: whoever spends what nobody has received, through the first worker's place, has served the channel
  pub record IsRun (queue : QueueState (Message TicketState)) (owner : PassView) (workers : List PassView) (pump_old : P) (owner_new : PassView) (workers_new : List PassView) (pump_new : P) (rights : List (PassState (Message TicketState))) : Type 0 where
    pub all : AreAll queue rights
    pub still : AreStill workers workers_new
    pub drained : (spent : ℕ) (first last : PassView) (others : List PassView) → workers_new ≡ first ∷ others → Drains SpendsTicket rights spent (orders, first) (orders, last) → HasServed owner workers pump_old owner_new (last ∷ others) pump_new

-- what nobody had received was spent through the first of these places
pub record DrainsFirst (orders : Orders) (rights : List (PassState (Message TicketState))) (olds news : List PassView) : Type 0 where
  pub first : PassView
  pub last : PassView
  pub others : List PassView
  pub olds_are : olds ≡ first ∷ others
  pub news_are : news ≡ last ∷ others
  pub spent : ℕ
  pub drains : Drains SpendsTicket rights spent (orders, first) (orders, last)

module _ {P S : Type 0} (steps : P → Known → P → Known → Type 0) (place : S → PassView) (orders : S → Orders) (given : Orders) (ends : P → Known → Type 0) where
  -- rounds were run until all was done, and the workers were taken apart into their passes of the channel and, behind the sender's, of the pool
  pub record RunsOut (owner_old : PassView × P) (right_old : PassState (Message TicketState)) (crew : List (Worker TicketState S)) (owner_new : PassView × P) (passes : List PassView) (rights : List (PassState (Message TicketState))) : Type 0 where
    pub right : PassState (Message TicketState)
    pub news : List (Worker TicketState S)
    pub runs : RunsRounds steps place orders given ends owner_old right_old crew owner_new right news
    pub passes_are : passes ≡ places_of place news
    pub rights_are : rights ≡ right ∷ rights_of news
