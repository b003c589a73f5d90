-- What contracts see of a pool, and of the tickets that its passes sent and received.
use Rattle.std.specs.List.{AllByRecursion}
use Rattle.std.specs.Prelude.{List, [], flat_map, map, replicate, sum_by, ℕ, ◌++◌, ◌∷◌, ◌≡◌}
use Rattle.ticket_queue.specs.Passes.{IsAt, IsNewQueue, PassState, QueueState}
use Rattle.delivery_pool.specs.declared.message.Message.{Message}
use Rattle.delivery_pool.specs.declared.message.Message.TheVariants.{Stop, Ticket}

-- a pool: its queue, and how many workers it has
pub record PoolState (T : Type 0) : Type 0 where
  pub queue : QueueState (Message T)
  pub workers : ℕ

module _ {T : Type 0} where
  -- these tickets as messages
  abbrev pub messages_of : List T → List (Message T)
  messages_of tickets = map (λ ticket. Ticket ticket) tickets

  -- the tickets among these messages, in order
  abbrev pub tickets_in : List (Message T) → List T
  tickets_in [] = []
  tickets_in (Stop ∷ messages) = tickets_in messages
  tickets_in (Ticket ticket ∷ messages) = ticket ∷ tickets_in messages

  -- the tickets that these passes have sent, and those that they have received
  abbrev pub tickets_sent : List (PassState (Message T)) → List T
  tickets_sent passes = flat_map (λ pass. tickets_in pass.sent) passes

  abbrev pub tickets_got : List (PassState (Message T)) → List T
  tickets_got passes = flat_map (λ pass. tickets_in pass.got) passes

  -- the pass behind so many stops that it sent
  abbrev pub after_stops : ℕ → PassState (Message T) → PassState (Message T)
  after_stops count pass = record pass { sent = pass.sent ++ replicate count Stop }

  -- a pool with so many workers and so much room, and all of its passes: the sender's, and one for each worker
  pub record IsNewPool (workers room : ℕ) (pool : PoolState T) (passes : List (PassState (Message T))) : Type 0 where
    pub workers_are : pool.workers ≡ workers
    pub queue_is : IsNewQueue workers room pool.queue passes

  -- these are all of a pool's passes, each once: a pass can't be copied, so its shares are in one of them alone
  pub record AreAll (queue : QueueState (Message T)) (passes : List (PassState (Message T))) : Type 0 where
    pub each : AllByRecursion (IsAt queue) passes
    pub shares : sum_by (λ pass. pass.share) passes ≡ 1024

  -- a pass has sent and received what these passes did, one after the other, and has their shares
  pub record IsJoined (passes : List (PassState (Message T))) (all : PassState (Message T)) : Type 0 where
    pub share : all.share ≡ sum_by (λ pass. pass.share) passes
    pub sent : all.sent ≡ flat_map (λ pass. pass.sent) passes
    pub got : all.got ≡ flat_map (λ pass. pass.got) passes
