-- The passes of a pool, apart from each other.
use Rattle.std.specs.List.{AllByRecursion}
use Rattle.std.specs.Prelude.{List, sum_by, ℕ}
use Rattle.ticket_queue.specs.Passes.{IsAt, MayReceive, PassState, QueueState}
use Rattle.delivery_pool.specs.declared.message.Message.{Message}
use Rattle.delivery_pool.specs.declared.working.Worker.{Worker}

module _ {T : Type 0} where
  -- these passes are the queue's
  abbrev pub ArePasses : QueueState (Message T) → List (PassState (Message T)) → Type 0
  ArePasses queue passes = AllByRecursion (IsAt queue) passes

  -- and they may receive
  abbrev pub AreReceivers : QueueState (Message T) → List (PassState (Message T)) → Type 0
  AreReceivers queue passes = AllByRecursion (λ pass. IsAt queue pass × MayReceive pass) passes

  -- the shares of these passes
  abbrev pub pass_shares : List (PassState (Message T)) → ℕ
  pass_shares passes = sum_by (λ pass. pass.share) passes

module _ {T S : Type 0} where
  -- the passes of these workers are the queue's
  abbrev pub AreWorkers : QueueState (Message T) → List (Worker T S) → Type 0
  AreWorkers queue crew = AllByRecursion (λ worker. IsAt queue worker.pass) crew

  -- the shares of their passes
  abbrev pub worker_shares : List (Worker T S) → ℕ
  worker_shares crew = sum_by (λ worker. worker.pass.share) crew
