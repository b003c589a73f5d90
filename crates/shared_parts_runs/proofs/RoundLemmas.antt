-- The passes behind a round: they are the queue's still, with the same shares.
use Rattle.std.proofs.Common.{◌≡◌, ◌∙◌, ℕ, List, ◌++◌, length, ap, subst, sym}
use Rattle.std.proofs.Math.Seq.{take-append_seam}
use lib.ListN.{take}
use Rattle.ticket_queue.specs.Passes.{IsAt, IsSamePass, PassState, QueueState}
use Rattle.delivery_pool.specs.Parts.{EachDoes}
use Rattle.delivery_pool.specs.Pools.{PoolState}
use Rattle.delivery_pool.specs.Rounds.{WorkersPart}
use Rattle.delivery_pool.specs.Spending.{OffersAll}
use Rattle.delivery_pool.specs.declared.message.Message.{Message}
use Rattle.delivery_pool.specs.declared.working.Worker.{Worker}
use Rattle.delivery_pool.proofs.Theorems.{each_keeps, offers_same, sum_stays, works_same}
use Rattle.shared_parts_runs.specs.Crews.{AreWorkers, worker_shares}

module _ {T S State : Type 0} (spends : State → T → State → Type 0) (state : S → State) where
  at_same : (queue : QueueState (Message T)) (old new : PassState (Message T)) → IsSamePass old new → IsAt queue old → IsAt queue new
  at_same queue old new same at = (ap (λ (p : PassState (Message T)). p.table) same ∙ at.0, ap (λ (p : PassState (Message T)). p.key) same ∙ at.1)

  worker_same : (old new : Worker T S) → WorkersPart spends state old new → IsSamePass old.pass new.pass
  worker_same old new works = works_same spends new.count old.pass (state old.spender) new.pass (state new.spender) works

  pub workers_stay : (queue : QueueState (Message T)) (olds news : List (Worker T S)) → EachDoes (WorkersPart spends state) olds news → AreWorkers queue olds → AreWorkers queue news
  workers_stay queue olds news each all =
      each_keeps (WorkersPart spends state) (λ worker. IsAt queue worker.pass) (λ old new works at. at_same queue old.pass new.pass (worker_same old new works) at) olds news each all

  pub shares_stay : (olds news : List (Worker T S)) → EachDoes (WorkersPart spends state) olds news → worker_shares news ≡ worker_shares olds
  shares_stay olds news each = sum_stays (WorkersPart spends state) (λ worker. worker.pass.share) (λ old new works. ap (λ (p : PassState (Message T)). p.share) (worker_same old new works)) olds news each

  -- and the sender's pass
  pub sender_at : (pool : PoolState T) (tickets : List T) (old : PassState (Message T)) (before : State) (new : PassState (Message T)) (after : State) → OffersAll spends pool tickets old before new after → IsAt pool.queue old → IsAt pool.queue new
  sender_at pool tickets old before new after offers at = at_same pool.queue old new (offers_same spends pool tickets old before new after offers) at

  pub sender_share : (pool : PoolState T) (tickets : List T) (old : PassState (Message T)) (before : State) (new : PassState (Message T)) (after : State) → OffersAll spends pool tickets old before new after → new.share ≡ old.share
  sender_share pool tickets old before new after offers = ap (λ (p : PassState (Message T)). p.share) (offers_same spends pool tickets old before new after offers)

-- a slice of a whole list, written back
pub written_back : {X : Type 0} (n : ℕ) (news rest : List X) → n ≡ length news → take n (news ++ rest) ≡ news
written_back n news rest is = subst (λ m. take m (news ++ rest) ≡ news) (sym is) (take-append_seam news rest)
