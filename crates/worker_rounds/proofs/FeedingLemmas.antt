-- Tickets that are drawn and offered, one after the other.
use Rattle.std.proofs.Common.{◌≡◌, ◌∙◌, ℕ, List, [], ◌∷◌, ◌++◌, Option, Some, None, length, refl, ap, sym, subst, inl, inr, ⊎_elim}
use Rattle.std.proofs.Math.Seq.{take-append_seam}
use lib.ListN.{take}
use Rattle.ticket_queue.specs.Passes.{IsSamePass, PassState, QueueState, after_send}
use Rattle.delivery_pool.specs.declared.message.Message.{Message}
use Rattle.delivery_pool.specs.declared.message.Message.TheVariants.{Ticket}
use Rattle.delivery_pool.specs.Pools.{PoolState, after_stops}
use Rattle.worker_rounds.specs.Feeding.{Feeds, FeedsEach, FeedsOne}

module _ {T S : Type 0} (draws : S → Option T → S → Type 0) (spends : S → T → S → Type 0) where
  -- so far these tickets were drawn, and sent or spent
  pub record HasFed (queue : QueueState (Message T)) (before : S) (old : PassState (Message T)) (after : S) (new : PassState (Message T)) : Type 0 where
    pub tickets : List T
    pub each : FeedsEach draws spends queue tickets before old after new

  pub fed_none : (queue : QueueState (Message T)) (before : S) (old : PassState (Message T)) → HasFed queue before old before old
  fed_none queue before old = record { tickets = []; each = (refl, refl) }

  each_more : (queue : QueueState (Message T)) (tickets : List T) (ticket : T) (before between drawn after : S) (old middle new : PassState (Message T)) → FeedsEach draws spends queue tickets before old between middle
      → draws between (Some ticket) drawn → FeedsOne spends queue ticket drawn middle after new → FeedsEach draws spends queue (tickets ++ ticket ∷ []) before old after new
  each_more queue [] ticket before between drawn after old middle new same draw one =
      (drawn, after, new, subst (λ s. draws s (Some ticket) drawn) same.0 draw, subst (λ p. FeedsOne spends queue ticket drawn p after new) same.1 one, (refl, refl))
  each_more queue (t ∷ ts) ticket before between drawn after old middle new each draw one =
      (each.0, each.1, each.2, each.3, each.4, each_more queue ts ticket each.1 between drawn after each.2 middle new each.5 draw one)

  pub fed_more : (queue : QueueState (Message T)) (ticket : T) (before between drawn after : S) (old middle new : PassState (Message T)) → HasFed queue before old between middle
      → draws between (Some ticket) drawn → FeedsOne spends queue ticket drawn middle after new → HasFed queue before old after new
  fed_more queue ticket before between drawn after old middle new so_far draw one = record {
    tickets = so_far.tickets ++ ticket ∷ [];
    each = each_more queue so_far.tickets ticket before between drawn after old middle new so_far.each draw one;
  }

  pub fed_all : (pool : PoolState T) (before last after : S) (old middle new : PassState (Message T)) → HasFed pool.queue before old last middle → draws last None after → new ≡ after_stops pool.workers middle
      → Feeds draws spends pool before old after new
  fed_all pool before last after old middle new so_far none stops = record { tickets = so_far.tickets; last = last; middle = middle; each = so_far.each; none = none; stops = stops }

-- a slice of a whole list, written back
pub written_back : {X : Type 0} (n : ℕ) (news rest : List X) → n ≡ length news → take n (news ++ rest) ≡ news
written_back n news rest is = subst (λ m. take m (news ++ rest) ≡ news) (sym is) (take-append_seam news rest)
