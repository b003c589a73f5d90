-- A pool's passes, taken apart and put together again.
use Rattle.std.proofs.Common.{◌≡◌, ◌∙◌, ◌≤◌, ℕ, zero, suc, ◌+◌, ◌-◌, List, [], ◌∷◌, ◌++◌, length, refl, ap, sym, subst, arith}
use Rattle.std.proofs.lemmas.List.{length_push}
use Rattle.std.proofs.lemmas.List.Sums.{sum_by_push}
use Rattle.std.specs.List.{AllByRecursion}
use Rattle.std.specs.Prelude.{remove, slice_index_or}
use Rattle.ticket_queue.specs.Passes.{IsAt, MayReceive, PassState, QueueState, new_pass, receivers_of}
use Rattle.delivery_pool.specs.declared.message.Message.{Message}
use Rattle.delivery_pool.specs.declared.working.Worker.{Worker}
use Rattle.shared_parts_runs.specs.Crews.{ArePasses, AreReceivers, AreWorkers, pass_shares, worker_shares}

-- one more behind others, and the last one apart from those before it
pub all_push : {X : Type 0} (P : X → Type 0) (xs : List X) (x : X) → AllByRecursion P xs → P x → AllByRecursion P (xs ++ x ∷ [])
all_push P [] x all one = (one, tt)
all_push P (y ∷ ys) x all one = (all.0, all_push P ys x all.1 one)

pub all_pop : {X : Type 0} (P : X → Type 0) (xs : List X) (x : X) → AllByRecursion P (xs ++ x ∷ []) → AllByRecursion P xs × P x
all_pop P [] x all = (tt, all.0)
all_pop P (y ∷ ys) x all = let rest = all_pop P ys x all.1 in ((all.0, rest.0), rest.1)

module _ {T : Type 0} (queue : QueueState (Message T)) where
  -- the workers' passes of a new pool may receive, and have a share each
  pub receivers_are : (count : ℕ) → AreReceivers queue (receivers_of queue count)
  receivers_are zero = tt
  receivers_are (suc count) = all_push (λ pass. IsAt queue pass × MayReceive pass) (receivers_of queue count) (new_pass queue 1) (receivers_are count) ((refl, refl), omega arith)

  pub receivers_share : (count : ℕ) → pass_shares (receivers_of queue count) ≡ count
  receivers_share zero = refl
  receivers_share (suc count) = omega (arith, sum_by_push (λ (pass : PassState (Message T)). pass.share) (receivers_of queue count) (new_pass queue 1), receivers_share count)

  pub receivers_len : (count : ℕ) → length (receivers_of queue count) ≡ count
  receivers_len zero = refl
  receivers_len (suc count) = omega (arith, length_push (receivers_of queue count) (new_pass queue 1), receivers_len count)

  -- the passes of a new pool: the sender's, and the workers'
  module _ (count : ℕ) (passes : List (PassState (Message T))) (are : passes ≡ new_pass queue (1024 - count) ∷ receivers_of queue count) where
    pub first_apart : (first : PassState (Message T)) → first ≡ slice_index_or passes 0 first → first ≡ new_pass queue (1024 - count)
    first_apart first is = is ∙ ap (λ l. slice_index_or l 0 first) are

    pub others_apart : (others : List (PassState (Message T))) → others ≡ remove passes 0 → others ≡ receivers_of queue count
    others_apart others is = is ∙ ap (λ l. remove l 0) are

    pub others_receive : (others : List (PassState (Message T))) → others ≡ remove passes 0 → AreReceivers queue others
    others_receive others is = subst (AreReceivers queue) (sym (others_apart others is)) (receivers_are count)

    pub shares_apart : count ≤ 16 → (first : PassState (Message T)) (others : List (PassState (Message T))) → first ≡ slice_index_or passes 0 first → others ≡ remove passes 0 → first.share + pass_shares others ≡ 1024
    shares_apart few first others is others_are = omega (arith, few, ap (λ (p : PassState (Message T)). p.share) (first_apart first is), ap pass_shares (others_apart others others_are), receivers_share count)

    pub passes_len : length passes ≡ count + 1
    passes_len = ap length are ∙ omega (arith, receivers_len count)

  -- so far these passes are left, and the others are in workers
  pub record IsHiring {S : Type 0} (passes left : List (PassState (Message T))) (crew : List (Worker T S)) : Type 0 where
    pub receivers : AreReceivers queue left
    pub workers : AreWorkers queue crew
    pub shares : pass_shares passes ≡ pass_shares left + worker_shares crew

  -- so far these workers are left, and the passes of the others are back
  pub record IsBack {S : Type 0} (crew left : List (Worker T S)) (passes : List (PassState (Message T))) : Type 0 where
    pub workers : AreWorkers queue left
    pub back : ArePasses queue passes
    pub shares : worker_shares crew ≡ worker_shares left + pass_shares passes

  pub back_more : {S : Type 0} (crew left rest : List (Worker T S)) (worker : Worker T S) (passes more : List (PassState (Message T)))
      → left ≡ rest ++ worker ∷ [] → more ≡ passes ++ worker.pass ∷ [] → IsBack crew left passes → IsBack crew rest more
  back_more crew left rest worker passes more is more_is so_far =
      let parts = all_pop (λ w. IsAt queue w.pass) rest worker (subst (AreWorkers queue) is so_far.workers) in
      record {
        workers = parts.0;
        back = subst (ArePasses queue) (sym more_is) (all_push (IsAt queue) passes worker.pass so_far.back parts.1);
        shares = omega (arith, so_far.shares, ap worker_shares is, sum_by_push (λ w. w.pass.share) rest worker, ap pass_shares more_is, sum_by_push (λ (p : PassState (Message T)). p.share) passes worker.pass);
      }
