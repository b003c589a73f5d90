-- What crates above may cite: what became of the tickets that were offered, and what a round leaves of the passes.
use Rattle.std.proofs.Common.{◌≡◌, ◌∙◌, ⊎_elim, ℕ, suc, List, [], ◌∷◌, ◌++◌, sum_by, refl, ap, sym, subst, arith, append_assoc}
use Rattle.std.proofs.lemmas.List.{append-nil}
use Rattle.std.proofs.lemmas.List.Sorted.{IsPermutation-cons, IsPermutation-middle, IsPermutation-refl, IsPermutation-sym, IsPermutation-trans}
use Rattle.std.proofs.lemmas.List.Sums.{sum_by-cons}
use Rattle.std.specs.List.{AllByRecursion}
use Rattle.std.specs.List.Sorted.{IsPermutation}
use Rattle.ticket_queue.specs.Passes.{IsSamePass, PassState, QueueState, WasFull, after_send}
use Rattle.delivery_pool.specs.declared.message.Message.{Message}
use Rattle.delivery_pool.specs.declared.message.Message.TheVariants.{Ticket}
use Rattle.delivery_pool.specs.Parts.{EachDoes}
use Rattle.delivery_pool.specs.Pools.{PoolState, after_stops, messages_of}
use Rattle.delivery_pool.specs.Spending.{OffersAll, OffersEach, SpendsEach, Works}

module _ {T S : Type 0} (spends : S → T → S → Type 0) where
  -- of these tickets some were sent, and the others were spent here, one after the other
  pub record IsShared (tickets : List T) (old : PassState (Message T)) (before : S) (new : PassState (Message T)) (after : S) : Type 0 where
    pub sent : List T
    pub kept : List T
    pub of_them : IsPermutation tickets (sent ++ kept)
    pub pass : new ≡ record old { sent = old.sent ++ messages_of sent }
    pub spent : SpendsEach spends before kept after

  -- the tickets that were offered
  pub shared : (queue : QueueState (Message T)) (tickets : List T) (old : PassState (Message T)) (before : S) (new : PassState (Message T)) (after : S) → OffersEach spends queue tickets old before new after → IsShared tickets old before new after
  shared queue [] old before new after each = record { sent = []; kept = []; of_them = IsPermutation-refl []; pass = each.0 ∙ (λ i. record old { sent = sym (append-nil old.sent) i }); spent = each.1 }
  shared queue (ticket ∷ tickets) old before new after each =
      let rest = shared queue tickets each.0 each.1 new after each.3 in
      ⊎_elim
      (λ (here : (each.0 ≡ after_send old (Ticket ticket)) × (each.1 ≡ before)). record {
        sent = ticket ∷ rest.sent;
        kept = rest.kept;
        of_them = IsPermutation-cons ticket tickets (rest.sent ++ rest.kept) rest.of_them;
        pass = rest.pass ∙ ap (λ (p : PassState (Message T)). record p { sent = p.sent ++ messages_of rest.sent }) here.0 ∙ (λ i. record old { sent = append_assoc old.sent (Ticket ticket ∷ []) (messages_of rest.sent) i });
        spent = subst (λ s. SpendsEach spends s rest.kept after) here.1 rest.spent;
      })
      (λ (there : (each.0 ≡ old) × WasFull queue old × spends before ticket each.1). record {
        sent = rest.sent;
        kept = ticket ∷ rest.kept;
        of_them = IsPermutation-trans (ticket ∷ tickets) (ticket ∷ (rest.sent ++ rest.kept)) (rest.sent ++ ticket ∷ rest.kept) (IsPermutation-cons ticket tickets (rest.sent ++ rest.kept) rest.of_them)
            (IsPermutation-sym (rest.sent ++ ticket ∷ rest.kept) (ticket ∷ (rest.sent ++ rest.kept)) (IsPermutation-middle rest.sent ticket rest.kept));
        pass = rest.pass ∙ ap (λ (p : PassState (Message T)). record p { sent = p.sent ++ messages_of rest.sent }) there.0;
        spent = (each.1, there.2, rest.spent);
      })
      each.2

  -- a pass that only sent, or only received, is the same pass
  same_sent : (old new : PassState (Message T)) (sent : List (Message T)) → new ≡ record old { sent = sent } → IsSamePass old new
  same_sent old new sent is = is ∙ (λ i. record old { sent = sym (ap (λ (p : PassState (Message T)). p.sent) is) i; got = sym (ap (λ (p : PassState (Message T)). p.got) is) i })

  same_got : (old new : PassState (Message T)) (got : List (Message T)) → new ≡ record old { got = got } → IsSamePass old new
  same_got old new got is = is ∙ (λ i. record old { sent = sym (ap (λ (p : PassState (Message T)). p.sent) is) i; got = sym (ap (λ (p : PassState (Message T)). p.got) is) i })

  -- a worker's pass behind its work, and the sender's behind its offers
  pub works_same : (count : ℕ) (old : PassState (Message T)) (before : S) (new : PassState (Message T)) (after : S) → Works spends count old before new after → IsSamePass old new
  works_same count old before new after works = same_got old new _ works.received

  pub offers_same : (pool : PoolState T) (tickets : List T) (old : PassState (Message T)) (before : S) (new : PassState (Message T)) (after : S) → OffersAll spends pool tickets old before new after → IsSamePass old new
  offers_same pool tickets old before new after offers =
      same_sent old new _ (offers.stops ∙ ap (after_stops pool.workers) (shared pool.queue tickets old before offers.middle after offers.each).pass)

module _ {W : Type 0} (does : W → W → Type 0) where
  -- what each part keeps of itself holds of each behind the round
  pub each_keeps : (P : W → Type 0) → ((old new : W) → does old new → P old → P new) → (olds news : List W) → EachDoes does olds news → AllByRecursion P olds → AllByRecursion P news
  each_keeps P keeps [] [] each all = tt
  each_keeps P keeps [] (y ∷ ys) each all = absurd (omega (arith, each.0))
  each_keeps P keeps (x ∷ xs) [] each all = absurd (omega (arith, each.0))
  each_keeps P keeps (x ∷ xs) (y ∷ ys) each all = (keeps x y (each.1 0 x (omega arith)) all.0, each_keeps P keeps xs ys (omega (arith, each.0), λ k d lt. each.1 (suc k) d (omega (arith, lt))) all.1)

  -- and what each leaves as it was sums up to what it did
  pub sum_stays : (f : W → ℕ) → ((old new : W) → does old new → f new ≡ f old) → (olds news : List W) → EachDoes does olds news → sum_by f news ≡ sum_by f olds
  sum_stays f stays [] [] each = refl
  sum_stays f stays [] (y ∷ ys) each = absurd (omega (arith, each.0))
  sum_stays f stays (x ∷ xs) [] each = absurd (omega (arith, each.0))
  sum_stays f stays (x ∷ xs) (y ∷ ys) each =
      omega (arith, sum_by-cons f x xs, sum_by-cons f y ys, stays x y (each.1 0 x (omega arith)), sum_stays f stays xs ys (omega (arith, each.0), λ k d lt. each.1 (suc k) d (omega (arith, lt))))
