-- Passes that are joined, the last one first.
use Rattle.std.proofs.Common.{◌≡◌, ◌∙◌, ◌<◌, ℕ, ◌+◌, List, [], ◌∷◌, ◌++◌, flat_map, sum_by, length, ap, sym, subst, arith, append_assoc}
use Rattle.std.proofs.lemmas.List.{append-nil}
use Rattle.std.proofs.lemmas.List.Concat.{flat_map-append}
use Rattle.std.proofs.lemmas.List.Sums.{sum_by-append, sum_by-cons}
use Rattle.std.specs.List.{AllByRecursion}
use Rattle.ticket_queue.specs.Passes.{IsAt, PassState, QueueState, after_join}
use Rattle.delivery_pool.specs.declared.message.Message.{Message}
use Rattle.delivery_pool.specs.Pools.{AreAll, IsJoined}

module _ {M : Type 0} where
  abbrev share_of : PassState M → ℕ
  share_of pass = pass.share

  abbrev sent_of : PassState M → List M
  sent_of pass = pass.sent

  abbrev got_of : PassState M → List M
  got_of pass = pass.got

  snoc_all : (P : PassState M → Type 0) (xs : List (PassState M)) (x : PassState M) → AllByRecursion P (xs ++ x ∷ []) → AllByRecursion P xs × P x
  snoc_all P [] x all = (tt, all.0)
  snoc_all P (y ∷ ys) x all = let rest = snoc_all P ys x all.1 in ((all.0, rest.0), rest.1)

  flat_snoc : (f : PassState M → List M) (xs : List (PassState M)) (x : PassState M) → flat_map f (xs ++ x ∷ []) ≡ flat_map f xs ++ f x
  flat_snoc f xs x = flat_map-append f xs (x ∷ []) ∙ ap (λ l. flat_map f xs ++ l) (append-nil (f x))

  sum_snoc : (f : PassState M → ℕ) (xs : List (PassState M)) (x : PassState M) → sum_by f (xs ++ x ∷ []) ≡ sum_by f xs + f x
  sum_snoc f xs x = omega (arith, sum_by-append f xs (x ∷ []), sum_by-cons f x [])

  -- of these passes those behind the ones that are left are joined
  pub record HasJoined (queue : QueueState M) (passes left : List (PassState M)) (all : PassState M) : Type 0 where
    pub each : AllByRecursion (IsAt queue) left
    pub at : IsAt queue all
    pub share : sum_by share_of passes ≡ sum_by share_of left + all.share
    pub sent : flat_map sent_of passes ≡ flat_map sent_of left ++ all.sent
    pub got : flat_map got_of passes ≡ flat_map got_of left ++ all.got

  -- the last pass is joined
  pub begins : (queue : QueueState M) (passes left : List (PassState M)) (all : PassState M) → passes ≡ left ++ all ∷ [] → AllByRecursion (IsAt queue) passes → HasJoined queue passes left all
  begins queue passes left all is each =
      let both = snoc_all (IsAt queue) left all (subst (AllByRecursion (IsAt queue)) is each) in
      record {
        each = both.0;
        at = both.1;
        share = ap (sum_by share_of) is ∙ sum_snoc share_of left all;
        sent = ap (flat_map sent_of) is ∙ flat_snoc sent_of left all;
        got = ap (flat_map got_of) is ∙ flat_snoc got_of left all;
      }

  -- one more list of messages, of the pass before those that are joined
  flat_more : (f : PassState M → List M) (passes left rest : List (PassState M)) (next all joined : PassState M) → left ≡ rest ++ next ∷ [] → flat_map f passes ≡ flat_map f left ++ f all → f joined ≡ f next ++ f all → flat_map f passes ≡ flat_map f rest ++ f joined
  flat_more f passes left rest next all joined is so_far both =
      so_far ∙ ap (λ l. flat_map f l ++ f all) is ∙ ap (λ l. l ++ f all) (flat_snoc f rest next) ∙ append_assoc (flat_map f rest) (f next) (f all) ∙ ap (λ l. flat_map f rest ++ l) (sym both)

  -- the pass before those is joined
  pub goes_on : (queue : QueueState M) (passes left rest : List (PassState M)) (next all joined : PassState M) → left ≡ rest ++ next ∷ [] → HasJoined queue passes left all → joined ≡ after_join next all → HasJoined queue passes rest joined
  goes_on queue passes left rest next all joined is so_far both =
      let each = snoc_all (IsAt queue) rest next (subst (AllByRecursion (IsAt queue)) is so_far.each) in
      record {
        each = each.0;
        at = (ap (λ (p : PassState M). p.table) both ∙ each.1.0, ap (λ (p : PassState M). p.key) both ∙ each.1.1);
        share = omega (arith, so_far.share, ap (sum_by share_of) is, sum_snoc share_of rest next, ap share_of both);
        sent = flat_more sent_of passes left rest next all joined is so_far.sent (ap sent_of both);
        got = flat_more got_of passes left rest next all joined is so_far.got (ap got_of both);
      }

  -- it is the queue's
  pub next_at : (queue : QueueState M) (left rest : List (PassState M)) (next : PassState M) → left ≡ rest ++ next ∷ [] → AllByRecursion (IsAt queue) left → IsAt queue next
  next_at queue left rest next is each = (snoc_all (IsAt queue) rest next (subst (AllByRecursion (IsAt queue)) is each)).1

module _ {T : Type 0} where
  -- no pass is left
  pub ends : (queue : QueueState (Message T)) (passes : List (PassState (Message T))) (all : PassState (Message T)) → HasJoined queue passes [] all → IsJoined passes all
  ends queue passes all so_far = record { share = omega (arith, so_far.share); sent = sym so_far.sent; got = sym so_far.got }

  -- all passes are one or more
  pub some : (queue : QueueState (Message T)) (passes : List (PassState (Message T))) → AreAll queue passes → 0 < length passes
  some queue [] all = absurd (omega (arith, all.shares))
  some queue (p ∷ ps) all = omega arith
