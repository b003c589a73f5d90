-- Passes of a session are the same still, and none of their tickets is outside, so that its channel may be finished.
use Rattle.std.proofs.Common.{◌≡◌, ◌∙◌, ◌<◌, ℕ, suc, ◌+◌, Bool, List, [], ◌∷◌, ◌++◌, Some, map, length, refl, sym, ap, ap₂, subst, inl, inr, arith}
use Rattle.std.proofs.lemmas.List.{map-append}
use Rattle.std.proofs.lemmas.List.Concat.{flat_map-cons}
use Rattle.std.proofs.lemmas.List.Sorted.{IsPermutation-append_left, IsPermutation-append_right, IsPermutation-refl, IsPermutation-trans}
use Rattle.std.specs.List.{AllByRecursion}
use Rattle.std.specs.List.Sorted.{IsPermutation}
use Rattle.std.specs.Prelude.{slice_index_or}
use Rattle.atomic_table.specs.Seated.{TableId}
use Rattle.chan_types.specs.declared.answer.Answer.{Answer}
use Rattle.channel_model.proofs.Theorems.{each-append}
use Rattle.channel_model.specs.Completion.{fate}
use Rattle.channel_model.specs.Journal.{past_of}
use Rattle.channel_model.specs.Setting.{Setting}
use Rattle.event_runner.specs.Running.{HasLooked}
use Rattle.pass_laws.proofs.FirstLemmas.{calls_kept}
use Rattle.pooled_places.specs.Standing.{AreStill}
use Rattle.shared_channel.proofs.Theorems.{each_settled, fate_later}
use Rattle.shared_channel.specs.Making.{IsNewChannel, new_pass}
use Rattle.shared_channel.specs.Passes.{PassView, desk_of}
use Rattle.shared_channel.specs.Settling.{AreSettled, IsFateSeen, IsSeenByOne, IsSettled, taken_in, taken_through, told_through}
use Rattle.worker_rounds.proofs.Theorems.{desk_same}
use Rattle.shared_session.specs.Looking.{LookEach, Looks}

-- ---- looks

-- looks were taken through each of these passes, one by one
abbrev AllLooked : List PassView → List PassView → Type 0
AllLooked [] [] = Unit {0}
AllLooked [] (new ∷ news) = ⊥
AllLooked (old ∷ olds) [] = ⊥
AllLooked (old ∷ olds) (new ∷ news) = HasLooked (desk_of old) (desk_of new) × AllLooked olds news

all_looked : (none : Bool) (olds news : List PassView) → LookEach none olds news → AllLooked olds news
all_looked none [] [] looks = tt
all_looked none [] (n ∷ ns) looks = absurd looks
all_looked none (o ∷ os) [] looks = absurd looks
all_looked none (o ∷ os) (n ∷ ns) looks = (looks.0.looked, all_looked none os ns looks.1)

still_looked : (olds news : List PassView) → AllLooked olds news → AreStill olds news
still_looked [] [] looks = tt
still_looked [] (n ∷ ns) looks = absurd looks
still_looked (o ∷ os) [] looks = absurd looks
still_looked (o ∷ os) (n ∷ ns) looks = (desk_same o n looks.0.goes_on.desk, still_looked os ns looks.1)

taken_looked : (olds news : List PassView) → AllLooked olds news → taken_through news ≡ taken_through olds
taken_looked [] [] looks = refl
taken_looked [] (n ∷ ns) looks = absurd looks
taken_looked (o ∷ os) [] looks = absurd looks
taken_looked (o ∷ os) (n ∷ ns) looks =
    flat_map-cons (λ (p : PassView). taken_in p.own) n ns ∙ ap₂ (λ xs ys. xs ++ ys) (ap taken_in looks.0.own) (taken_looked os ns looks.1) ∙ sym (flat_map-cons (λ (p : PassView). taken_in p.own) o os)

told_looked : (olds news : List PassView) → AllLooked olds news → told_through news ≡ told_through olds
told_looked [] [] looks = refl
told_looked [] (n ∷ ns) looks = absurd looks
told_looked (o ∷ os) [] looks = absurd looks
told_looked (o ∷ os) (n ∷ ns) looks =
    flat_map-cons (λ (p : PassView). p.calls) n ns ∙ ap₂ (λ xs ys. xs ++ ys) (calls_kept o n looks.0.goes_on.desk) (told_looked os ns looks.1) ∙ sym (flat_map-cons (λ (p : PassView). p.calls) o os)

later_looked : (a : Answer) (olds news : List PassView) → AllLooked olds news → IsSeenByOne olds a → IsSeenByOne news a
later_looked a [] news looks seen = absurd seen
later_looked a (o ∷ os) [] looks seen = absurd looks
later_looked a (o ∷ os) (n ∷ ns) looks (inl seen) =
    inl (subst (λ s. fate s a.number (past_of n.seen) ≡ Some a) (sym looks.0.goes_on.desk.setting) (fate_later o.setting a.number a o.seen n.seen (looks.0.goes_on.since, sym looks.0.goes_on.seen) seen))
later_looked a (o ∷ os) (n ∷ ns) looks (inr seen) = inr (later_looked a os ns looks.1 seen)

each_later : (olds news : List PassView) → AllLooked olds news → (answers : List Answer) → AllByRecursion (IsSeenByOne olds) answers → AllByRecursion (IsSeenByOne news) answers
each_later olds news looks [] each = tt
each_later olds news looks (a ∷ bs) each = (later_looked a olds news looks each.0, each_later olds news looks bs each.1)

settled_looked : (olds news : List PassView) → AllLooked olds news → AreSettled olds → AreSettled news
settled_looked olds news looks was = record {
  numbers = subst (λ ns. IsPermutation ns (map (λ (a : Answer). a.number) (told_through news))) (sym (taken_looked olds news looks))
      (subst (λ told. IsPermutation (taken_through olds) (map (λ (a : Answer). a.number) told)) (sym (told_looked olds news looks)) was.numbers);
  fates = subst (AllByRecursion (IsSeenByOne news)) (sym (told_looked olds news looks)) (each_later olds news looks (told_through olds) was.fates);
}

module _ (owner : PassView) (workers : List PassView) (owner_new : PassView) (workers_new : List PassView) (none all : Bool) (looks : Looks none owner owner_new) (each : LookEach all workers workers_new) where
  both : AllLooked (owner ∷ workers) (owner_new ∷ workers_new)
  both = (looks.looked, all_looked all workers workers_new each)

  pub looked_still : AreStill (owner ∷ workers) (owner_new ∷ workers_new)
  looked_still = still_looked (owner ∷ workers) (owner_new ∷ workers_new) both

  pub looked_settled : AreSettled (owner ∷ workers) → AreSettled (owner_new ∷ workers_new)
  looked_settled = settled_looked (owner ∷ workers) (owner_new ∷ workers_new) both

-- ---- a pass that is settled, beside others

pub settled_first : (p : PassView) (ps : List PassView) → IsSettled p → AreSettled ps → AreSettled (p ∷ ps)
settled_first p ps settled rest =
    let told : map (λ (a : Answer). a.number) (told_through (p ∷ ps)) ≡ map (λ (a : Answer). a.number) p.calls ++ map (λ (a : Answer). a.number) (told_through ps) =
    ap (map (λ (a : Answer). a.number)) (flat_map-cons (λ (q : PassView). q.calls) p ps) ∙ map-append (λ (a : Answer). a.number) p.calls (told_through ps) in
    record {
      numbers = subst (λ ns. IsPermutation ns (map (λ (a : Answer). a.number) (told_through (p ∷ ps)))) (sym (flat_map-cons (λ (q : PassView). taken_in q.own) p ps))
          (subst (IsPermutation (taken_in p.own ++ taken_through ps)) (sym told)
          (IsPermutation-trans (taken_in p.own ++ taken_through ps) (map (λ (a : Answer). a.number) p.calls ++ taken_through ps) (map (λ (a : Answer). a.number) p.calls ++ map (λ (a : Answer). a.number) (told_through ps))
          (IsPermutation-append_left (taken_through ps) (taken_in p.own) (map (λ (a : Answer). a.number) p.calls) settled.numbers)
          (IsPermutation-append_right (map (λ (a : Answer). a.number) p.calls) (taken_through ps) (map (λ (a : Answer). a.number) (told_through ps)) rest.numbers)));
      fates = subst (AllByRecursion (IsSeenByOne (p ∷ ps))) (sym (flat_map-cons (λ (q : PassView). q.calls) p ps))
          (each-append (IsSeenByOne (p ∷ ps)) p.calls (told_through ps)
          (each_is (IsFateSeen p) (IsSeenByOne (p ∷ ps)) p.calls (λ a h. inl h) settled.fates)
          (each_is (IsSeenByOne ps) (IsSeenByOne (p ∷ ps)) (told_through ps) (λ a h. inr h) rest.fates));
    }
  where
    each_is : (P Q : Answer → Type 0) (xs : List Answer) → ((x : Answer) → P x → Q x) → AllByRecursion P xs → AllByRecursion Q xs
    each_is P Q [] f each = tt
    each_is P Q (x ∷ xs) f each = (f x each.0, each_is P Q xs f each.1)

-- ---- new passes

-- nothing was made or told through the pass
abbrev pub IsUnused : PassView → Type 0
IsUnused pass = (pass.own ≡ []) × (pass.calls ≡ [])

unused_settled : (pass : PassView) → IsUnused pass → IsSettled pass
unused_settled pass unused = record {
  numbers = subst (λ ns. IsPermutation ns (map (λ (a : Answer). a.number) pass.calls)) (sym (ap taken_in unused.0)) (subst (λ calls. IsPermutation [] (map (λ (a : Answer). a.number) calls)) (sym unused.1) (IsPermutation-refl []));
  fates = subst (AllByRecursion (IsFateSeen pass)) (sym unused.1) tt;
}

each_unused_settled : (passes : List PassView) → AllByRecursion IsUnused passes → AllByRecursion IsSettled passes
each_unused_settled [] each = tt
each_unused_settled (p ∷ ps) each = (unused_settled p each.0, each_unused_settled ps each.1)

module _ (lock : TableId) (setting : Setting) (count : ℕ) where
  each_unused : (passes : List PassView) (from : ℕ) → ((k : ℕ) (d : PassView) → k < length passes → slice_index_or passes k d ≡ new_pass lock setting count (from + k)) → AllByRecursion IsUnused passes
  each_unused [] from each = tt
  each_unused (p ∷ ps) from each =
      let here : p ≡ new_pass lock setting count (from + 0) = each 0 p (omega arith) in
      ((ap (λ (q : PassView). q.own) here, ap (λ (q : PassView). q.calls) here), each_unused ps (from + 1) (λ k d lt. let next : from + suc k ≡ from + 1 + k = omega arith in each (suc k) d (omega (arith, lt)) ∙ ap (new_pass lock setting count) next))

  pub news_unused : (news : List PassView) → IsNewChannel lock setting count news → AllByRecursion IsUnused news
  news_unused news made = each_unused news 0 (λ k d lt. let same : k ≡ 0 + k = omega arith in made.each k d (omega (arith, lt, made.all)) ∙ ap (new_pass lock setting count) same)

-- the first of new passes, and the others together
pub first_settled : (p : PassView) (ps : List PassView) → AllByRecursion IsUnused (p ∷ ps) → IsSettled p
first_settled p ps each = unused_settled p each.0

pub rest_settled : (p : PassView) (ps : List PassView) → AllByRecursion IsUnused (p ∷ ps) → AreSettled ps
rest_settled p ps each = each_settled ps (each_unused_settled ps each.1)

-- the same passes are as many
pub still_len : (olds news : List PassView) → AreStill olds news → length news ≡ length olds
still_len [] [] still = refl
still_len [] (n ∷ ns) still = absurd still
still_len (o ∷ os) [] still = absurd still
still_len (o ∷ os) (n ∷ ns) still = omega (arith, still_len os ns still.1)
