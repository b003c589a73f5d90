-- A destroyed channel from which all is taken has told each request's fate once.
use Rattle.std.proofs.Common.{◌≡◌, ◌∙◌, ◌≤◌, ◌<◌, ℕ, zero, suc, ◌+◌, ◌==◌, Bool, true, false, List, [], ◌∷◌, Option, Some, None, cond, length, map, refl, ap, sym, subst, arith, eqb-true}
use Rattle.std.proofs.lemmas.List.{length-map}
use Rattle.std.proofs.lemmas.List.FromFn.{length-range_with_len}
use Rattle.std.proofs.lemmas.List.Sorted.{length_permutation}
use Rattle.std.specs.List.{AllByRecursion, range_with_len}
use Rattle.std.specs.List.Sorted.{IsPermutation}
use Rattle.std.specs.Prelude.{filter, is_none, is_some}
use Rattle.chan_types.specs.declared.answer.Answer.{Answer}
use Rattle.chan_types.specs.declared.journal.Entry.{Entry}
use Rattle.channel_model.specs.Completion.{completions, fate, is_open, occurrences, pending, ready, requests, taken}
use Rattle.channel_model.specs.Journal.{Past, accepted, past_of}
use Rattle.channel_model.specs.Lawful.{IsLawful}
use Rattle.channel_model.specs.Setting.{Setting}
use Rattle.channel_model.proofs.Theorems.{completes_once, occurrences-append, requests_numbered, taken_then_ready, unasked_fate}
use Rattle.shared_channel.specs.Finishing.{AnswersAll}
use Rattle.shared_channel.proofs.CountingLemmas.{occurrences-permutation}
use Rattle.shared_channel.proofs.OrderLemmas.{counted_permutation, in_run, once_at_most}

-- of answers none has a number that doesn't occur among theirs
none_of : (request : ℕ) (answers : List Answer) → occurrences request (map (λ (a : Answer). a.number) answers) ≡ 0 → filter (λ (a : Answer). a.number == request) answers ≡ []
none_of request [] none = refl
none_of request (a ∷ bs) none = by_test (a.number == request) (none_of request bs) none
  where
    by_test : (b : Bool) → (occurrences request (map (λ (a : Answer). a.number) bs) ≡ 0 → filter (λ (a : Answer). a.number == request) bs ≡ [])
        → cond b (occurrences request (map (λ (a : Answer). a.number) bs) + 1) (occurrences request (map (λ (a : Answer). a.number) bs)) ≡ 0
        → cond b (a ∷ filter (λ (a : Answer). a.number == request) bs) (filter (λ (a : Answer). a.number == request) bs) ≡ []
    by_test true rest h = absurd (omega (arith, h))
    by_test false rest h = rest h

-- and one has a number that occurs once
one_of : (P : Answer → Type 0) (request : ℕ) (answers : List Answer) → occurrences request (map (λ (a : Answer). a.number) answers) ≡ 1 → AllByRecursion P answers
    → (answer : Answer) × P answer × (answer.number ≡ request) × (filter (λ (a : Answer). a.number == request) answers ≡ answer ∷ [])
one_of P request [] one each = absurd (omega (arith, one))
one_of P request (a ∷ bs) one each = by_test (a.number == request) refl (λ h. one_of P request bs h each.1) one
  where
    by_test : (b : Bool) → (a.number == request) ≡ b
        → (occurrences request (map (λ (a : Answer). a.number) bs) ≡ 1 → (answer : Answer) × P answer × (answer.number ≡ request) × (filter (λ (a : Answer). a.number == request) bs ≡ answer ∷ []))
        → cond b (occurrences request (map (λ (a : Answer). a.number) bs) + 1) (occurrences request (map (λ (a : Answer). a.number) bs)) ≡ 1
        → (answer : Answer) × P answer × (answer.number ≡ request) × (cond b (a ∷ filter (λ (a : Answer). a.number == request) bs) (filter (λ (a : Answer). a.number == request) bs) ≡ answer ∷ [])
    by_test true is rest h = (a, each.0, eqb-true a.number request is, ap (λ l. a ∷ l) (none_of request bs (omega (arith, h))))
    by_test false is rest h = rest h

-- a number that stands among those that a test passes passes it
in_filter : (test : ℕ → Bool) (number : ℕ) (ns : List ℕ) → filter test ns ≡ [] → 1 ≤ occurrences number ns → test number ≡ false
in_filter test number [] none some = absurd (omega (arith, some))
in_filter test number (n ∷ ns) none some = by_tests (test n) (n == number) refl refl (in_filter test number ns) none some
  where
    by_tests : (b c : Bool) → test n ≡ b → (n == number) ≡ c → (filter test ns ≡ [] → 1 ≤ occurrences number ns → test number ≡ false)
        → cond b (n ∷ filter test ns) (filter test ns) ≡ [] → 1 ≤ cond c (occurrences number ns + 1) (occurrences number ns) → test number ≡ false
    by_tests true c at same rest e h = absurd (omega (arith, ap length e))
    by_tests false true at same rest e h = ap test (sym (eqb-true n number same)) ∙ at
    by_tests false false at same rest e h = rest e h

not_open : {A : Type 0} (o : Option A) → is_none o ≡ false → is_some o ≡ true
not_open None e = absurd (cc e)
not_open (Some x) e = refl

the_one : {A : Type 0} (o : Option A) → is_some o ≡ true → ◌≡◌ {A = ℕ} (cond (is_some o) 1 0) 1
the_one None e = absurd (cc e)
the_one (Some x) e = refl

none_counts : {A : Type 0} (o : Option A) → o ≡ None → ◌≡◌ {A = ℕ} (cond (is_some o) 1 0) 0
none_counts None e = refl
none_counts (Some x) e = absurd (cc e)

module _ (setting : Setting) (journal : List Entry) (answers : List Answer) (lawful : IsLawful setting journal)
    (none_pending : pending setting (past_of journal) ≡ []) (none_ready : ready setting (past_of journal) ≡ [])
    (numbers : (request : ℕ) → occurrences request (map (λ (a : Answer). a.number) answers) ≡ occurrences request (taken (past_of journal)))
    (fates : AllByRecursion (λ (a : Answer). fate setting a.number (past_of journal) ≡ Some a) answers) where
  abbrev past : Past
  past = past_of journal

  -- as often as a request was told it has a fate
  told_once : (request : ℕ) → occurrences request (map (λ (a : Answer). a.number) answers) ≡ cond (is_some (fate setting request past)) 1 0
  told_once request =
      let split : occurrences request (completions setting past) ≡ occurrences request (taken past) + occurrences request (ready setting past) =
      ap (occurrences request) (taken_then_ready setting past lawful.allowed) ∙ occurrences-append request (taken past) (ready setting past) in
      let none : occurrences request (ready setting past) ≡ 0 = ap (occurrences request) none_ready in
      omega (arith, numbers request, split, none, completes_once setting request past lawful.allowed)

  asked : requests past ≡ range_with_len 1 (length (accepted past))
  asked = requests_numbered setting past lawful.allowed

  -- so it was told as often as it was accepted
  told_if_asked : (request : ℕ) → occurrences request (map (λ (a : Answer). a.number) answers) ≡ occurrences request (requests past)
  told_if_asked request =
      told_once request ∙ by_count (occurrences request (requests past)) refl (subst (λ ns. occurrences request ns ≤ 1) (sym asked) (once_at_most request 1 (length (accepted past))))
    where
      ended : 1 ≤ occurrences request (requests past) → is_some (fate setting request past) ≡ true
      ended some = not_open (fate setting request past) (in_filter (is_open setting past) request (requests past) none_pending some)

      by_count : (n : ℕ) → occurrences request (requests past) ≡ n → occurrences request (requests past) ≤ 1 → ◌≡◌ {A = ℕ} (cond (is_some (fate setting request past)) 1 0) (occurrences request (requests past))
      by_count zero is most = none_counts (fate setting request past) (unasked_fate setting request past is) ∙ sym is
      by_count (suc n) is most = the_one (fate setting request past) (ended (omega (arith, is))) ∙ omega (arith, is, most)

  pub answers_all : (count : ℕ) → count ≡ length (accepted past) → AnswersAll setting journal count answers
  answers_all count is =
      let same : IsPermutation (range_with_len 1 count) (map (λ (a : Answer). a.number) answers) =
      counted_permutation (range_with_len 1 count) (map (λ (a : Answer). a.number) answers) (λ request. told_if_asked request ∙ ap (occurrences request) (asked ∙ ap (range_with_len 1) (sym is))) in
      record {
        numbers = same;
        as_many = sym (length-map answers (λ (a : Answer). a.number)) ∙ length_permutation (range_with_len 1 count) (map (λ (a : Answer). a.number) answers) same ∙ length-range_with_len 1 count;
        fates = fates;
      }

-- among all answers, those with a request's number are one, its fate
pub answer_of : (setting : Setting) (journal : List Entry) (count : ℕ) (answers : List Answer) → AnswersAll setting journal count answers → (request : ℕ) → 0 < request → request ≤ count
    → (answer : Answer) × (fate setting request (past_of journal) ≡ Some answer) × (filter (λ (told : Answer). told.number == request) answers ≡ answer ∷ [])
answer_of setting journal count answers all request above most =
    let once : occurrences request (map (λ (a : Answer). a.number) answers) ≡ 1 =
    occurrences-permutation request (range_with_len 1 count) (map (λ (a : Answer). a.number) answers) all.numbers ∙ in_run request 1 count (omega (arith, above)) (omega (arith, most)) in
    let found = one_of (λ (a : Answer). fate setting a.number (past_of journal) ≡ Some a) request answers once all.fates in
    (found.0, subst (λ n. fate setting n (past_of journal) ≡ Some found.0) found.2 found.1, found.3)
