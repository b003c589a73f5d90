-- Requests that are asked for one after the other: which one is taken, and when nothing is left.
use Rattle.std.proofs.Common.{◌≡◌, ◌≢◌, ◌∙◌, ℕ, ◌+◌, ◌≤◌, ◌==◌, Bool, true, false, cond, List, [], ◌∷◌, ◌++◌, map, refl, ap, sym, subst, arith, eqb-true, eq-eqb}
use Rattle.std.specs.Prelude.{None, Option, Some, filter, is_none, is_some, option_to_list}
use Rattle.std.specs.Option.{option_or}
use Rattle.std.proofs.lemmas.List.{map-append}
use Rattle.chan_types.specs.declared.answer.Answer.{Answer}
use Rattle.chan_types.specs.declared.journal.Entry.{Entry}
use Rattle.channel_model.proofs.Theorems.{asked_at_most_once, completed_asked, completes_once, followed_by-append, occurrences-append, taken_then_ready}
use Rattle.channel_model.specs.Completion.{completed_by, fate, is_open, occurrences, pending, ready, requests, taken}
use Rattle.channel_model.specs.Journal.{Accepted, Past, accepted, accepted_by, followed_by, past_of}
use Rattle.channel_model.specs.Lawful.{IsLawfulPast}
use Rattle.channel_model.specs.Setting.{Setting}
use Rattle.owner_laws.proofs.ListLemmas.{stands_first}

-- the past of a journal that goes on
pub past_on : (old new more : List Entry) → new ≡ old ++ more → past_of new ≡ followed_by (past_of old) more
past_on old new more is = ap past_of is ∙ followed_by-append [] old more

-- a fate stays
pub fate_later : (setting : Setting) (number : ℕ) (past : Past) (es : List Entry) (answer : Answer) → fate setting number past ≡ Some answer → fate setting number (followed_by past es) ≡ Some answer
fate_later setting number past [] answer is = is
fate_later setting number past (e ∷ es) answer is = fate_later setting number (e.what ∷ past) es answer (ap (λ found. option_or found (completed_by setting number e.what past)) is)

-- ---- how often a number stands in a list

-- the item of a list of one
one_is : (n m : ℕ) → 1 ≤ occurrences n (m ∷ []) → m ≡ n
one_is n m some = by (m == n) refl some
  where
    by : (b : Bool) → (m == n) ≡ b → 1 ≤ cond b (occurrences n [] + 1) (occurrences n []) → m ≡ n
    by true is h = eqb-true m n is
    by false is h = absurd (omega (arith, h))

itself : (n : ℕ) → occurrences n (n ∷ []) ≡ 1
itself n = rw (eq-eqb n n refl) refl

-- no more items that pass a test stand in a list than items
filter_less : (test : ℕ → Bool) (n : ℕ) (xs : List ℕ) → occurrences n (filter test xs) ≤ occurrences n xs
filter_less test n [] = omega arith
filter_less test n (x ∷ xs) = by (test x) (filter_less test n xs)
  where
    more : (b : Bool) (k l : ℕ) → k ≤ l → cond b (k + 1) k ≤ cond b (l + 1) l
    more true k l h = omega (arith, h)
    more false k l h = h

    less : (b : Bool) (k l : ℕ) → k ≤ l → k ≤ cond b (l + 1) l
    less true k l h = omega (arith, h)
    less false k l h = h

    by : (b : Bool) → occurrences n (filter test xs) ≤ occurrences n xs → occurrences n (cond b (x ∷ filter test xs) (filter test xs)) ≤ occurrences n (x ∷ xs)
    by true h = more (x == n) (occurrences n (filter test xs)) (occurrences n xs) h
    by false h = less (x == n) (occurrences n (filter test xs)) (occurrences n xs) h

-- what passes a test and stands first does
passes_first : (test : ℕ → Bool) (xs ys : List ℕ) (y : ℕ) → filter test xs ≡ y ∷ ys → test y ≡ true
passes_first test [] ys y is = absurd (cc is)
passes_first test (x ∷ xs) ys y is = by (test x) refl (passes_first test xs ys y) is
  where
    by : (b : Bool) → test x ≡ b → (filter test xs ≡ y ∷ ys → test y ≡ true) → cond b (x ∷ filter test xs) (filter test xs) ≡ y ∷ ys → test y ≡ true
    by true holds rest h = let same : x ≡ y = cc in subst (λ z. test z ≡ true) same holds
    by false fails rest h = rest h

-- an open request isn't passed over
kept_open : (test : ℕ → Bool) (xs : List ℕ) (m : ℕ) → test m ≡ true → filter test (xs ++ m ∷ []) ≢ []
kept_open test [] m holds none = absurd (let h = rw holds at none in cc h)
kept_open test (x ∷ xs) m holds none = by (test x) (kept_open test xs m holds) none
  where
    by : (b : Bool) → (filter test (xs ++ m ∷ []) ≢ []) → cond b (x ∷ filter test (xs ++ m ∷ [])) (filter test (xs ++ m ∷ [])) ≡ [] → ⊥
    by true rest h = absurd (cc h)
    by false rest h = rest h

-- ---- requests, fates and takings

module _ (setting : Setting) where
  -- a request with a fate was accepted
  fate_asked : (number : ℕ) (past : Past) (answer : Answer) → fate setting number past ≡ Some answer → 1 ≤ occurrences number (requests past)
  fate_asked number [] answer is = absurd (cc is)
  fate_asked number (what ∷ past) answer is = by (fate setting number past) refl (fate_asked number past) is
    where
      by : (found : Option Answer) → fate setting number past ≡ found → ((x : Answer) → fate setting number past ≡ Some x → 1 ≤ occurrences number (requests past)) → option_or found (completed_by setting number what past) ≡ Some answer → 1 ≤ occurrences number (requests (what ∷ past))
      by None none before made = completed_asked setting number what past answer made
      by (Some x) same before made =
          let all = ap (occurrences number) (map-append (λ (r : Accepted). r.number) (accepted past) (option_to_list (accepted_by what))) in
          let both = occurrences-append number (requests past) (map (λ (r : Accepted). r.number) (option_to_list (accepted_by what))) in
          omega (arith, before x same, all, both)

  module _ (past : Past) (lawful : IsLawfulPast setting past) where
    -- a request was taken or is ready once where it has a fate, and else never
    counted : (n : ℕ) → occurrences n (taken past) + occurrences n (ready setting past) ≡ cond (is_some (fate setting n past)) 1 0
    counted n =
        sym (occurrences-append n (taken past) (ready setting past)) ∙ ap (occurrences n) (sym (taken_then_ready setting past lawful))
        ∙ completes_once setting n past lawful

    at_most_one : (b : Bool) → cond b 1 0 ≤ 1
    at_most_one true = omega arith
    at_most_one false = omega arith

    some_fate : (n : ℕ) → 1 ≤ cond (is_some (fate setting n past)) 1 0 → 1 ≤ occurrences n (requests past)
    some_fate n h = by (fate setting n past) refl h
      where
        by : (found : Option Answer) → fate setting n past ≡ found → 1 ≤ cond (is_some found) 1 0 → 1 ≤ occurrences n (requests past)
        by None is h = absurd (omega (arith, h))
        by (Some answer) is h = fate_asked n past answer is

    no_fate : (n : ℕ) → ◌≡◌ {A = ℕ} (cond (is_some (fate setting n past)) 1 0) 0 → is_open setting past n ≡ true
    no_fate n h = by (fate setting n past) h
      where
        by : (found : Option Answer) → ◌≡◌ {A = ℕ} (cond (is_some found) 1 0) 0 → is_none found ≡ true
        by None h = refl
        by (Some answer) h = absurd (omega (arith, h))

    -- where all requests but the last were taken, and then one, that is the last
    pub takes_last : (ns : List ℕ) (m n : ℕ) → requests past ≡ ns ++ m ∷ [] → taken past ≡ ns ++ n ∷ [] → n ≡ m
    takes_last ns m n asked took =
        let count = counted n in
        let takes = ap (occurrences n) took ∙ occurrences-append n ns (n ∷ []) in
        let few = at_most_one (is_some (fate setting n past)) in
        let some : 1 ≤ cond (is_some (fate setting n past)) 1 0 = omega (arith, count, takes, itself n) in
        let asks = ap (occurrences n) asked ∙ occurrences-append n ns (m ∷ []) in
        sym (one_is n m (omega (arith, count, takes, few, itself n, some_fate n some, asks)))

    -- where all but the last were taken, the last one is pending or ready
    pub left_last : (ns : List ℕ) (m : ℕ) → requests past ≡ ns ++ m ∷ [] → taken past ≡ ns → pending setting past ≡ [] → ready setting past ≡ [] → ⊥
    left_last ns m asked took none_pending none_ready =
        let count = counted m in
        let takes = ap (occurrences m) took in
        let readies : occurrences m (ready setting past) ≡ 0 = ap (occurrences m) none_ready in
        let asks = ap (occurrences m) asked ∙ occurrences-append m ns (m ∷ []) in
        let once = asked_at_most_once setting m past lawful in
        let none : ◌≡◌ {A = ℕ} (cond (is_some (fate setting m past)) 1 0) 0 = omega (arith, count, takes, readies, asks, once, itself m) in
        kept_open (is_open setting past) ns m (no_fate m none) (ap (filter (is_open setting past)) (sym asked) ∙ none_pending)

    -- where all were taken, nothing is left
    pub none_left : taken past ≡ requests past → (pending setting past ≡ []) × (ready setting past ≡ [])
    none_left all = (by_pending (pending setting past) refl, by_ready (ready setting past) refl)
      where
        by_ready : (xs : List ℕ) → ready setting past ≡ xs → ready setting past ≡ []
        by_ready [] is = is
        by_ready (x ∷ xs) is =
            let count = counted x in
            let readies : 1 ≤ occurrences x (ready setting past) = rw is (stands_first x xs) in
            let takes = ap (occurrences x) all in
            let few = at_most_one (is_some (fate setting x past)) in
            let some : 1 ≤ cond (is_some (fate setting x past)) 1 0 = omega (arith, count, readies) in
            absurd (omega (arith, count, readies, takes, few, some_fate x some))

        by_pending : (xs : List ℕ) → pending setting past ≡ xs → pending setting past ≡ []
        by_pending [] is = is
        by_pending (x ∷ xs) is =
            let open_one : is_open setting past x ≡ true = passes_first (is_open setting past) (requests past) xs x is in
            let asked : 1 ≤ occurrences x (pending setting past) = rw is (stands_first x xs) in
            let less = filter_less (is_open setting past) x (requests past) in
            let takes = ap (occurrences x) all in
            let count = counted x in
            let none : ◌≡◌ {A = ℕ} (cond (is_some (fate setting x past)) 1 0) 0 = closed (fate setting x past) open_one in
            absurd (omega (arith, asked, less, takes, count, none))
          where
            closed : (found : Option Answer) → is_none found ≡ true → ◌≡◌ {A = ℕ} (cond (is_some found) 1 0) 0
            closed None h = refl
            closed (Some answer) h = absurd (cc h)

    -- where all were taken, no more can be
    pub takes_no_more : (ns : List ℕ) (n : ℕ) → requests past ≡ ns → taken past ≡ ns ++ n ∷ [] → ⊥
    takes_no_more ns n asked took =
        let count = counted n in
        let takes = ap (occurrences n) took ∙ occurrences-append n ns (n ∷ []) in
        let few = at_most_one (is_some (fate setting n past)) in
        let some : 1 ≤ cond (is_some (fate setting n past)) 1 0 = omega (arith, count, takes, itself n) in
        absurd (omega (arith, count, takes, few, itself n, some_fate n some, ap (occurrences n) asked))
