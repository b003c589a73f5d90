-- How often a request is taken: in a journal, and by each seat.
use Rattle.std.proofs.Common.{◌≡◌, ◌∙◌, ◌≢◌, ◌≤◌, ◌<◌, ⊎_elim, ℕ, zero, suc, ◌+◌, ◌==◌, Bool, true, false, List, [], ◌∷◌, ◌++◌, Option, Some, None, cond, refl, ap, ap₂, sym, arith, map, eq-eqb, eqb-true, ne_eqb, append_assoc}
use Rattle.std.proofs.lemmas.Bool.{cases_Bool}
use Rattle.std.proofs.lemmas.List.{append-nil}
use Rattle.std.proofs.lemmas.List.Concat.{flat_map-cons}
use Rattle.std.proofs.lemmas.List.Sorted.{sum_by-IsPermutation}
use Rattle.std.proofs.lemmas.List.Sums.{sum_by-cons}
use Rattle.std.specs.List.{AllByRecursion, range_with_len}
use Rattle.std.specs.List.Sorted.{IsPermutation}
use Rattle.std.specs.Option.{option_to_list}
use Rattle.std.specs.Prelude.{sum_by}
use Rattle.chan_types.specs.declared.journal.Entry.{Entry}
use Rattle.channel_model.specs.Completion.{occurrences, taken, taken_by}
use Rattle.channel_model.specs.Journal.{Past, followed_by, own_entries, past_of}
use Rattle.channel_model.proofs.Theorems.{occurrences-append}
use Rattle.shared_channel.specs.Passes.{PassView}
use Rattle.shared_channel.specs.Settling.{taken_in, taken_through}

-- an occurrence is one of a sum
pub occurrences-sum : (n : ℕ) (ms : List ℕ) → occurrences n ms ≡ sum_by (λ m. cond (m == n) 1 0) ms
occurrences-sum n [] = refl
occurrences-sum n (m ∷ ms) = by_test (m == n) (occurrences-sum n ms) ∙ sym (sum_by-cons (λ k. cond (k == n) 1 0) m ms)
  where
    by_test : (b : Bool) → occurrences n ms ≡ sum_by (λ k. cond (k == n) 1 0) ms → cond b (occurrences n ms + 1) (occurrences n ms) ≡ cond b 1 0 + sum_by (λ k. cond (k == n) 1 0) ms
    by_test true rest = omega (arith, rest)
    by_test false rest = omega (arith, rest)

-- in another order a number stands as often
pub occurrences-permutation : (n : ℕ) (ms ks : List ℕ) → IsPermutation ms ks → occurrences n ks ≡ occurrences n ms
occurrences-permutation n ms ks p = occurrences-sum n ks ∙ sum_by-IsPermutation (λ m. cond (m == n) 1 0) ms ks p ∙ sym (occurrences-sum n ms)

-- what entries take is what their past has taken more
taken_in-cons : (entry : Entry) (entries : List Entry) → taken_in (entry ∷ entries) ≡ option_to_list (taken_by entry.what) ++ taken_in entries
taken_in-cons entry entries = by_taken (taken_by entry.what) refl
  where
    by_taken : (o : Option ℕ) → taken_by entry.what ≡ o → taken_in (entry ∷ entries) ≡ option_to_list o ++ taken_in entries
    by_taken None is = rw is refl
    by_taken (Some n) is = rw is refl

pub taken_in-append : (xs ys : List Entry) → taken_in (xs ++ ys) ≡ taken_in xs ++ taken_in ys
taken_in-append [] ys = refl
taken_in-append (x ∷ xs) ys =
    taken_in-cons x (xs ++ ys) ∙ ap (λ l. option_to_list (taken_by x.what) ++ l) (taken_in-append xs ys)
    ∙ sym (append_assoc (option_to_list (taken_by x.what)) (taken_in xs) (taken_in ys)) ∙ ap (λ l. l ++ taken_in ys) (sym (taken_in-cons x xs))

taken_followed : (past : Past) (entries : List Entry) → taken (followed_by past entries) ≡ taken past ++ taken_in entries
taken_followed past [] = sym (append-nil (taken past))
taken_followed past (e ∷ es) =
    taken_followed (e.what ∷ past) es ∙ append_assoc (taken past) (option_to_list (taken_by e.what)) (taken_in es) ∙ ap (λ l. taken past ++ l) (sym (taken_in-cons e es))

pub taken_of_journal : (journal : List Entry) → taken (past_of journal) ≡ taken_in journal
taken_of_journal journal = taken_followed [] journal

-- how often a seat takes a request, in a journal
abbrev pub takes_of : ℕ → List Entry → ℕ → ℕ
takes_of n journal seat = occurrences n (taken_in (own_entries seat journal))

-- two sums over the same items are one
sum-plus : {A : Type 0} (f g : A → ℕ) (xs : List A) → sum_by (λ x. f x + g x) xs ≡ sum_by f xs + sum_by g xs
sum-plus f g [] = refl
sum-plus f g (x ∷ xs) = omega (arith, sum_by-cons (λ y. f y + g y) x xs, sum_by-cons f x xs, sum_by-cons g x xs, sum-plus f g xs)

pub sum-same : {A : Type 0} (f g : A → ℕ) (xs : List A) → ((x : A) → f x ≡ g x) → sum_by f xs ≡ sum_by g xs
sum-same f g [] same = refl
sum-same f g (x ∷ xs) same = omega (arith, sum_by-cons f x xs, sum_by-cons g x xs, same x, sum-same f g xs same)

-- of a run of numbers, one has something, or none
sum_outside : (seat amount from len : ℕ) → seat < from → sum_by (λ k. cond (seat == k) amount 0) (range_with_len from len) ≡ 0
sum_outside seat amount from zero lt = refl
sum_outside seat amount from (suc len) lt =
    sum_by-cons (λ k. cond (seat == k) amount 0) from (range_with_len (from + 1) len)
    ∙ ap₂ (λ a b. a + b) (ap (λ b. cond b amount 0) (ne_eqb seat from (λ e. omega (arith, lt, e)))) (sum_outside seat amount (from + 1) len (omega (arith, lt)))

sum_inside : (seat amount from len : ℕ) → from ≤ seat → seat < from + len → sum_by (λ k. cond (seat == k) amount 0) (range_with_len from len) ≡ amount
sum_inside seat amount from zero le lt = absurd (omega (arith, le, lt))
sum_inside seat amount from (suc len) le lt =
    sum_by-cons (λ k. cond (seat == k) amount 0) from (range_with_len (from + 1) len)
    ∙ ⊎_elim (λ (is : (seat == from) ≡ true). here (eqb-true seat from is) is)
    (λ (is : (seat == from) ≡ false). there is (sum_inside seat amount (from + 1) len (omega (arith, le, apart is)) (omega (arith, lt)))) (cases_Bool (seat == from))
  where
    rest : ℕ
    rest = sum_by (λ k. cond (seat == k) amount 0) (range_with_len (from + 1) len)

    apart : (seat == from) ≡ false → seat ≢ from
    apart is e = let clash : true ≡ false = sym (eq-eqb seat from e) ∙ is in absurd (cc clash)

    here : seat ≡ from → (seat == from) ≡ true → cond (seat == from) amount 0 + rest ≡ amount
    here same is = omega (arith, ap (λ b. cond b amount 0) is, sum_outside seat amount (from + 1) len (omega (arith, same)))

    there : (seat == from) ≡ false → rest ≡ amount → cond (seat == from) amount 0 + rest ≡ amount
    there is all = omega (arith, ap (λ b. cond b amount 0) is, all)

-- a request is taken as often as by all seats together
pub takes_of_all : (n seats : ℕ) (journal : List Entry) → AllByRecursion (λ (entry : Entry). entry.seat < seats) journal → sum_by (takes_of n journal) (range_with_len 0 seats) ≡ occurrences n (taken_in journal)
takes_of_all n seats [] each = sum-same (takes_of n []) (λ _. 0) (range_with_len 0 seats) (λ _. refl) ∙ none (range_with_len 0 seats)
  where
    none : (ks : List ℕ) → sum_by (λ _. 0) ks ≡ 0
    none [] = refl
    none (k ∷ ks) = omega (arith, sum_by-cons (λ (_ : ℕ). 0) k ks, none ks)
takes_of_all n seats (e ∷ es) each =
    sum-same (takes_of n (e ∷ es)) (λ k. cond (e.seat == k) amount 0 + takes_of n es k) (range_with_len 0 seats) step
    ∙ sum-plus (λ k. cond (e.seat == k) amount 0) (takes_of n es) (range_with_len 0 seats)
    ∙ ap₂ (λ a b. a + b) (sum_inside e.seat amount 0 seats (omega arith) (omega (arith, each.0))) (takes_of_all n seats es each.1)
    ∙ sym (ap (occurrences n) (taken_in-cons e es) ∙ occurrences-append n (option_to_list (taken_by e.what)) (taken_in es))
  where
    amount : ℕ
    amount = occurrences n (option_to_list (taken_by e.what))

    by_seat : (k : ℕ) (b : Bool) → (e.seat == k) ≡ b → occurrences n (taken_in (cond b (e ∷ own_entries k es) (own_entries k es))) ≡ cond b amount 0 + takes_of n es k
    by_seat k true is = ap (occurrences n) (taken_in-cons e (own_entries k es)) ∙ occurrences-append n (option_to_list (taken_by e.what)) (taken_in (own_entries k es))
    by_seat k false is = omega arith

    step : (k : ℕ) → takes_of n (e ∷ es) k ≡ cond (e.seat == k) amount 0 + takes_of n es k
    step k = by_seat k (e.seat == k) refl

-- through passes that have all seats, it is taken as often as in the journal of which they have their own
pub taken_through_all : (n seats : ℕ) (passes : List PassView) (journal : List Entry) → AllByRecursion (λ (entry : Entry). entry.seat < seats) journal
    → IsPermutation (range_with_len 0 seats) (map (λ (pass : PassView). pass.number) passes) → AllByRecursion (λ (pass : PassView). pass.own ≡ own_entries pass.number journal) passes
    → occurrences n (taken_through passes) ≡ occurrences n (taken_in journal)
taken_through_all n seats passes journal makers numbers owns =
    by_passes passes owns ∙ sum_by-IsPermutation (takes_of n journal) (range_with_len 0 seats) (map (λ (pass : PassView). pass.number) passes) numbers ∙ takes_of_all n seats journal makers
  where
    by_passes : (ps : List PassView) → AllByRecursion (λ (pass : PassView). pass.own ≡ own_entries pass.number journal) ps → occurrences n (taken_through ps) ≡ sum_by (takes_of n journal) (map (λ (pass : PassView). pass.number) ps)
    by_passes [] each = refl
    by_passes (p ∷ ps) each =
        ap (occurrences n) (flat_map-cons (λ (pass : PassView). taken_in pass.own) p ps) ∙ occurrences-append n (taken_in p.own) (taken_through ps)
        ∙ ap₂ (λ a b. a + b) (ap (λ es. occurrences n (taken_in es)) each.0) (by_passes ps each.1)
        ∙ sym (sum_by-cons (takes_of n journal) p.number (map (λ (pass : PassView). pass.number) ps))
