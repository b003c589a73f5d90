-- Lists in which each number stands as often are the same, up to order; and runs of numbers.
use Rattle.std.proofs.Common.{◌≡◌, ◌∙◌, ◌≢◌, ◌≤◌, ◌<◌, ⊎_elim, ℕ, zero, suc, ◌+◌, ◌-◌, ◌==◌, Bool, true, false, List, [], ◌∷◌, ◌++◌, cond, refl, ap, sym, subst, arith, eq-eqb, eqb-true, ne_eqb}
use Rattle.std.proofs.lemmas.Bool.{cases_Bool}
use Rattle.std.proofs.lemmas.List.FromFn.{get_or-range_with_len, length-range_with_len}
use Rattle.std.proofs.lemmas.List.Sorted.{Contains-permutation, IsPermutation-cons, IsPermutation-middle, IsPermutation-refl, IsPermutation-sym, IsPermutation-trans}
use Rattle.std.specs.List.{Contains, range_with_len}
use Rattle.std.specs.List.Sorted.{IsPermutation}
use Rattle.channel_model.specs.Completion.{occurrences}
use Rattle.channel_model.proofs.Theorems.{occurrences-append}

-- in a list with one number more
occurrences-cons : (number n : ℕ) (ns : List ℕ) → occurrences number (n ∷ ns) ≡ cond (n == number) 1 0 + occurrences number ns
occurrences-cons number n ns = by_test (n == number)
  where
    by_test : (b : Bool) → cond b (occurrences number ns + 1) (occurrences number ns) ≡ cond b 1 0 + occurrences number ns
    by_test true = omega arith
    by_test false = omega arith

occurrences-here : (n : ℕ) (ns : List ℕ) → occurrences n (n ∷ ns) ≡ occurrences n ns + 1
occurrences-here n ns = rw (eq-eqb n n refl) refl

-- where a number stands
record Stands (number : ℕ) (ns : List ℕ) : Type 0 where
  before : List ℕ
  behind : List ℕ
  parts : ns ≡ before ++ number ∷ behind

stands_if : (number : ℕ) (ns : List ℕ) → 1 ≤ occurrences number ns → Stands number ns
stands_if number [] some = absurd (omega (arith, some))
stands_if number (n ∷ ns) some = by_test (n == number) refl (stands_if number ns) some
  where
    by_test : (b : Bool) → (n == number) ≡ b → (1 ≤ occurrences number ns → Stands number ns) → 1 ≤ cond b (occurrences number ns + 1) (occurrences number ns) → Stands number (n ∷ ns)
    by_test true is rest h = record { before = []; behind = ns; parts = ap (λ m. m ∷ ns) (eqb-true n number is) }
    by_test false is rest h = let found = rest h in record { before = n ∷ found.before; behind = found.behind; parts = ap (λ l. n ∷ l) found.parts }

-- lists in which each number stands as often are the same, up to order
pub counted_permutation : (xs ys : List ℕ) → ((n : ℕ) → occurrences n ys ≡ occurrences n xs) → IsPermutation xs ys
counted_permutation [] [] same = IsPermutation-refl []
counted_permutation [] (y ∷ ys) same = absurd (omega (arith, same y, occurrences-here y ys))
counted_permutation (x ∷ xs) ys same =
    subst (IsPermutation (x ∷ xs)) (sym found.parts)
    (IsPermutation-trans _ _ _ (IsPermutation-cons x _ _ (counted_permutation xs (found.before ++ found.behind) fewer)) (IsPermutation-sym _ _ (IsPermutation-middle found.before x found.behind)))
  where
    found : Stands x ys
    found = stands_if x ys (omega (arith, same x, occurrences-here x xs))

    fewer : (n : ℕ) → occurrences n (found.before ++ found.behind) ≡ occurrences n xs
    fewer n =
        let whole : occurrences n ys ≡ occurrences n found.before + occurrences n (x ∷ found.behind) = ap (occurrences n) found.parts ∙ occurrences-append n found.before (x ∷ found.behind) in
        omega (arith, same n, whole, occurrences-cons n x found.behind, occurrences-cons n x xs, occurrences-append n found.before found.behind)

-- what has the numbers of a run, up to order, has each of them
pub has_number : (number from len : ℕ) (ns : List ℕ) → IsPermutation (range_with_len from len) ns → from ≤ number → number < from + len → Contains ns number
has_number number from len ns same le lt =
    Contains-permutation (range_with_len from len) ns number same
    (number - from, omega (arith, length-range_with_len from len, le, lt), get_or-range_with_len from len (number - from) number (omega (arith, le, lt)) ∙ omega (arith, le))

-- a run has no number below its first
run_above : (number from len : ℕ) → number < from → occurrences number (range_with_len from len) ≡ 0
run_above number from zero below = refl
run_above number from (suc len) below = rw (ne_eqb from number (λ e. omega (arith, below, e))) (run_above number (from + 1) len (omega (arith, below)))

-- it has each number at most once, and each of its own once
pub once_at_most : (number from len : ℕ) → occurrences number (range_with_len from len) ≤ 1
once_at_most number from zero = omega arith
once_at_most number from (suc len) = by_test (from == number) refl (once_at_most number (from + 1) len)
  where
    by_test : (b : Bool) → (from == number) ≡ b → occurrences number (range_with_len (from + 1) len) ≤ 1 → cond b (occurrences number (range_with_len (from + 1) len) + 1) (occurrences number (range_with_len (from + 1) len)) ≤ 1
    by_test true is rest = omega (arith, run_above number (from + 1) len (omega (arith, eqb-true from number is)))
    by_test false is rest = rest

pub in_run : (number from len : ℕ) → from ≤ number → number < from + len → occurrences number (range_with_len from len) ≡ 1
in_run number from zero le lt = absurd (omega (arith, le, lt))
in_run number from (suc len) le lt = ⊎_elim (λ (is : (from == number) ≡ true). here (eqb-true from number is) is)
    (λ (is : (from == number) ≡ false). rw is (in_run number (from + 1) len (omega (arith, le, apart is)) (omega (arith, lt)))) (cases_Bool (from == number))
  where
    apart : (from == number) ≡ false → from ≢ number
    apart is e = let clash : true ≡ false = sym (eq-eqb from number e) ∙ is in absurd (cc clash)

    here : from ≡ number → (from == number) ≡ true → cond (from == number) (occurrences number (range_with_len (from + 1) len) + 1) (occurrences number (range_with_len (from + 1) len)) ≡ 1
    here same is = rw is (omega (arith, run_above number (from + 1) len (omega (arith, same))))
