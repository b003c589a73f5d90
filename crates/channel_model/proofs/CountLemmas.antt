-- How often a number stands in a list.
use Rattle.std.proofs.Common.{arith, ⊎_elim, ne_eqb, eqb-true, ap, ◌∙◌, sym}
use Rattle.std.proofs.lemmas.Bool.{cases_Bool}
use Rattle.std.specs.List.{range_with_len}
use Rattle.std.specs.Prelude.{ℕ, List, ◌++◌, ◌≡◌, ◌+◌, [], ◌∷◌, ◌==◌, true, false, ◌<◌, zero, refl, suc, ◌≤◌, Bool, cond, filter}
use Rattle.channel_model.specs.Completion.{occurrences}

-- in lists one behind the other
pub occurrences-append : (number : ℕ) (ms ns : List ℕ) → occurrences number (ms ++ ns) ≡ occurrences number ms + occurrences number ns
occurrences-append number [] ns = omega arith
occurrences-append number (m ∷ ms) ns = ⊎_elim
    (λ (here : (m == number) ≡ true). rw (here, occurrences-append number ms ns) (omega arith))
    (λ (other : (m == number) ≡ false). rw other (occurrences-append number ms ns))
    (cases_Bool (m == number))

-- a number below those of a run isn't in it
occurrences_below : (number from len : ℕ) → number < from → occurrences number (range_with_len from len) ≡ 0
occurrences_below number from zero below = refl
occurrences_below number from (suc len) below = rw (ne_eqb from number (λ (same : from ≡ number). omega arith)) (occurrences_below number (from + 1) len (omega arith))

-- a run of numbers has each at most once
pub occurrences_run : (number from len : ℕ) → occurrences number (range_with_len from len) ≤ 1
occurrences_run number from zero = omega arith
occurrences_run number from (suc len) = ⊎_elim
    (λ here. let same : from ≡ number = eqb-true from number here in
    let none : occurrences number (range_with_len (from + 1) len) ≡ 0 = occurrences_below number (from + 1) len (omega arith) in
    rw here (omega arith))
    (λ other. rw other (occurrences_run number (from + 1) len))
    (cases_Bool (from == number))

-- a run goes on with the number behind it
pub run-push : (from len : ℕ) → range_with_len from (suc len) ≡ range_with_len from len ++ (from + len) ∷ []
run-push from zero = let same : from ≡ from + 0 = omega arith in ap (λ n. n ∷ []) same
run-push from (suc len) =
    let same : from + 1 + len ≡ from + suc len = omega arith in
    ap (λ ns. from ∷ ns) (run-push (from + 1) len ∙ ap (λ n. range_with_len (from + 1) len ++ n ∷ []) same)

pub no_choice : (b : Bool) → ◌≡◌ {A = ℕ} (cond b 0 0) 0
no_choice true = refl
no_choice false = refl

-- what a test leaves has a number as often as before, if it passes
pub occurrences-filter : (test : ℕ → Bool) (number : ℕ) (ns : List ℕ) → occurrences number (filter test ns) ≡ cond (test number) (occurrences number ns) 0
occurrences-filter test number [] = sym (no_choice (test number))
occurrences-filter test number (n ∷ ns) =
    let rest : occurrences number (filter test ns) ≡ cond (test number) (occurrences number ns) 0 = occurrences-filter test number ns in
    ⊎_elim
    (λ (here : (n == number) ≡ true). let same : n ≡ number = eqb-true n number here in ⊎_elim
    (λ (passes : test n ≡ true). let too : test number ≡ true = ap test (sym same) ∙ passes in
    rw (passes, too, here) (ap (λ k. k + 1) (rest ∙ ap (λ b. cond b (occurrences number ns) 0) too)))
    (λ (fails : test n ≡ false). let too : test number ≡ false = ap test (sym same) ∙ fails in
    rw fails (rest ∙ ap (λ b. cond b (occurrences number ns) 0) too ∙ sym (ap (λ b. cond b (occurrences number (n ∷ ns)) 0) too)))
    (cases_Bool (test n)))
    (λ (other : (n == number) ≡ false). ⊎_elim (λ (passes : test n ≡ true). rw (passes, other) rest) (λ (fails : test n ≡ false). rw (fails, other) rest) (cases_Bool (test n)))
    (cases_Bool (n == number))
