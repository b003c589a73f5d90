-- Lists of tests, of numbers and of positions.
use Rattle.std.proofs.Common.{◌≡◌, ◌≢◌, ◌∙◌, ℕ, ◌+◌, ◌==◌, ◌||◌, Bool, true, false, not, cond, List, [], ◌∷◌, ◌++◌, Some, is_some, map, find, refl, sym, ap, arith, eq-eqb, ne_eqb}
use Rattle.std.proofs.lemmas.Bool.{and_from}
use Rattle.std.specs.List.{AllByRecursion, list_all, list_any}
use Rattle.chan_types.specs.declared.journal.Entry.{Entry}
use Rattle.channel_model.specs.Commands.{positions_from}
use Rattle.channel_model.specs.Completion.{occurrences}
use Rattle.seat_laws.proofs.ListLemmas.{first_passes, or_left, or_right}
use Rattle.owner_laws.proofs.ListLemmas.{denies}

-- ---- tests

-- a test that fails doesn't hold
pub denied : (b : Bool) → b ≡ false → not b ≡ true
denied true is = absurd (cc is)
denied false is = refl

-- the second part of one whose first fails
pub or_other : (a b : Bool) → a ≡ false → (a || b) ≡ true → b ≡ true
or_other true b fails h = absurd (cc fails)
or_other false b fails h = h

-- a disjunction fails where both parts do
pub none_of : (a b : Bool) → (a || b) ≡ false → (a ≡ false) × (b ≡ false)
none_of true b h = absurd (cc h)
none_of false b h = (refl, h)

pub none_from : (a b : Bool) → a ≡ false → b ≡ false → (a || b) ≡ false
none_from true b fails h = absurd (cc fails)
none_from false b fails h = h

-- numbers that differ
pub apart_by : (m n : ℕ) → m ≢ n → not (m == n) ≡ true
apart_by m n differ = denied (m == n) (ne_eqb m n differ)

-- ---- lists

-- a test that follows from another
pub all_pass : {A : Type 0} (p q : A → Bool) → ((x : A) → p x ≡ true → q x ≡ true) → (xs : List A) → list_all p xs ≡ true → list_all q xs ≡ true
all_pass p q follows [] h = refl
all_pass p q follows (x ∷ xs) h =
    let now = first_passes p x xs h in
    and_from (q x) (list_all q xs) (follows x now.0) (all_pass p q follows xs now.1)

-- of lists one behind the other
pub each_of : {A : Type 0} (P : A → Type 0) (xs ys : List A) → AllByRecursion P xs → AllByRecursion P ys → AllByRecursion P (xs ++ ys)
each_of P [] ys h more = more
each_of P (x ∷ xs) ys h more = (h.0, each_of P xs ys h.1 more)

-- and of the first of them
pub each_front : {A : Type 0} (P : A → Type 0) (xs ys : List A) → AllByRecursion P (xs ++ ys) → AllByRecursion P xs
each_front P [] ys all = tt
each_front P (x ∷ xs) ys all = (all.0, each_front P xs ys all.1)

pub any_of : {A : Type 0} (test : A → Bool) (xs ys : List A) → list_any test xs ≡ false → list_any test ys ≡ false → list_any test (xs ++ ys) ≡ false
any_of test [] ys fails more = more
any_of test (x ∷ xs) ys fails more = let parts = none_of (test x) (list_any test xs) fails in none_from (test x) (list_any test (xs ++ ys)) parts.0 (any_of test xs ys parts.1 more)

pub any_front : {A : Type 0} (test : A → Bool) (xs ys : List A) → list_any test xs ≡ true → list_any test (xs ++ ys) ≡ true
any_front test [] ys h = absurd (cc h)
any_front test (x ∷ xs) ys h = by (test x) h (any_front test xs ys)
  where
    by : (b : Bool) → (b || list_any test xs) ≡ true → (list_any test xs ≡ true → list_any test (xs ++ ys) ≡ true) → (b || list_any test (xs ++ ys)) ≡ true
    by true h rest = refl
    by false h rest = rest h

pub any_last : {A : Type 0} (test : A → Bool) (xs : List A) (y : A) → test y ≡ true → list_any test (xs ++ y ∷ []) ≡ true
any_last test [] y h = or_left (test y) false h
any_last test (x ∷ xs) y h = or_right (test x) (list_any test (xs ++ y ∷ [])) (any_last test xs y h)

-- a test that fails of each
pub none_any : {A : Type 0} (p q : A → Bool) → ((x : A) → p x ≡ true → q x ≡ false) → (xs : List A) → list_all p xs ≡ true → list_any q xs ≡ false
none_any p q follows [] h = refl
none_any p q follows (x ∷ xs) h = let now = first_passes p x xs h in none_from (q x) (list_any q xs) (follows x now.0) (none_any p q follows xs now.1)

-- ---- how often numbers stand in a list

-- a number that stands in none of the items isn't found among them, and one that stands there is
pub found_if_asked : {A : Type 0} (number : A → ℕ) (n : ℕ) (xs : List A) → occurrences n (map number xs) ≢ 0 → is_some (find (λ x. number x == n) xs) ≡ true
found_if_asked number n [] some = absurd (some refl)
found_if_asked number n (x ∷ xs) some = by (number x == n) some (found_if_asked number n xs)
  where
    by : (b : Bool) → cond b (occurrences n (map number xs) + 1) (occurrences n (map number xs)) ≢ 0 → (occurrences n (map number xs) ≢ 0 → is_some (find (λ y. number y == n) xs) ≡ true) →
        is_some (cond b (Some x) (find (λ y. number y == n) xs)) ≡ true
    by true some rest = refl
    by false some rest = rest some

-- a number that stands nowhere in a list differs from each of it
pub each_differs : (n : ℕ) (xs : List ℕ) → occurrences n xs ≡ 0 → AllByRecursion (λ x. x ≢ n) xs
each_differs n [] none = tt
each_differs n (x ∷ xs) none = by (x == n) refl none (each_differs n xs)
  where
    by : (b : Bool) → (x == n) ≡ b → cond b (occurrences n xs + 1) (occurrences n xs) ≡ 0 → (occurrences n xs ≡ 0 → AllByRecursion (λ y. y ≢ n) xs) → AllByRecursion (λ y. y ≢ n) (x ∷ xs)
    by true is none rest = absurd (omega (arith, none))
    by false is none rest = (λ same. absurd (let h : true ≡ false = sym (eq-eqb x n same) ∙ is in cc), rest none)

-- ---- positions

-- no entry passes
pub no_positions : (test : Entry → Bool) (from : ℕ) (xs : List Entry) → list_all (λ e. not (test e)) xs ≡ true → positions_from test from xs ≡ []
no_positions test from [] none = refl
no_positions test from (x ∷ xs) none =
    let now = first_passes (λ e. not (test e)) x xs none in
    ap (λ b. cond b (from ∷ []) [] ++ positions_from test (from + 1) xs) (denies (test x) now.0) ∙ no_positions test (from + 1) xs now.1

-- each passes
pub all_positions : (test : Entry → Bool) (from : ℕ) (xs : List Entry) → list_all test xs ≡ true → positions_from test from xs ≡ positions_from (λ entry. true) from xs
all_positions test from [] all = refl
all_positions test from (x ∷ xs) all =
    let now = first_passes test x xs all in
    ap (λ b. cond b (from ∷ []) [] ++ positions_from test (from + 1) xs) now.0 ∙ ap (λ l. from ∷ l) (all_positions test (from + 1) xs now.1)
