-- Tests of lists, and how often numbers stand in them.
use Rattle.std.proofs.Common.{◌≡◌, ◌≢◌, ◌∙◌, ℕ, suc, zero, ◌+◌, ◌≤◌, ◌==◌, ◌||◌, Bool, true, false, not, cond, List, [], ◌∷◌, refl, sym, ap, arith, eq-eqb, ne_eqb}
use Rattle.std.proofs.lemmas.Bool.{and_from, and_parts}
use Rattle.std.specs.List.{AllByRecursion, list_all, range_with_len}
use Rattle.channel_model.specs.Commands.{is_one_of}
use Rattle.channel_model.specs.Completion.{occurrences}

-- ---- tests

-- a disjunction holds by either part
pub or_left : (a b : Bool) → a ≡ true → (a || b) ≡ true
or_left true b h = refl
or_left false b h = absurd (cc h)

pub or_right : (a b : Bool) → b ≡ true → (a || b) ≡ true
or_right true b h = refl
or_right false b h = h

-- numbers that differ
pub apart_by : (m n : ℕ) → m ≢ n → not (m == n) ≡ true
apart_by m n differ = ap not (ne_eqb m n differ)

-- the first and the others of a list that passes a test
pub first_passes : {A : Type 0} (test : A → Bool) (x : A) (xs : List A) → list_all test (x ∷ xs) ≡ true → (test x ≡ true) × (list_all test xs ≡ true)
first_passes test x xs h = and_parts (test x) (list_all test xs) h

-- a test that follows from another
pub all_pass : {A : Type 0} (p q : A → Bool) → ((x : A) → p x ≡ true → q x ≡ true) → (xs : List A) → list_all p xs ≡ true → list_all q xs ≡ true
all_pass p q follows [] h = refl
all_pass p q follows (x ∷ xs) h =
    let now = first_passes p x xs h in
    and_from (q x) (list_all q xs) (follows x now.0) (all_pass p q follows xs now.1)

-- one that each item passes
pub all_hold : {A : Type 0} (q : A → Bool) → ((x : A) → q x ≡ true) → (xs : List A) → list_all q xs ≡ true
all_hold q holds [] = refl
all_hold q holds (x ∷ xs) = and_from (q x) (list_all q xs) (holds x) (all_hold q holds xs)

-- a test that follows from what holds of each
pub each_passes : {A : Type 0} (P : A → Type 0) (q : A → Bool) → ((x : A) → P x → q x ≡ true) → (xs : List A) → AllByRecursion P xs → list_all q xs ≡ true
each_passes P q follows [] h = refl
each_passes P q follows (x ∷ xs) h = and_from (q x) (list_all q xs) (follows x h.0) (each_passes P q follows xs h.1)

-- what follows from what holds of each
pub each_follows : {A : Type 0} (P Q : A → Type 0) → ((x : A) → P x → Q x) → (xs : List A) → AllByRecursion P xs → AllByRecursion Q xs
each_follows P Q follows [] h = tt
each_follows P Q follows (x ∷ xs) h = (follows x h.0, each_follows P Q follows xs h.1)

-- ---- how often numbers stand in a list

-- in a list with one number more
pub occurrences_cons : (n m : ℕ) (ns : List ℕ) → occurrences n (m ∷ ns) ≡ cond (m == n) 1 0 + occurrences n ns
occurrences_cons n m ns = by (m == n)
  where
    by : (b : Bool) → cond b (occurrences n ns + 1) (occurrences n ns) ≡ cond b 1 0 + occurrences n ns
    by true = omega arith
    by false = omega arith

pub occurrences_here : (n : ℕ) (ns : List ℕ) → occurrences n (n ∷ ns) ≡ occurrences n ns + 1
occurrences_here n ns = rw (eq-eqb n n refl) refl

-- a number that isn't in a list isn't its first, nor in the rest
pub none_first : (n m : ℕ) (ns : List ℕ) → occurrences n (m ∷ ns) ≡ 0 → (m ≢ n) × (occurrences n ns ≡ 0)
none_first n m ns none = by (m == n) refl none
  where
    by : (b : Bool) → (m == n) ≡ b → cond b (occurrences n ns + 1) (occurrences n ns) ≡ 0 → (m ≢ n) × (occurrences n ns ≡ 0)
    by true is h = absurd (omega (arith, h))
    by false is h = (λ same. absurd (let clash : true ≡ false = sym (eq-eqb m n same) ∙ is in cc), h)

-- a number that is one of these stands among them, and one that stands there is one of them
pub stands_among : (n : ℕ) (ns : List ℕ) → is_one_of ns n ≡ true → occurrences n ns ≢ 0
stands_among n [] h = absurd (cc h)
stands_among n (m ∷ ns) h = by (m == n) h (stands_among n ns)
  where
    by : (b : Bool) → (b || is_one_of ns n) ≡ true → (is_one_of ns n ≡ true → occurrences n ns ≢ 0) → cond b (occurrences n ns + 1) (occurrences n ns) ≢ 0
    by true h rest = λ none. absurd (omega (arith, none))
    by false h rest = rest h

pub one_among : (n : ℕ) (ns : List ℕ) → occurrences n ns ≢ 0 → is_one_of ns n ≡ true
one_among n [] some = absurd (some refl)
one_among n (m ∷ ns) some = by (m == n) some (one_among n ns)
  where
    by : (b : Bool) → cond b (occurrences n ns + 1) (occurrences n ns) ≢ 0 → (occurrences n ns ≢ 0 → is_one_of ns n ≡ true) → (b || is_one_of ns n) ≡ true
    by true some rest = refl
    by false some rest = rest some

-- a run from 1 on has no 0
pub no_zero : (from len : ℕ) → 1 ≤ from → occurrences 0 (range_with_len from len) ≡ 0
no_zero from zero le = refl
no_zero from (suc len) le = rw (ne_eqb from 0 (λ e. omega (arith, le, e))) (no_zero (from + 1) len (omega arith))
