-- Tests of lists, lists of one item at most, and lists that are put together of two.
use Rattle.std.proofs.Common.{◌≡◌, ◌&&◌, List, [], ◌∷◌, ◌++◌, refl, sym, ap, subst, ◌∙◌, Bool, true, false, inl, inr}
use Rattle.std.specs.Prelude.{◌⊎◌}
use Rattle.std.specs.List.{list_all}
use Rattle.std.proofs.lemmas.List.Folds.{list_all-append}
use mathlib.Core.List.{IsPrefix}
use Rattle.owner_laws.proofs.ListLemmas.{heads, tails}

-- three tests that hold
pub three_hold : (a b c : Bool) → (a && b && c) ≡ true → (a ≡ true) × (b ≡ true) × (c ≡ true)
three_hold true true true h = (refl, refl, refl)
three_hold true true false h = absurd (cc h)
three_hold true false c h = absurd (cc h)
three_hold false b c h = absurd (cc h)

-- two tests that hold
pub both_hold : (a b : Bool) → (a && b) ≡ true → (a ≡ true) × (b ≡ true)
both_hold true true h = (refl, refl)
both_hold true false h = absurd (cc h)
both_hold false b h = absurd (cc h)

-- the first and the others of a list that passes a test
pub first_passes : {A : Type 0} (test : A → Bool) (x : A) (xs : List A) → list_all test (x ∷ xs) ≡ true → (test x ≡ true) × (list_all test xs ≡ true)
first_passes test x xs h = both_hold (test x) (list_all test xs) h

-- a test that follows from another
pub all_pass : {A : Type 0} (p q : A → Bool) → ((x : A) → p x ≡ true → q x ≡ true) → (xs : List A) → list_all p xs ≡ true → list_all q xs ≡ true
all_pass p q follows [] h = refl
all_pass p q follows (x ∷ xs) h =
    let now = first_passes p x xs h in
    rw (follows x now.0, all_pass p q follows xs now.1) refl

-- nothing, or the one item
pub one_at_most : {A : Type 0} (item : A) (xs : List A) → IsPrefix xs (item ∷ []) → (xs ≡ []) ⊎ (xs ≡ item ∷ [])
one_at_most item [] p = inl refl
one_at_most item (x ∷ []) p = inr (let is : x ∷ p.0 ≡ item ∷ [] = p.1 in cc)
one_at_most item (x ∷ y ∷ xs) p = absurd (let is : x ∷ y ∷ (xs ++ p.0) ≡ item ∷ [] = p.1 in cc)

-- ---- lists that are put together of two, and an item in them

-- the item stands in the first, or in the second
abbrev pub InFirst : {A : Type 0} → List A → List A → List A → List A → A → Type 0
InFirst xs ys front back x = (rest : List _) × (xs ≡ front ++ x ∷ rest) × (back ≡ rest ++ ys)

abbrev pub InSecond : {A : Type 0} → List A → List A → List A → List A → A → Type 0
InSecond xs ys front back x = (before : List _) × (front ≡ xs ++ before) × (ys ≡ before ++ x ∷ back)

split_further : {A : Type 0} (y : A) (xs ys front back : List A) (x : A) → InFirst xs ys front back x ⊎ InSecond xs ys front back x → InFirst (y ∷ xs) ys (y ∷ front) back x ⊎ InSecond (y ∷ xs) ys (y ∷ front) back x
split_further y xs ys front back x (inl a) = inl (a.0, ap (λ l. y ∷ l) a.1, a.2)
split_further y xs ys front back x (inr b) = inr (b.0, ap (λ l. y ∷ l) b.1, b.2)

pub split_at : {A : Type 0} (xs ys front back : List A) (x : A) → xs ++ ys ≡ front ++ x ∷ back → InFirst xs ys front back x ⊎ InSecond xs ys front back x
split_at [] ys front back x is = inr (front, refl, is)
split_at (y ∷ xs) ys [] back x is =
    let same : y ≡ x = heads y x (xs ++ ys) back is in
    inl (xs, ap (λ z. z ∷ xs) same, sym (tails y x (xs ++ ys) back is))
split_at (y ∷ xs) ys (z ∷ front) back x is =
    let same : y ≡ z = heads y z (xs ++ ys) (front ++ x ∷ back) is in
    subst (λ f. InFirst (y ∷ xs) ys (f ∷ front) back x ⊎ InSecond (y ∷ xs) ys (f ∷ front) back x) same
    (split_further y xs ys front back x (split_at xs ys front back x (tails y z (xs ++ ys) (front ++ x ∷ back) is)))

-- no list without an item has one
pub not_there : {A : Type 0} (front back : List A) (x : A) → [] ≡ front ++ x ∷ back → ⊥
not_there [] back x is = cc is
not_there (y ∷ front) back x is = cc is

-- a test of two lists
pub two_pass : {A : Type 0} (test : A → Bool) (xs ys : List A) → list_all test (xs ++ ys) ≡ true → (list_all test xs ≡ true) × (list_all test ys ≡ true)
two_pass test xs ys h = both_hold (list_all test xs) (list_all test ys) (sym (list_all-append test xs ys) ∙ h)

-- an item of a list passes its test
pub item_passes : {A : Type 0} (test : A → Bool) (front back : List A) (x : A) → list_all test (front ++ x ∷ back) ≡ true → test x ≡ true
item_passes test front back x h = (first_passes test x back (two_pass test front (x ∷ back) h).1).0
