-- What holds of each item of a list that is filtered, mapped or joined.
use Rattle.std.proofs.Common.{inl, inr, subst}
use Rattle.std.proofs.lemmas.Bool.{cond_both}
use Rattle.std.specs.List.{AllByRecursion}
use Rattle.std.specs.Prelude.{Option, None, Some, Bool, cond, ◌≡◌, true, ◌⊎◌, false, refl, List, [], ◌∷◌, filter, ◌++◌, flat_map, map}
use Rattle.channel_model.specs.Lawful.{first}

-- there is no value that is one
pub none_is_some : {A P : Type 0} (x : A) → ◌≡◌ {A = Option A} None (Some x) → P
none_is_some x e = absurd cc

-- a value in a choice
pub cond_cases : {A : Type 0} (b : Bool) (x y : A) (rest : Option A) → cond b (Some x) rest ≡ Some y → ((b ≡ true) × (x ≡ y)) ⊎ ((b ≡ false) × (rest ≡ Some y))
cond_cases true x y rest e = inl (refl, cc)
cond_cases false x y rest e = inr (refl, e)

-- a value that a test leaves
pub cond_left : {A : Type 0} (b : Bool) (x y : A) → cond b None (Some x) ≡ Some y → (b ≡ false) × (x ≡ y)
cond_left true x y e = none_is_some y e
cond_left false x y e = (refl, cc)

-- what holds of each item holds of the first
pub first_of : {X : Type 0} (P : X → Type 0) (xs : List X) (x : X) → AllByRecursion P xs → first xs ≡ Some x → P x
first_of P [] x each e = none_is_some x e
first_of P (y ∷ ys) x each e = let same : y ≡ x = cc in subst P same each.0

-- and of those that a test leaves
pub each-filter : {X : Type 0} (P : X → Type 0) (test : X → Bool) (xs : List X) → AllByRecursion P xs → AllByRecursion (λ x. (test x ≡ true) × P x) (filter test xs)
each-filter P test [] each = tt
each-filter P test (x ∷ xs) each =
    cond_both (test x) (x ∷ filter test xs) (filter test xs) (AllByRecursion (λ x. (test x ≡ true) × P x))
    (λ passes. ((passes, each.0), each-filter P test xs each.1)) (λ fails. each-filter P test xs each.1)

-- of lists one behind the other
pub each-append : {X : Type 0} (P : X → Type 0) (xs ys : List X) → AllByRecursion P xs → AllByRecursion P ys → AllByRecursion P (xs ++ ys)
each-append P [] ys each rest = rest
each-append P (x ∷ xs) ys each rest = (each.0, each-append P xs ys each.1 rest)

-- of the lists that a function makes of the items
pub each-flat_map : {X Y : Type 0} (P : X → Type 0) (Q : Y → Type 0) (f : X → List Y) (xs : List X) → ((x : X) → P x → AllByRecursion Q (f x)) → AllByRecursion P xs → AllByRecursion Q (flat_map f xs)
each-flat_map P Q f [] made each = tt
each-flat_map P Q f (x ∷ xs) made each = each-append Q (f x) (flat_map f xs) (made x each.0) (each-flat_map P Q f xs made each.1)

-- of what a function makes of the items
pub each-map : {X Y : Type 0} (Q : Y → Type 0) (f : X → Y) (xs : List X) → ((x : X) → Q (f x)) → AllByRecursion Q (map f xs)
each-map Q f [] made = tt
each-map Q f (x ∷ xs) made = (made x, each-map Q f xs made)

-- of any item, what holds of anything
pub each-any : {X : Type 0} (P : X → Type 0) (xs : List X) → ((x : X) → P x) → AllByRecursion P xs
each-any P [] h = tt
each-any P (x ∷ xs) h = (h x, each-any P xs h)

-- and what follows from what holds
pub each-then : {X : Type 0} (P Q : X → Type 0) (xs : List X) → ((x : X) → P x → Q x) → AllByRecursion P xs → AllByRecursion Q xs
each-then P Q [] h each = tt
each-then P Q (x ∷ xs) h each = (h x each.0, each-then P Q xs h each.1)
