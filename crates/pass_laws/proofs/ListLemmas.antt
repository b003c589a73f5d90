-- Lists, what holds of each of their items, and counts that stop at a limit.
use Rattle.std.proofs.Common.{◌≡◌, ◌∙◌, ℕ, ◌+◌, List, [], ◌∷◌, ◌++◌, length, map, min, refl, ap, arith}
use Rattle.std.proofs.lemmas.List.{length-append}
use Rattle.std.specs.List.{AllByRecursion}

-- what holds of each in two lists
pub each_parts : {A : Type 0} (P : A → Type 0) (xs ys : List A) → AllByRecursion P (xs ++ ys) → AllByRecursion P xs × AllByRecursion P ys
each_parts P [] ys each = (tt, each)
each_parts P (x ∷ xs) ys each = let rest = each_parts P xs ys each.1 in ((each.0, rest.0), rest.1)

-- of each that a function makes
pub each_mapped : {A B : Type 0} (f : A → B) (P : B → Type 0) (xs : List A) → AllByRecursion P (map f xs) → AllByRecursion (λ x. P (f x)) xs
each_mapped f P [] each = tt
each_mapped f P (x ∷ xs) each = (each.0, each_mapped f P xs each.1)

-- both of each
pub both_of_each : {A : Type 0} (P Q R : A → Type 0) → ((x : A) → P x → Q x → R x) → (xs : List A) → AllByRecursion P xs → AllByRecursion Q xs → AllByRecursion R xs
both_of_each P Q R f [] ps qs = tt
both_of_each P Q R f (x ∷ xs) ps qs = (f x ps.0 qs.0, both_of_each P Q R f xs ps.1 qs.1)

-- what is as long with more behind it has nothing behind it
pub nothing_behind : {A : Type 0} (xs ys : List A) → xs ≡ xs ++ ys → ys ≡ []
nothing_behind xs [] same = refl
nothing_behind xs (y ∷ ys) same = absurd (omega (arith, ap length same, length-append xs (y ∷ ys)))

-- lists with the same end
pub same_front : {A : Type 0} (xs ys zs : List A) → xs ++ zs ≡ ys ++ zs → xs ≡ ys
same_front [] [] zs same = refl
same_front [] (y ∷ ys) zs same = absurd (omega (arith, ap length same, length-append ys zs))
same_front (x ∷ xs) [] zs same = absurd (omega (arith, ap length same, length-append xs zs))
same_front {A = A} (x ∷ xs) (y ∷ ys) zs same =
    let head : x ≡ y = cc same in
    let tail : xs ++ zs ≡ ys ++ zs = cc same in
    ap (λ (z : A). z ∷ xs) head ∙ ap (λ l. y ∷ l) (same_front xs ys zs tail)

-- from one number to another by a third
pub steps_to : (a b c : ℕ) → a ≡ b → b ≡ c → a ≡ c
steps_to a b c first more = first ∙ more

-- counts that stop at a limit, one behind the other
pub capped_more : (old middle new m n : ℕ) (limit : ℕ) → min middle limit ≡ min (old + m) limit → min new limit ≡ min (middle + n) limit → min new limit ≡ min (old + (m + n)) limit
capped_more old middle new m n limit one more = omega (arith, one, more)
