-- Lists: what stands in one, and totals over one.
use Rattle.std.proofs.Common.{◌≡◌, ◌∙◌, ℕ, ◌+◌, ◌*◌, ◌≤◌, suc, Bool, true, false, List, [], ◌∷◌, ◌++◌, Option, Some, None, refl, ap, ap₂, sym, subst, map, cond, arith, length, inl, inr, ◌⊎◌, ⊎_elim, true≢false}
use Rattle.std.proofs.lemmas.Bool.{or_parts}
use Rattle.std.specs.List.{AllByRecursion, list_any}
use Rattle.std.specs.Prelude.{filter, flat_map, option_map, ◌||◌}
use Rattle.channel_model.specs.Lawful.{first}

-- the item stands in the list
abbrev pub Has : {X : Type 0} → X → List X → Type 0
Has x [] = ⊥
Has x (y ∷ ys) = (x ≡ y) ⊎ Has x ys

-- what stands in a list stands in one that begins with it
pub has-left : {X : Type 0} (x : X) (xs ys : List X) → Has x xs → Has x (xs ++ ys)
has-left x [] ys h = absurd h
has-left x (y ∷ xs) ys (inl e) = inl e
has-left x (y ∷ xs) ys (inr h) = inr (has-left x xs ys h)

-- and in one that ends with it
pub has-right : {X : Type 0} (x : X) (xs ys : List X) → Has x ys → Has x (xs ++ ys)
has-right x [] ys h = h
has-right x (y ∷ xs) ys h = inr (has-right x xs ys h)

-- and what stands in two lists stands in one of them
has-append : {X : Type 0} (x : X) (xs ys : List X) → Has x (xs ++ ys) → Has x xs ⊎ Has x ys
has-append x [] ys h = inr h
has-append x (y ∷ xs) ys (inl e) = inl (inl e)
has-append x (y ∷ xs) ys (inr h) = ⊎_elim (λ a. inl (inr a)) (λ b. inr b) (has-append x xs ys h)

-- what a test leaves stood there, and passes
pub has-filter : {X : Type 0} (x : X) (p : X → Bool) (xs : List X) → Has x (filter p xs) → Has x xs × (p x ≡ true)
has-filter x p [] h = absurd h
has-filter {X} x p (y ∷ ys) h = by_test (p y) refl h (has-filter x p ys)
  where
    by_test : (b : Bool) → p y ≡ b → Has x (cond b (y ∷ filter p ys) (filter p ys)) → (Has x (filter p ys) → Has x ys × (p x ≡ true)) → Has x (y ∷ ys) × (p x ≡ true)
    by_test true is (inl e) rest = (inl e, ap p e ∙ is)
    by_test true is (inr h) rest = let r = rest h in (inr r.0, r.1)
    by_test false is h rest = let r = rest h in (inr r.0, r.1)

-- and what stands there and passes it leaves
pub filter-has : {X : Type 0} (x : X) (p : X → Bool) (xs : List X) → Has x xs → p x ≡ true → Has x (filter p xs)
filter-has x p [] h passes = absurd h
filter-has x p (y ∷ ys) (inl e) passes = let is : p y ≡ true = sym (ap p e) ∙ passes in rw is (inl e)
filter-has {X} x p (y ∷ ys) (inr h) passes = by_test (p y) (filter-has x p ys h passes)
  where
    by_test : (b : Bool) → Has x (filter p ys) → Has x (cond b (y ∷ filter p ys) (filter p ys))
    by_test true rest = inr rest
    by_test false rest = rest

-- what a function makes of an item stands among what it makes of all
pub has-map : {X Y : Type 0} (f : X → Y) (x : X) (xs : List X) → Has x xs → Has (f x) (map f xs)
has-map f x [] h = absurd h
has-map f x (y ∷ ys) (inl e) = inl (ap f e)
has-map f x (y ∷ ys) (inr h) = inr (has-map f x ys h)

-- and only that
pub map-has : {X Y : Type 0} (f : X → Y) (y : Y) (xs : List X) → Has y (map f xs) → (x : X) × Has x xs × (y ≡ f x)
map-has f y [] h = absurd h
map-has f y (x ∷ xs) (inl e) = (x, inl refl, e)
map-has f y (x ∷ xs) (inr h) = let r = map-has f y xs h in (r.0, inr r.1, r.2)

-- what stands in the lists that a function makes of items is made of one
pub has-flat_map : {X Y : Type 0} (f : X → List Y) (y : Y) (xs : List X) → Has y (flat_map f xs) → (x : X) × Has x xs × Has y (f x)
has-flat_map f y [] h = absurd h
has-flat_map f y (x ∷ xs) h = ⊎_elim (λ here. (x, inl refl, here)) (λ there. let r = has-flat_map f y xs there in (r.0, inr r.1, r.2)) (has-append y (f x) (flat_map f xs) h)

-- and what is made of one stands there
pub flat_map-has : {X Y : Type 0} (f : X → List Y) (x : X) (y : Y) (xs : List X) → Has x xs → Has y (f x) → Has y (flat_map f xs)
flat_map-has f x y [] h k = absurd h
flat_map-has f x y (z ∷ xs) (inl e) k = has-left y (f z) (flat_map f xs) (subst (λ w. Has y (f w)) e k)
flat_map-has f x y (z ∷ xs) (inr h) k = has-right y (f z) (flat_map f xs) (flat_map-has f x y xs h k)

-- what holds of each item holds of one that stands there
pub each-has : {X : Type 0} (P : X → Type 0) (x : X) (xs : List X) → AllByRecursion P xs → Has x xs → P x
each-has P x [] each h = absurd h
each-has P x (y ∷ ys) each (inl e) = subst P (sym e) each.0
each-has P x (y ∷ ys) each (inr h) = each-has P x ys each.1 h

-- the first item stands there
pub first-has : {X : Type 0} (x : X) (xs : List X) → first xs ≡ Some x → Has x xs
first-has x [] e = absurd cc
first-has x (y ∷ ys) e = let same : y ≡ x = cc in inl (sym same)

-- an item passes a test that some item does
pub any-has : {X : Type 0} (t : X → Bool) (xs : List X) → list_any t xs ≡ true → (x : X) × Has x xs × (t x ≡ true)
any-has t [] e = absurd (true≢false (sym e))
any-has {X} t (y ∷ ys) e = by_test (t y) refl e (any-has t ys)
  where
    by_test : (b : Bool) → t y ≡ b → (b || list_any t ys) ≡ true → (list_any t ys ≡ true → (x : X) × Has x ys × (t x ≡ true)) → (x : X) × Has x (y ∷ ys) × (t x ≡ true)
    by_test true is e rest = (y, inl refl, is)
    by_test false is e rest = let r = rest e in (r.0, inr r.1, r.2)

-- a list of no length is empty
pub length-none : {X : Type 0} (xs : List X) → length xs ≡ 0 → xs ≡ []
length-none [] e = refl
length-none (x ∷ xs) e = absurd (omega (arith, e))

-- the sum of a number for each item
abbrev pub total : {X : Type 0} → (X → ℕ) → List X → ℕ
total f [] = 0
total f (x ∷ xs) = f x + total f xs

-- the total over two lists
pub total-append : {X : Type 0} (f : X → ℕ) (xs ys : List X) → total f (xs ++ ys) ≡ total f xs + total f ys
total-append f [] ys = omega arith
total-append f (x ∷ xs) ys = omega (arith, total-append f xs ys)

-- where no item's number grows, the total doesn't
pub total-less : {X : Type 0} (f g : X → ℕ) (xs : List X) → ((x : X) → Has x xs → g x ≤ f x) → total g xs ≤ total f xs
total-less f g [] less = omega arith
total-less f g (x ∷ xs) less = omega (arith, less x (inl refl), total-less f g xs (λ y h. less y (inr h)))

-- and where one falls, it falls
pub total-drops : {X : Type 0} (f g : X → ℕ) (xs : List X) → ((x : X) → Has x xs → g x ≤ f x) → (y : X) → Has y xs → g y + 1 ≤ f y → total g xs + 1 ≤ total f xs
total-drops f g [] less y h drops = absurd h
total-drops f g (x ∷ xs) less y (inl e) drops =
    let here : g x + 1 ≤ f x = subst (λ z. g z + 1 ≤ f z) e drops in
    omega (arith, here, total-less f g xs (λ z h. less z (inr h)))
total-drops f g (x ∷ xs) less y (inr h) drops = omega (arith, less x (inl refl), total-drops f g xs (λ z k. less z (inr k)) y h drops)

-- nor does it where a test takes items away
pub total-kept : {X : Type 0} (f g : X → ℕ) (p : X → Bool) (xs : List X) → ((x : X) → Has x xs → g x ≤ f x) → total g (filter p xs) ≤ total f xs
total-kept f g p [] less = omega arith
total-kept {X} f g p (x ∷ xs) less = by_test (p x) (less x (inl refl)) (total-kept f g p xs (λ y h. less y (inr h)))
  where
    by_test : (b : Bool) → g x ≤ f x → total g (filter p xs) ≤ total f xs → total g (cond b (x ∷ filter p xs) (filter p xs)) ≤ f x + total f xs
    by_test true here rest = omega (arith, here, rest)
    by_test false here rest = omega (arith, rest)

-- and it falls where one with a number is taken away, or falls
pub total-falls : {X : Type 0} (f g : X → ℕ) (p : X → Bool) (xs : List X) → ((x : X) → Has x xs → g x ≤ f x) → (y : X) → Has y xs → 1 ≤ f y → (p y ≡ true → g y + 1 ≤ f y) → total g (filter p xs) + 1 ≤ total f xs
total-falls f g p [] less y h some falls = absurd h
total-falls {X} f g p (x ∷ xs) less y (inl e) some falls =
    by_test (p x) refl (subst (λ z. 1 ≤ f z) e some) (subst (λ z. p z ≡ true → g z + 1 ≤ f z) e falls) (total-kept f g p xs (λ z h. less z (inr h)))
  where
    by_test : (b : Bool) → p x ≡ b → 1 ≤ f x → (p x ≡ true → g x + 1 ≤ f x) → total g (filter p xs) ≤ total f xs → total g (cond b (x ∷ filter p xs) (filter p xs)) + 1 ≤ f x + total f xs
    by_test true is some falls rest = omega (arith, falls is, rest)
    by_test false is some falls rest = omega (arith, some, rest)
total-falls {X} f g p (x ∷ xs) less y (inr h) some falls = by_test (p x) (less x (inl refl)) (total-falls f g p xs (λ z k. less z (inr k)) y h some falls)
  where
    by_test : (b : Bool) → g x ≤ f x → total g (filter p xs) + 1 ≤ total f xs → total g (cond b (x ∷ filter p xs) (filter p xs)) + 1 ≤ f x + total f xs
    by_test true here rest = omega (arith, here, rest)
    by_test false here rest = omega (arith, rest)

-- so many for one more
one_more : (n m a b : ℕ) → a ≤ m → b ≤ n * m → a + b ≤ suc n * m
one_more n m a b here rest = omega (arith, here, rest)

-- a total is at most so much for each item
pub total-most : {X : Type 0} (f : X → ℕ) (m : ℕ) (xs : List X) → ((x : X) → f x ≤ m) → total f xs ≤ length xs * m
total-most f m [] most = omega arith
total-most f m (x ∷ xs) most = one_more (length xs) m (f x) (total f xs) (most x) (total-most f m xs most)

-- and as much as one of its items
pub total-some : {X : Type 0} (f : X → ℕ) (x : X) (xs : List X) → Has x xs → f x ≤ total f xs
total-some f x [] h = absurd h
total-some f x (y ∷ ys) (inl e) = let here : f x ≡ f y = ap f e in omega (arith, here)
total-some f x (y ∷ ys) (inr h) = omega (arith, total-some f x ys h)

-- there is no value behind a function, where there is none before it
pub map_none : {A B : Type 0} (f : A → B) (o : Option A) → option_map f o ≡ None → o ≡ None
map_none f None e = refl
map_none f (Some x) e = absurd cc

-- what holds of each item that stands there holds of each item
pub each-from : {X : Type 0} (P : X → Type 0) (xs : List X) → ((x : X) → Has x xs → P x) → AllByRecursion P xs
each-from P [] h = tt
each-from P (x ∷ xs) h = (h x (inl refl), each-from P xs (λ y k. h y (inr k)))

-- no item passes a test that none does
pub none-has : {X : Type 0} (t : X → Bool) (x : X) (xs : List X) → list_any t xs ≡ false → Has x xs → t x ≡ false
none-has t x [] e h = absurd h
none-has t x (y ∷ ys) e (inl same) = ap t same ∙ (or_parts (t y) (list_any t ys) e).0
none-has t x (y ∷ ys) e (inr h) = none-has t x ys (or_parts (t y) (list_any t ys) e).1 h

-- functions that make the same lists of the items make one list of them
pub flat_map-same : {X Y : Type 0} (f g : X → List Y) (xs : List X) → ((x : X) → f x ≡ g x) → flat_map f xs ≡ flat_map g xs
flat_map-same f g [] same = refl
flat_map-same f g (x ∷ xs) same = ap₂ (λ a b. a ++ b) (same x) (flat_map-same f g xs same)
