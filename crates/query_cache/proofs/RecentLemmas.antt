-- Lists of which each item comes once, the latest first, and what is left of them where there is room for some.
use Rattle.std.proofs.Common.{◌≡◌, ℕ, zero, suc, ◌+◌, ◌<◌, Bool, true, false, cond, not, ◌||◌, List, [], ◌∷◌, ◌++◌, length, take, arith, refl, sym, ap, subst, ◌∙◌, Some, None}
use Rattle.std.specs.Bool.{Decides}
use Rattle.std.specs.List.{list_any}
use Rattle.std.specs.Prelude.{⊤, slice_get}
use Rattle.std.proofs.lemmas.Bool.{false≢true, or_parts, or_from, or_left, false_from_ne_true}

module _ {X : Type 0} (eq : X → X → Bool) where
  -- the item is among them
  abbrev pub member : X → List X → Bool
  member x ys = list_any (eq x) ys

  -- the others
  abbrev pub without : X → List X → List X
  without x [] = []
  without x (y ∷ ys) = cond (eq x y) (without x ys) (y ∷ without x ys)

  -- each item once, at its first place
  abbrev pub once : List X → List X
  once [] = []
  once (x ∷ xs) = x ∷ without x (once xs)

  -- no item comes twice
  abbrev pub Apart : List X → Type 0
  Apart [] = ⊤
  Apart (x ∷ xs) = (member x xs ≡ false) × Apart xs

module _ {X : Type 0} (eq : X → X → Bool) (is : (a b : X) → Decides (eq a b) (a ≡ b)) where
  -- ---- the test

  pub itself : (x : X) → eq x x ≡ true
  itself x = (is x x).1 refl

  pub turned : (x y : X) → eq x y ≡ false → eq y x ≡ false
  turned x y differ = false_from_ne_true (eq y x) (λ same. false≢true (sym differ ∙ (is x y).1 (sym ((is y x).0 same))))

  -- ---- members

  -- what is left out is no member
  member-gone : (x : X) (ys : List X) → member eq x (without eq x ys) ≡ false
  member-gone x [] = refl
  member-gone x (y ∷ ys) = by (eq x y) refl (member-gone x ys)
    where
      by : (b : Bool) → eq x y ≡ b → member eq x (without eq x ys) ≡ false → member eq x (cond b (without eq x ys) (y ∷ without eq x ys)) ≡ false
      by true e rest = rest
      by false e rest = or_from (eq x y) _ e rest

  -- the others are as before
  member-others : (x z : X) (ys : List X) → eq x z ≡ false → member eq z (without eq x ys) ≡ member eq z ys
  member-others x z [] differ = refl
  member-others x z (y ∷ ys) differ = by (eq x y) refl (member-others x z ys differ)
    where
      by : (b : Bool) → eq x y ≡ b → member eq z (without eq x ys) ≡ member eq z ys → member eq z (cond b (without eq x ys) (y ∷ without eq x ys)) ≡ (eq z y || member eq z ys)
      by true e rest = rest ∙ sym (ap (λ t. t || member eq z ys) (subst (λ w. eq z w ≡ false) ((is x y).0 e) (turned x z differ)))
      by false e rest = ap (λ t. eq z y || t) rest

  -- who is no member leaves nothing out
  without-absent : (x : X) (ys : List X) → member eq x ys ≡ false → without eq x ys ≡ ys
  without-absent x [] absent = refl
  without-absent x (y ∷ ys) absent =
      let parts = or_parts (eq x y) (member eq x ys) absent in
      ap (λ b. cond b (without eq x ys) (y ∷ without eq x ys)) parts.0 ∙ ap (λ l. y ∷ l) (without-absent x ys parts.1)

  -- what comes once is a member as before
  pub member-once : (z : X) (ys : List X) → member eq z (once eq ys) ≡ member eq z ys
  member-once z [] = refl
  member-once z (y ∷ ys) = by (eq z y) refl (member-once z ys)
    where
      by : (b : Bool) → eq z y ≡ b → member eq z (once eq ys) ≡ member eq z ys → (b || member eq z (without eq y (once eq ys))) ≡ (b || member eq z ys)
      by true e rest = refl
      by false e rest = member-others y z (once eq ys) (turned z y e) ∙ rest

  -- ---- items that come once

  apart-without : (x : X) (ys : List X) → Apart eq ys → Apart eq (without eq x ys)
  apart-without x [] apart = tt
  apart-without x (y ∷ ys) apart = by (eq x y) refl (apart-without x ys apart.1)
    where
      by : (b : Bool) → eq x y ≡ b → Apart eq (without eq x ys) → Apart eq (cond b (without eq x ys) (y ∷ without eq x ys))
      by true e rest = rest
      by false e rest = (member-others x y ys e ∙ apart.0, rest)

  pub apart-once : (ys : List X) → Apart eq (once eq ys)
  apart-once [] = tt
  apart-once (y ∷ ys) = (member-gone y (once eq ys), apart-without y (once eq ys) (apart-once ys))

  -- one of them fewer
  fewer : (x : X) (ys : List X) → Apart eq ys → length ys ≡ length (without eq x ys) + cond (member eq x ys) 1 0
  fewer x [] apart = refl
  fewer x (y ∷ ys) apart = by (eq x y) refl (fewer x ys apart.1)
    where
      by : (b : Bool) → eq x y ≡ b → length ys ≡ length (without eq x ys) + cond (member eq x ys) 1 0 → suc (length ys) ≡ length (cond b (without eq x ys) (y ∷ without eq x ys)) + cond (b || member eq x ys) 1 0
      by true e rest =
          let gone : without eq x ys ≡ ys = without-absent x ys (subst (λ w. member eq w ys ≡ false) (sym ((is x y).0 e)) apart.0) in
          let same : length (without eq x ys) ≡ length ys = ap length gone in omega arith
      by false e rest = omega arith

  -- how many items there are, each counted once
  pub once-more : (x : X) (ys : List X) → length (once eq (x ∷ ys)) ≡ cond (member eq x ys) (length (once eq ys)) (length (once eq ys) + 1)
  once-more x ys = by (member eq x ys) (sym (member-once x ys))
    where
      by : (b : Bool) → b ≡ member eq x (once eq ys) → suc (length (without eq x (once eq ys))) ≡ cond b (length (once eq ys)) (length (once eq ys) + 1)
      by true e = let rest = fewer x (once eq ys) (apart-once ys) in let is_one : cond {A = ℕ} (member eq x (once eq ys)) 1 0 ≡ 1 = ap (λ (t : Bool). cond {A = ℕ} t 1 0) (sym e) in omega arith
      by false e = let rest = fewer x (once eq ys) (apart-once ys) in let is_none : cond {A = ℕ} (member eq x (once eq ys)) 1 0 ≡ 0 = ap (λ (t : Bool). cond {A = ℕ} t 1 0) (sym e) in omega arith

  -- ---- as many as there is room for

  -- one item more than is left finds what is left
  take-without : (n : ℕ) (x : X) (ys : List X) → Apart eq ys → take n (without eq x (take (suc n) ys)) ≡ take n (without eq x ys)
  take-without n x [] apart = refl
  take-without n x (y ∷ ys) apart = by (eq x y) refl (λ m. take-without m x ys apart.1)
    where
      shorter : (m : ℕ) (zs : List X) → take m (take m zs) ≡ take m zs
      shorter zero zs = refl
      shorter (suc m) [] = refl
      shorter (suc m) (z ∷ zs) = ap (λ l. z ∷ l) (shorter m zs)

      still : (m : ℕ) (zs : List X) → member eq x zs ≡ false → member eq x (take m zs) ≡ false
      still zero zs absent = refl
      still (suc m) [] absent = refl
      still (suc m) (z ∷ zs) absent = let parts = or_parts (eq x z) (member eq x zs) absent in or_from (eq x z) _ parts.0 (still m zs parts.1)

      after : ((m : ℕ) → take m (without eq x (take (suc m) ys)) ≡ take m (without eq x ys)) → (m : ℕ) → take m (y ∷ without eq x (take m ys)) ≡ take m (y ∷ without eq x ys)
      after rest zero = refl
      after rest (suc m) = ap (λ l. y ∷ l) (rest m)

      by : (b : Bool) → eq x y ≡ b → ((m : ℕ) → take m (without eq x (take (suc m) ys)) ≡ take m (without eq x ys)) → take n (cond b (without eq x (take n ys)) (y ∷ without eq x (take n ys))) ≡ take n (cond b (without eq x ys) (y ∷ without eq x ys))
      by true e rest =
          let absent : member eq x ys ≡ false = subst (λ w. member eq w ys ≡ false) (sym ((is x y).0 e)) apart.0 in
          ap (take n) (without-absent x (take n ys) (still n ys absent)) ∙ shorter n ys ∙ ap (take n) (sym (without-absent x ys absent))
      by false e rest = after rest n

  -- a use of an item finds, of the items that there was room for, all that there is room for afterwards
  pub used-again : (room : ℕ) (x : X) (ys : List X) → Apart eq ys → take room (x ∷ without eq x (take room ys)) ≡ take room (x ∷ without eq x ys)
  used-again zero x ys apart = refl
  used-again (suc n) x ys apart = ap (λ l. x ∷ l) (take-without n x ys apart)

  -- ---- the place of an item

  -- others before an item stay before it
  without-split : (a x : X) (fs gs : List X) → eq a x ≡ false → (hs : List X) × (without eq a (fs ++ x ∷ gs) ≡ without eq a fs ++ x ∷ hs)
  without-split a x [] gs differ = (without eq a gs, ap (λ b. cond b (without eq a gs) (x ∷ without eq a gs)) differ)
  without-split a x (f ∷ fs) gs differ = let rest = without-split a x fs gs differ in (rest.0, by rest.0 (eq a f) rest.1)
    where
      by : (hs : List X) (b : Bool) → without eq a (fs ++ x ∷ gs) ≡ without eq a fs ++ x ∷ hs → cond b (without eq a (fs ++ x ∷ gs)) (f ∷ without eq a (fs ++ x ∷ gs)) ≡ cond b (without eq a fs) (f ∷ without eq a fs) ++ x ∷ hs
      by hs true e = e
      by hs false e = ap (λ l. f ∷ l) e

  -- the items before the first place of x stand before it once
  pub once-split : (x : X) (fs gs : List X) → member eq x fs ≡ false → (hs : List X) × (once eq (fs ++ x ∷ gs) ≡ once eq fs ++ x ∷ hs)
  once-split x [] gs absent = (without eq x (once eq gs), refl)
  once-split x (f ∷ fs) gs absent =
      let parts = or_parts (eq x f) (member eq x fs) absent in
      let rest = once-split x fs gs parts.1 in
      let split = without-split f x (once eq fs) rest.0 (turned x f parts.0) in
      (split.0, ap (λ l. f ∷ l) (ap (without eq f) rest.1 ∙ split.1))

  -- an item is among the first where fewer stand before it than there is room for
  pub among-first : (room : ℕ) (x : X) (fs gs : List X) → Apart eq (fs ++ x ∷ gs) → Decides (member eq x (take room (fs ++ x ∷ gs))) (length fs < room)
  among-first zero x fs gs apart = (λ e. absurd (false≢true e), λ h. absurd (omega (arith, h)))
  among-first (suc n) x [] gs apart = (λ _. omega arith, λ _. or_left (eq x x) _ (itself x))
  among-first (suc n) x (f ∷ fs) gs apart =
      let rest = among-first n x fs gs apart.1 in let differ = apart_from fs apart.0 in (
        λ e. let h : length fs < n = rest.0 (ap (λ b. b || member eq x (take n (fs ++ x ∷ gs))) (sym differ) ∙ e) in omega arith,
        λ h. ap (λ b. b || member eq x (take n (fs ++ x ∷ gs))) differ ∙ rest.1 (omega arith),
      )
    where
      apart_from : (hs : List X) → member eq f (hs ++ x ∷ gs) ≡ false → eq x f ≡ false
      apart_from [] absent = turned f x (or_parts (eq f x) _ absent).0
      apart_from (h ∷ hs) absent = apart_from hs (or_parts (eq f h) _ absent).1

  -- where it stands, so many stand before it
  pub place : (i : ℕ) (x : X) (fs gs : List X) → Apart eq (fs ++ x ∷ gs) → slice_get (fs ++ x ∷ gs) i ≡ Some x → i ≡ length fs
  place zero x [] gs apart at = refl
  place (suc i) x [] gs apart at = absurd (false≢true (sym apart.0 ∙ found i gs at))
    where
      anyway : (b : Bool) → (b || true) ≡ true
      anyway true = refl
      anyway false = refl

      found : (j : ℕ) (hs : List X) → slice_get hs j ≡ Some x → member eq x hs ≡ true
      found j [] e = cc
      found zero (h ∷ hs) e = let same : h ≡ x = cc in ap (λ b. b || member eq x hs) (subst (λ w. eq x w ≡ true) (sym same) (itself x))
      found (suc j) (h ∷ hs) e = let rest = found j hs e in ap (λ t. eq x h || t) rest ∙ anyway (eq x h)
  place zero x (f ∷ fs) gs apart at = absurd (false≢true (sym (outside fs apart.0) ∙ same_item))
    where
      same : f ≡ x
      same = cc

      same_item : eq f x ≡ true
      same_item = (is f x).1 same

      outside : (hs : List X) → member eq f (hs ++ x ∷ gs) ≡ false → eq f x ≡ false
      outside [] absent = (or_parts (eq f x) _ absent).0
      outside (h ∷ hs) absent = outside hs (or_parts (eq f h) _ absent).1
  place (suc i) x (f ∷ fs) gs apart at = ap suc (place i x fs gs apart.1 at)

  -- who is among the first is among all
  pub member-take : (n : ℕ) (x : X) (ys : List X) → member eq x (take n ys) ≡ true → member eq x ys ≡ true
  member-take zero x ys m = absurd (false≢true m)
  member-take (suc n) x [] m = m
  member-take (suc n) x (y ∷ ys) m = by (eq x y) m (member-take n x ys)
    where
      by : (b : Bool) → (b || member eq x (take n ys)) ≡ true → (member eq x (take n ys) ≡ true → member eq x ys ≡ true) → (b || member eq x ys) ≡ true
      by true m rest = refl
      by false m rest = rest m
