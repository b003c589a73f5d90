-- Lists of views, of which one changes.
use Rattle.std.proofs.Common.{◌≡◌, ◌≢◌, ◌∙◌, ◌≤◌, ℕ, zero, suc, ◌+◌, List, [], ◌∷◌, ◌++◌, refl, ap, sym, subst, arith, set, append_assoc, flat_map, sum_by}
use Rattle.std.proofs.lemmas.List.{append-nil}
use Rattle.std.proofs.lemmas.List.Sorted.{IsPermutation-append_comm, IsPermutation-append_left, IsPermutation-append_right, IsPermutation-refl, IsPermutation-trans}
use Rattle.std.proofs.lemmas.List.Sums.{sum_by-cons}
use Rattle.std.specs.List.Sorted.{IsPermutation}
use mathlib.Core.Option.{some, some-injective, some-ne-none}
use lib.ListN.{get_elem?}

module _ {A : Type 0} where
  -- equal lists are one in another's order
  pub same_order : (xs ys : List A) → xs ≡ ys → IsPermutation xs ys
  same_order xs ys is = subst (IsPermutation xs) is (IsPermutation-refl xs)

  -- the last of three lists may stand before the second
  pub swap_last : (xs ys zs : List A) → IsPermutation ((xs ++ ys) ++ zs) ((xs ++ zs) ++ ys)
  swap_last xs ys zs =
      IsPermutation-trans ((xs ++ ys) ++ zs) (xs ++ (ys ++ zs)) ((xs ++ zs) ++ ys) (same_order ((xs ++ ys) ++ zs) (xs ++ (ys ++ zs)) (append_assoc xs ys zs))
      (IsPermutation-trans (xs ++ (ys ++ zs)) (xs ++ (zs ++ ys)) ((xs ++ zs) ++ ys) (IsPermutation-append_right xs (ys ++ zs) (zs ++ ys) (IsPermutation-append_comm ys zs))
      (same_order (xs ++ (zs ++ ys)) ((xs ++ zs) ++ ys) (sym (append_assoc xs zs ys))))

module _ {V A : Type 0} (f : V → List A) where
  -- one of them has more
  pub grown : (views : List V) (port : ℕ) (v w : V) (more : List A) → get_elem? views port ≡ some v → f w ≡ f v ++ more → IsPermutation (flat_map f (set views port w)) (flat_map f views ++ more)
  grown [] port v w more at is = absurd (some-ne-none v (sym at))
  grown (x ∷ xs) zero v w more at is =
      subst (λ l. IsPermutation (l ++ flat_map f xs) ((f x ++ flat_map f xs) ++ more)) (ap (λ u. f u ++ more) (some-injective x v at) ∙ sym is) (swap_last (f x) more (flat_map f xs))
  grown (x ∷ xs) (suc port) v w more at is =
      IsPermutation-trans (f x ++ flat_map f (set xs port w)) (f x ++ (flat_map f xs ++ more)) ((f x ++ flat_map f xs) ++ more)
      (IsPermutation-append_right (f x) (flat_map f (set xs port w)) (flat_map f xs ++ more) (grown xs port v w more at is))
      (same_order (f x ++ (flat_map f xs ++ more)) ((f x ++ flat_map f xs) ++ more) (sym (append_assoc (f x) (flat_map f xs) more)))

  -- one of them has the same
  pub unmoved : (views : List V) (port : ℕ) (v w : V) → get_elem? views port ≡ some v → f w ≡ f v → flat_map f (set views port w) ≡ flat_map f views
  unmoved [] port v w at is = refl
  unmoved (x ∷ xs) zero v w at is = ap (λ l. l ++ flat_map f xs) (is ∙ ap f (sym (some-injective x v at)))
  unmoved (x ∷ xs) (suc port) v w at is = ap (λ l. f x ++ l) (unmoved xs port v w at is)

  -- one of them has nothing any more
  pub emptied : (views : List V) (port : ℕ) (u spent : V) → get_elem? views port ≡ some u → f spent ≡ [] → IsPermutation (f u ++ flat_map f (set views port spent)) (flat_map f views)
  emptied [] port u spent at none = absurd (some-ne-none u (sym at))
  emptied (x ∷ xs) zero u spent at none =
      same_order (f u ++ (f spent ++ flat_map f xs)) (f x ++ flat_map f xs) (ap (λ l. f u ++ (l ++ flat_map f xs)) none ∙ ap (λ y. f y ++ flat_map f xs) (sym (some-injective x u at)))
  emptied (x ∷ xs) (suc port) u spent at none =
      let rest = flat_map f (set xs port spent) in
      IsPermutation-trans (f u ++ (f x ++ rest)) (f x ++ (f u ++ rest)) (f x ++ flat_map f xs)
      (IsPermutation-trans (f u ++ (f x ++ rest)) ((f u ++ f x) ++ rest) (f x ++ (f u ++ rest)) (same_order (f u ++ (f x ++ rest)) ((f u ++ f x) ++ rest) (sym (append_assoc (f u) (f x) rest)))
      (IsPermutation-trans ((f u ++ f x) ++ rest) ((f x ++ f u) ++ rest) (f x ++ (f u ++ rest)) (IsPermutation-append_left rest (f u ++ f x) (f x ++ f u) (IsPermutation-append_comm (f u) (f x)))
      (same_order ((f x ++ f u) ++ rest) (f x ++ (f u ++ rest)) (append_assoc (f x) (f u) rest))))
      (IsPermutation-append_right (f x) (f u ++ rest) (flat_map f xs) (emptied xs port u spent at none))

  -- one of them has what another had, which has nothing any more
  pub moved : (views : List V) (port : ℕ) (v both : V) (other : ℕ) (u spent : V) → get_elem? views port ≡ some v → get_elem? views other ≡ some u → other ≢ port → f both ≡ f v ++ f u → f spent ≡ []
      → IsPermutation (flat_map f (set (set views port both) other spent)) (flat_map f views)
  moved [] port v both other u spent at there apart is none = absurd (some-ne-none v (sym at))
  moved (x ∷ xs) zero v both zero u spent at there apart is none = absurd (apart refl)
  moved (x ∷ xs) zero v both (suc other) u spent at there apart is none =
      let rest = flat_map f (set xs other spent) in
      IsPermutation-trans (f both ++ rest) (f x ++ (f u ++ rest)) (f x ++ flat_map f xs)
      (same_order (f both ++ rest) (f x ++ (f u ++ rest)) (ap (λ l. l ++ rest) is ∙ append_assoc (f v) (f u) rest ∙ ap (λ y. f y ++ (f u ++ rest)) (sym (some-injective x v at))))
      (IsPermutation-append_right (f x) (f u ++ rest) (flat_map f xs) (emptied xs other u spent there none))
  moved (x ∷ xs) (suc port) v both zero u spent at there apart is none =
      IsPermutation-trans (f spent ++ flat_map f (set xs port both)) (flat_map f xs ++ f u) (f x ++ flat_map f xs)
      (subst (λ l. IsPermutation (l ++ flat_map f (set xs port both)) (flat_map f xs ++ f u)) (sym none) (grown xs port v both (f u) at is))
      (subst (λ y. IsPermutation (flat_map f xs ++ f y) (f x ++ flat_map f xs)) (some-injective x u there) (IsPermutation-append_comm (flat_map f xs) (f x)))
  moved (x ∷ xs) (suc port) v both (suc other) u spent at there apart is none =
      IsPermutation-append_right (f x) (flat_map f (set (set xs port both) other spent)) (flat_map f xs) (moved xs port v both other u spent at there (λ e. apart (ap suc e)) is none)

  -- all but one have nothing
  pub nothing : (views : List V) → ((i : ℕ) (u : V) → get_elem? views i ≡ some u → f u ≡ []) → flat_map f views ≡ []
  nothing [] none = refl
  nothing (x ∷ xs) none = ap (λ l. l ++ flat_map f xs) (none zero x refl) ∙ nothing xs (λ i u at. none (suc i) u at)

  pub alone : (views : List V) (port : ℕ) (v : V) → get_elem? views port ≡ some v → ((i : ℕ) (u : V) → i ≢ port → get_elem? views i ≡ some u → f u ≡ []) → flat_map f views ≡ f v
  alone [] port v at none = absurd (some-ne-none v (sym at))
  alone (x ∷ xs) zero v at none = ap (λ l. f x ++ l) (nothing xs (λ i u there. none (suc i) u (λ e. omega (arith, e)) there)) ∙ append-nil (f x) ∙ ap f (some-injective x v at)
  alone (x ∷ xs) (suc port) v at none = ap (λ l. l ++ flat_map f xs) (none zero x (λ e. omega (arith, e)) refl) ∙ alone xs port v at (λ i u apart there. none (suc i) u (λ e. apart (omega (arith, e))) there)

module _ {V : Type 0} (f : V → ℕ) where
  -- a sum after a change of one of them
  pub sum_set : (views : List V) (port : ℕ) (v w : V) → get_elem? views port ≡ some v → sum_by f (set views port w) + f v ≡ sum_by f views + f w
  sum_set [] port v w at = absurd (some-ne-none v (sym at))
  sum_set (x ∷ xs) zero v w at = omega (arith, sum_by-cons f w xs, sum_by-cons f x xs, ap f (some-injective x v at))
  sum_set (x ∷ xs) (suc port) v w at = omega (arith, sum_by-cons f x (set xs port w), sum_by-cons f x xs, sum_set xs port v w at)

  pub sum_snoc : (views : List V) (w : V) → sum_by f (views ++ w ∷ []) ≡ sum_by f views + f w
  sum_snoc [] w = omega (arith, sum_by-cons f w [])
  sum_snoc (x ∷ xs) w = omega (arith, sum_by-cons f x (xs ++ w ∷ []), sum_by-cons f x xs, sum_snoc xs w)

  -- a sum is at least one of them, and at least two of them
  pub sum_at : (views : List V) (port : ℕ) (v : V) → get_elem? views port ≡ some v → f v ≤ sum_by f views
  sum_at [] port v at = absurd (some-ne-none v (sym at))
  sum_at (x ∷ xs) zero v at = omega (arith, sum_by-cons f x xs, ap f (some-injective x v at))
  sum_at (x ∷ xs) (suc port) v at = omega (arith, sum_by-cons f x xs, sum_at xs port v at)

  pub sum_two : (views : List V) (port : ℕ) (v : V) (other : ℕ) (u : V) → get_elem? views port ≡ some v → get_elem? views other ≡ some u → other ≢ port → f v + f u ≤ sum_by f views
  sum_two [] port v other u at there apart = absurd (some-ne-none v (sym at))
  sum_two (x ∷ xs) zero v zero u at there apart = absurd (apart refl)
  sum_two (x ∷ xs) zero v (suc other) u at there apart = omega (arith, sum_by-cons f x xs, ap f (some-injective x v at), sum_at xs other u there)
  sum_two (x ∷ xs) (suc port) v zero u at there apart = omega (arith, sum_by-cons f x xs, ap f (some-injective x u there), sum_at xs port v at)
  sum_two (x ∷ xs) (suc port) v (suc other) u at there apart = omega (arith, sum_by-cons f x xs, sum_two xs port v other u at there (λ e. apart (ap suc e)))

  -- where one has all, and where all others have nothing
  pub sum_alone : (views : List V) (port : ℕ) (v : V) → get_elem? views port ≡ some v → ((i : ℕ) (u : V) → i ≢ port → get_elem? views i ≡ some u → f u ≡ 0) → sum_by f views ≡ f v
  sum_alone [] port v at none = absurd (some-ne-none v (sym at))
  sum_alone (x ∷ xs) zero v at none = omega (arith, sum_by-cons f x xs, ap f (some-injective x v at), sum_none xs (λ i u there. none (suc i) u (λ e. omega (arith, e)) there))
    where
      sum_none : (ys : List V) → ((i : ℕ) (u : V) → get_elem? ys i ≡ some u → f u ≡ 0) → sum_by f ys ≡ 0
      sum_none [] empty = refl
      sum_none (y ∷ ys) empty = omega (arith, sum_by-cons f y ys, empty zero y refl, sum_none ys (λ i u there. empty (suc i) u there))
  sum_alone (x ∷ xs) (suc port) v at none = omega (arith, sum_by-cons f x xs, none zero x (λ e. omega (arith, e)) refl, sum_alone xs port v at (λ i u apart there. none (suc i) u (λ e. apart (omega (arith, e))) there))
