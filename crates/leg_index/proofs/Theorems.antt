-- What crates above may cite: what a change of a finite map makes of the list of its entries, counted by any test.
use Rattle.std.proofs.Common.{◌≡◌, ℕ, ◌+◌, Bool, true, false, cond, Some, None, List, [], ◌∷◌, length, filter, arith, ap, refl, sym, ◌∙◌, is_some}
use Rattle.std.specs.FinMap as map
use Rattle.std.specs.FinMap.{IsAntisymmetric}
use Rattle.std.specs.FinMap.Entries.{by_order}
use Rattle.std.specs.Ordering.{eq_by_cmp, is_eq}
use Rattle.std.specs.Cmp.{IsTotalOrder, Equal-is}
use Rattle.std.specs.declared.cmp.Ordering.{Ordering}
use Rattle.std.specs.declared.cmp.Ordering.TheVariants.{Less, Equal, Greater}
use Rattle.std.proofs.lemmas.Bool.{false≢true}
use Rattle.std.proofs.lemmas.Cmp.{eq_by_cmp_equiv}

-- how many items of a list pass a test
abbrev pub passing : {A : Type 0} → (A → Bool) → List A → ℕ
passing test xs = length (filter test xs)

passing-cons : {A : Type 0} (test : A → Bool) (x : A) (xs : List A) → passing test (x ∷ xs) ≡ cond (test x) 1 0 + passing test xs
passing-cons test x xs = by_test (test x)
  where
    by_test : (b : Bool) → length (cond b (x ∷ filter test xs) (filter test xs)) ≡ cond b 1 0 + passing test xs
    by_test true = omega arith
    by_test false = omega arith

module _ {K X : Type 0} (R : K → K → Ordering) (test : K × X → Bool) where
  passing-put : (k : K) (v : X) (es : List (K × X)) → map.find R k es ≡ None → passing test (map.put R k v es) ≡ cond (test (k, v)) 1 0 + passing test es
  passing-put k v [] none = passing-cons test (k, v) []
  passing-put k v (e ∷ es) none =
      elim (R k e.0) as (λ r. R k e.0 ≡ r → passing test (by_order r ((k, v) ∷ e ∷ es) ((e.0, v) ∷ es) (e ∷ map.put R k v es)) ≡ cond (test (k, v)) 1 0 + passing test (e ∷ es)) [
        | Less ↦ λ p. passing-cons test (k, v) (e ∷ es)
        | Equal ↦ λ p. absurd (false≢true (sym (ap is_some none) ∙ ap (λ r. is_some (cond (is_eq r) (Some e.1) (map.find R k es))) p))
        | Greater ↦ λ p.
            let rest = passing-put k v es (sym (ap (λ r. cond (is_eq r) (Some e.1) (map.find R k es)) p) ∙ none) in
            let here = passing-cons test e es in
            passing-cons test e (map.put R k v es) ∙ omega (arith, rest, here)
      ] refl

module _ {K X : Type 0} {R : K → K → Ordering} (test : K × X → Bool) (o : IsTotalOrder R) where
  -- with a new key there is its entry besides
  pub passing-insert : (m : map.FinMap R X) (k : K) (v : X) → map.get m k ≡ None → passing test (map.entries (map.insert m k v)) ≡ cond (test (k, v)) 1 0 + passing test (map.entries m)
  passing-insert m k v none = ap (passing test) (map.entries-insert o m k v) ∙ passing-put R test k v (map.entries m) (sym (map.get-entries m k) ∙ none)

  -- without a key its entry is gone
  pub passing-remove : IsAntisymmetric R → (m : map.FinMap R X) (k : K) (v : X) → map.get m k ≡ Some v → passing test (map.entries m) ≡ cond (test (k, v)) 1 0 + passing test (map.entries (map.remove m k))
  passing-remove same m k v found = ap (λ n. passing test (map.entries n)) again ∙ passing-insert (map.remove m k) k v gone
    where
      gone : map.get (map.remove m k) k ≡ None
      gone = map.get-remove o m k k ∙ ap (λ b. cond b None (map.get m k)) ((eq_by_cmp_equiv o).refl k)

      has : (q : K) (b : Bool) → eq_by_cmp R q k ≡ b → map.get m q ≡ cond b (Some v) (cond b None (map.get m q))
      has q true is = ap (map.get m) (same q k ((Equal-is (R q k)).0 is)) ∙ found
      has q false is = refl

      again : m ≡ map.insert (map.remove m k) k v
      again = map.same_map o same m (map.insert (map.remove m k) k v) (λ q.
          has q (eq_by_cmp R q k) refl
          ∙ sym (map.get-insert o (map.remove m k) k v q ∙ ap (cond (eq_by_cmp R q k) (Some v)) (map.get-remove o m k q)))
