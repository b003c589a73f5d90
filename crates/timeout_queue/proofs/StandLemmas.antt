-- Where no more deadlines stand in the rows and the tree than there are keys, all of them are live.
use Rattle.std.proofs.Common.{◌≡◌, ℕ, ◌+◌, ◌≤◌, ◌⊎◌, inl, inr, ⊎_elim, Bool, true, false, cond, Some, None, List, [], ◌∷◌, ◌++◌, length, arith, ap, is_some, refl, sym, ◌∙◌, ◌||◌}
use Rattle.std.specs.BTreeSet.{contains}
use Rattle.std.specs.HashMap.{HashMap, IsUnique, hash_map_len}
use Rattle.std.specs.List.{AllByRecursion, IsDistinct, list_any}
use Rattle.std.specs.Map.{keys_of, lookup}
use Rattle.std.specs.Ordering.{eq_by_cmp}
use Rattle.std.specs.Cmp.{Equal-is}
use Rattle.std.proofs.lemmas.Bool.{false≢true}
use Rattle.std.proofs.lemmas.List.{length-append}
use Rattle.timeout_queue.specs.declared.key.Key.{Key}
use Rattle.timeout_queue.specs.declared.key.Deadline.{Deadline}
use Rattle.timeout_queue.specs.declared.rows.Rows.{Rows}
use Rattle.timeout_queue.specs.Key.{key_eq, deadline_cmp}
use Rattle.timeout_queue.specs.Rows.{AreLed, HoldsAll, IsIn, IsLed, is_live}
use Rattle.timeout_queue.proofs.KeyLemmas.{deadline_cmp-IsAntisymmetric, key_eq-refl, same_key}
use Rattle.timeout_queue.proofs.MomentLemmas.{at, is_moment}

-- a list without one deadline that stands in it
record Without (d : Deadline) (row : List Deadline) : Type 0 where
  others : List Deadline
  len : length row ≡ length others + 1
  kept : (q : Deadline) → (d ≡ q → ⊥) → IsIn q row → IsIn q others

without : (d : Deadline) (row : List Deadline) → IsIn d row → Without d row
without d [] at = absurd at
without d (x ∷ xs) at =
    ⊎_elim (λ (e : x ≡ d). record {
      others = xs;
      len = omega arith;
      kept = λ q else i. ⊎_elim (λ (f : x ≡ q). absurd (else (sym e ∙ f))) (λ (j : IsIn q xs). j) i;
    }) (λ (i : IsIn d xs).
    let w = without d xs i in
    record {
      others = x ∷ w.others;
      len = omega (arith, w.len);
      kept = λ q else i. ⊎_elim (λ (f : x ≡ q). inl f) (λ (j : IsIn q xs). inr (w.kept q else j)) i;
    }) at

-- a key that differs from all has no moment
absent : (key : Key) (es : List (Key × ℕ)) → AllByRecursion (λ k. key_eq key k ≡ false) (keys_of es) → lookup (key_eq key) es ≡ None
absent key [] ahead = refl
absent key (e ∷ es) ahead = ap (λ b. cond b (Some e.1) (lookup (key_eq key) es)) ahead.0 ∙ absent key es ahead.1

-- a list that has the deadline of each key has no fewer than there are keys
fit : (es : List (Key × ℕ)) → IsDistinct key_eq (keys_of es) → (row : List Deadline)
    → ((key : Key) (due : ℕ) → lookup (key_eq key) es ≡ Some due → IsIn (at key due) row) → length es ≤ length row
unfolding IsDistinct
fit [] distinct row all = omega arith
fit (e ∷ es) distinct row all =
    let here = all e.0 e.1 (ap (λ b. cond b (Some e.1) (lookup (key_eq e.0) es)) (key_eq-refl e.0)) in
    let w = without (at e.0 e.1) row here in
    let rest = fit es distinct.1 w.others (λ key due found. kept w key due found (key_eq key e.0) refl) in
    omega (arith, w.len, rest)
  where
    kept : (w : Without (at e.0 e.1) row) (key : Key) (due : ℕ) → lookup (key_eq key) es ≡ Some due → (b : Bool) → key_eq key e.0 ≡ b → IsIn (at key due) w.others
    kept w key due found true same = absurd (false≢true (sym (ap is_some (sym found ∙ ap (λ k. lookup (key_eq k) es) (same_key key e.0 same) ∙ absent e.0 es distinct.0))))
    kept w key due found false else = w.kept (at key due) (λ is. false≢true (sym else ∙ ap (λ d. key_eq d.key e.0) (sym is) ∙ key_eq-refl e.0))
        (all key due (ap (λ b. cond b (Some e.1) (lookup (key_eq key) es)) else ∙ found))

in_left : (xs ys : List Deadline) (d : Deadline) → IsIn d xs → IsIn d (xs ++ ys)
in_left [] ys d at = absurd at
in_left (x ∷ xs) ys d at = ⊎_elim (λ (e : x ≡ d). inl e) (λ (i : IsIn d xs). inr (in_left xs ys d i)) at

in_right : (xs ys : List Deadline) (d : Deadline) → IsIn d ys → IsIn d (xs ++ ys)
in_right [] ys d at = at
in_right (x ∷ xs) ys d at = inr (in_right xs ys d at)

-- what a tree has stands among its keys
in_tree : (keys : List Deadline) (d : Deadline) → list_any (λ k. eq_by_cmp deadline_cmp d k) keys ≡ true → IsIn d keys
in_tree [] d is = absurd (false≢true is)
in_tree (k ∷ ks) d is = by_test (eq_by_cmp deadline_cmp d k) refl is (in_tree ks d)
  where
    by_test : (b : Bool) → eq_by_cmp deadline_cmp d k ≡ b → (b || list_any (λ k. eq_by_cmp deadline_cmp d k) ks) ≡ true
        → (list_any (λ k. eq_by_cmp deadline_cmp d k) ks ≡ true → IsIn d ks) → (k ≡ d) ⊎ IsIn d ks
    by_test true tie _ _ = inl (sym (deadline_cmp-IsAntisymmetric d k ((Equal-is (deadline_cmp d k)).0 tie)))
    by_test false tie there rest = inr (rest there)

module _ {S : Type 0} (moments : HashMap Key ℕ S) (unique : IsUnique key_eq moments) where
  -- a list that has all live deadlines, and no more than there are keys, has no others
  all_live : (row : List Deadline) → ((d : Deadline) → is_live moments d ≡ true → IsIn d row) → length row ≡ hash_map_len moments
      → (d : Deadline) → IsIn d row → is_live moments d ≡ true
  all_live row all len d there = by_test (is_live moments d) refl
    where
      by_test : (b : Bool) → is_live moments d ≡ b → is_live moments d ≡ true
      by_test true is = is
      by_test false is =
          let w = without d row there in
          let few = fit moments.entries unique w.others (λ key due found.
          let live = is_moment _ due found in
          w.kept (at key due) (λ same. false≢true (sym is ∙ ap (is_live moments) same ∙ live)) (all (at key due) live)) in
          absurd (omega (arith, len, w.len, few))

  led_all : (row : List Deadline) → ((d : Deadline) → IsIn d row → is_live moments d ≡ true) → IsLed (λ d. is_live moments d ≡ true) row
  led_all [] all = tt
  led_all (x ∷ xs) all = all x (inl refl)

  -- rows with as many deadlines as there are keys, and the tree with them, are led by live ones
  pub led_by_count : (rows : Rows) → length rows.row.items + length rows.other.items + length rows.rest.keys ≡ hash_map_len moments → HoldsAll (is_live moments) rows → AreLed (is_live moments) rows
  led_by_count rows len holds =
      (led_all row (λ d i. live d (in_left row (other ++ rest) d i)), led_all other (λ d i. live d (in_right row (other ++ rest) d (in_left other rest d i))))
    where
      row : List Deadline
      row = rows.row.items

      other : List Deadline
      other = rows.other.items

      rest : List Deadline
      rest = rows.rest.keys

      live : (d : Deadline) → IsIn d (row ++ (other ++ rest)) → is_live moments d ≡ true
      live = all_live (row ++ (other ++ rest)) (λ d l.
          ⊎_elim (λ (i : IsIn d row). in_left row (other ++ rest) d i)
          (λ (i : IsIn d other ⊎ (contains deadline_cmp rows.rest d ≡ true)). in_right row (other ++ rest) d
          (⊎_elim (λ (j : IsIn d other). in_left other rest d j) (λ (j : contains deadline_cmp rows.rest d ≡ true). in_right other rest d (in_tree rest d j)) i))
          (holds d l)) (length-append row (other ++ rest) ∙ ap (λ n. length row + n) (length-append other rest) ∙ omega (arith, len))
