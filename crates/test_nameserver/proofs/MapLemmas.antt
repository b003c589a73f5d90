-- A map whose keys are bytes, looked up by bytes, after a change at one key.
use Rattle.std.proofs.Common.{◌≡◌, ℕ, List, Bool, true, false, cond, Option, ⊎_elim, sym, subst, ◌∙◌}
use Rattle.std.specs.Global.{Vec}
use Rattle.std.specs.Str.{bytes_eq}
use Rattle.std.specs.Ordering.{is_eq, nat_cmp}
use Rattle.std.specs.Cmp.Lexicographic.{slice_cmp, bytes_decides, nat_list_cmp_total, nat_list_eq_equiv}
use Rattle.std.specs.Map.{lookup, IsKeyTest, AreApart, KeepsOthers}
use Rattle.std.specs.BTreeMap.{BTreeMap, UpdatesBy, get_by}
use Rattle.std.proofs.lemmas.Bool.{cases_Bool, cond-true, cond-false}
use Rattle.std.proofs.lemmas.Cmp.{eq_by_cmp_equiv}
use Rattle.std.proofs.lemmas.Map.Text.{is_eq-slice_cmp}

-- what the map has at these bytes
abbrev pub found_at : {X : Type 0} → BTreeMap (Vec ℕ) X → List ℕ → Option X
found_at m bytes = get_by (λ key. slice_cmp nat_cmp bytes key.items) m

apart : (bytes other key : List ℕ) → bytes_eq bytes other ≡ false → is_eq (slice_cmp nat_cmp bytes key) ≡ true → is_eq (slice_cmp nat_cmp other key) ≡ false
apart bytes other key differ here =
    is_eq-slice_cmp other key ∙ nat_list_eq_equiv.symm other key
    ∙ sym (nat_list_eq_equiv.congr bytes key other (sym (is_eq-slice_cmp bytes key) ∙ here)) ∙ differ

module _ {K X : Type 0} (eq : K → K → Bool) (test : K → Bool) where
  kept : (old new : List (K × X)) → KeepsOthers eq test old new → (other : K → Bool) → IsKeyTest eq other → AreApart test other → lookup other new ≡ lookup other old
  unfolding KeepsOthers
  kept old new keeps = keeps

-- at the bytes it has what was put there, and at others what it had
pub found_after : {X : Type 0} (bytes : List ℕ) (old new : BTreeMap (Vec ℕ) X) (put : Option X)
    → UpdatesBy (λ x y. slice_cmp nat_cmp x.items y.items) (λ key. slice_cmp nat_cmp bytes key.items) old new put
    → (other : List ℕ) → found_at new other ≡ cond (bytes_eq bytes other) put (found_at old other)
found_after bytes old new put updates other =
    ⊎_elim
    (λ same. subst (λ (at : List ℕ). found_at new at ≡ put) ((bytes_decides bytes other).0 same) updates.1 ∙ sym (cond-true (bytes_eq bytes other) put (found_at old other) same))
    (λ differ.
    kept _ _ _ _ updates.3 _ (λ x y. (eq_by_cmp_equiv nat_list_cmp_total).congr other x.items y.items) (λ key. apart bytes other key.items differ)
    ∙ sym (cond-false (bytes_eq bytes other) put (found_at old other) differ))
    (cases_Bool (bytes_eq bytes other))
