-- The orders of keys and of deadlines are total, and only equal keys tie.
use Rattle.std.proofs.Common.{◌≡◌, true, ◌&&◌, eqb, arith, ap, refl, sym, ◌∙◌}
use Rattle.std.specs.Ordering.{nat_cmp, ordering_then, is_eq, eq_by_cmp}
use Rattle.std.specs.declared.cmp.Ordering.{Ordering}
use Rattle.std.specs.declared.cmp.Ordering.TheVariants.{Less, Equal, Greater}
use Rattle.std.specs.Cmp.{IsTotalOrder, Equal-is}
use Rattle.std.specs.FinMap.{IsAntisymmetric}
use Rattle.std.proofs.lemmas.Bool.{and_parts, eqb-true}
use Rattle.std.proofs.lemmas.Bool.Decides.{nat_tests}
use Rattle.std.proofs.lemmas.Cmp.{nat_cmp_total, on_total, then_total}
use Rattle.timeout_queue.specs.declared.key.Key.{Key}
use Rattle.timeout_queue.specs.declared.key.Deadline.{Deadline}
use Rattle.timeout_queue.specs.Key.{key_cmp, key_eq, deadline_cmp}

pub key_cmp_total : IsTotalOrder key_cmp
key_cmp_total = then_total (on_total (λ k. k.number) nat_cmp_total) (on_total (λ k. k.leg) nat_cmp_total)

pub deadline_cmp_total : IsTotalOrder deadline_cmp
deadline_cmp_total = then_total (on_total (λ d. d.due) nat_cmp_total) (on_total (λ d. d.key) key_cmp_total)

-- two comparisons, one after the other, tie where both do
is_eq-ordering_then : (r s : Ordering) → is_eq (ordering_then r s) ≡ (is_eq r && is_eq s)
is_eq-ordering_then Less s = refl
is_eq-ordering_then Equal s = refl
is_eq-ordering_then Greater s = refl

-- keys tie where their numbers and their legs are equal
pub eq_by_key_cmp : (x y : Key) → eq_by_cmp key_cmp x y ≡ key_eq x y
eq_by_key_cmp x y = grind (arith, nat_tests, is_eq-ordering_then (nat_cmp x.number y.number) (nat_cmp x.leg y.leg))

-- deadlines tie where their moments are equal and their keys tie
pub eq_by_deadline_cmp : (x y : Deadline) → eq_by_cmp deadline_cmp x y ≡ (eqb x.due y.due && eq_by_cmp key_cmp x.key y.key)
eq_by_deadline_cmp x y = grind (arith, nat_tests, is_eq-ordering_then (nat_cmp x.due y.due) (key_cmp x.key y.key))

pub key_cmp-IsAntisymmetric : IsAntisymmetric key_cmp
key_cmp-IsAntisymmetric x y tie =
    let both = and_parts _ _ (sym (eq_by_key_cmp x y) ∙ ap is_eq tie) in
    λ i. record { number = eqb-true x.number y.number both.0 i; leg = eqb-true x.leg y.leg both.1 i }

-- and so do deadlines
pub deadline_cmp-IsAntisymmetric : IsAntisymmetric deadline_cmp
deadline_cmp-IsAntisymmetric x y tie =
    let both = and_parts _ _ (sym (eq_by_deadline_cmp x y) ∙ ap is_eq tie) in
    λ i. record { due = eqb-true x.due y.due both.0 i; key = key_cmp-IsAntisymmetric x.key y.key ((Equal-is (key_cmp x.key y.key)).0 both.1) i }

pub key_eq-refl : (x : Key) → key_eq x x ≡ true
key_eq-refl x = grind (arith, nat_tests)

pub same_key : (x y : Key) → key_eq x y ≡ true → x ≡ y
same_key x y is = let both = and_parts _ _ is in λ i. record { number = eqb-true x.number y.number both.0 i; leg = eqb-true x.leg y.leg both.1 i }
