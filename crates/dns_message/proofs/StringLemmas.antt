-- The strings of bytes: the first one, and those behind it.
use Rattle.std.proofs.Common.{◌≡◌, ℕ, zero, suc, ◌+◌, ◌-◌, ◌<◌, ◌≤◌, true, false, cond, ltb, List, [], ◌∷◌, length, get_or, drop, Option, Some, None, refl, ap, add-one, arith, drop-cons}
use Rattle.std.specs.Prelude.{option_map}
use Rattle.std.proofs.lemmas.Bool.Decides.{nat_tests}
use Rattle.std.proofs.lemmas.List.{drop-drop, drop_all, length-drop}
use Rattle.dns_message.specs.Shapes.{strings_within, strings_of}

-- any number of bytes will do that is enough
strings_enough : (n m : ℕ) (bytes : List ℕ) → length bytes ≤ n → length bytes ≤ m → strings_within n bytes ≡ strings_within m bytes
strings_enough zero zero bytes a b = refl
strings_enough zero (suc m) [] a b = refl
strings_enough (suc n) zero [] a b = refl
strings_enough (suc n) (suc m) [] a b = refl
strings_enough zero (suc m) (len ∷ bytes) a b = absurd (omega arith)
strings_enough (suc n) zero (len ∷ bytes) a b = absurd (omega arith)
strings_enough (suc n) (suc m) (len ∷ bytes) a b =
    ap (λ (count : Option ℕ). cond (ltb (length bytes) len) None (option_map (λ count. count + 1) count))
    (strings_enough n m (drop len bytes) (omega (arith, length-drop len bytes)) (omega (arith, length-drop len bytes)))

pub strings_cons : (len : ℕ) (bytes : List ℕ) → strings_of (len ∷ bytes) ≡ cond (ltb (length bytes) len) None (option_map (λ count. count + 1) (strings_of (drop len bytes)))
unfolding strings_of
strings_cons len bytes =
    ap (λ (count : Option ℕ). cond (ltb (length bytes) len) None (option_map (λ count. count + 1) count))
    (strings_enough (length bytes) (length (drop len bytes)) (drop len bytes) (omega (arith, length-drop len bytes)) (omega arith))

-- so many strings before those that are left
abbrev pub counted : ℕ → Option ℕ → Option ℕ
counted before count = option_map (λ more. before + more) count

counted_one : (before : ℕ) (count : Option ℕ) → counted before (option_map (λ count. count + 1) count) ≡ counted (before + 1) count
counted_one before None = refl
counted_one before (Some n) = ap (λ (k : ℕ). Some k) (omega arith)

pub counted_none : (count : Option ℕ) → counted 0 count ≡ count
counted_none None = refl
counted_none (Some n) = ap (λ (k : ℕ). Some k) (omega arith)

module _ (bytes : List ℕ) (at before : ℕ) (lt : at < length bytes) where
  here : drop at bytes ≡ get_or bytes at 0 ∷ drop (at + 1) bytes
  here = rw (add-one, drop-cons bytes at 0) refl

  pub strings_cut : length bytes - at - 1 < get_or bytes at 0 → counted before (strings_of (drop at bytes)) ≡ None
  strings_cut short =
      let cut : ltb (length (drop (at + 1) bytes)) (get_or bytes at 0) ≡ true = rw length-drop (grind (arith, nat_tests)) in
      rw (here, strings_cons, cut) refl

  pub strings_more : get_or bytes at 0 ≤ length bytes - at - 1 → counted before (strings_of (drop at bytes)) ≡ counted (before + 1) (strings_of (drop (at + (get_or bytes at 0 + 1)) bytes))
  strings_more fits =
      let cut : ltb (length (drop (at + 1) bytes)) (get_or bytes at 0) ≡ false = rw length-drop (grind (arith, nat_tests)) in
      let next : at + 1 + get_or bytes at 0 ≡ at + (get_or bytes at 0 + 1) = omega arith in
      rw (here, strings_cons, cut, drop-drop, next) (counted_one before _)

pub strings_end : (bytes : List ℕ) (at before : ℕ) → length bytes ≤ at → counted before (strings_of (drop at bytes)) ≡ Some before
unfolding strings_of
strings_end bytes at before past = rw (drop_all at bytes past) (ap (λ (k : ℕ). Some k) (omega arith))
