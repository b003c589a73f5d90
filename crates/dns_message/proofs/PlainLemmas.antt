-- Names that are held without pointers: the first label, and what is behind it.
use Rattle.std.proofs.Common.{◌≡◌, ◌≢◌, ℕ, zero, suc, ◌+◌, ◌-◌, ◌<◌, ◌≤◌, true, false, cond, ltb, eqb, List, [], ◌∷◌, length, get_or, drop, Option, Some, None, inl, inr, refl, ap, add-one, arith, drop-cons}
use Rattle.std.specs.Prelude.{◌⊎◌}
use Rattle.std.proofs.lemmas.Bool.{ne_eqb}
use Rattle.std.proofs.lemmas.Bool.Decides.{nat_tests}
use Rattle.std.proofs.lemmas.List.{drop-drop, length-drop}
use Rattle.dns_message.specs.Validity.{behind_within, behind_room, behind_names}

-- any number of parts will do that is enough
behind_enough : (n m room : ℕ) (bytes : List ℕ) → length bytes ≤ n → length bytes ≤ m → behind_within n room bytes ≡ behind_within m room bytes
behind_enough n m room [] a b = refl
behind_enough zero m room (len ∷ bytes) a b = absurd (omega arith)
behind_enough (suc n) zero room (len ∷ bytes) a b = absurd (omega arith)
behind_enough (suc n) (suc m) room (len ∷ bytes) a b =
    ap (λ (rest : Option (List ℕ)). cond (eqb room 0) None (cond (eqb len 0) (Some bytes) (cond (ltb 63 len) None rest)))
    (behind_enough n m (room - (len + 1)) (drop len bytes) (omega (arith, length-drop len bytes)) (omega (arith, length-drop len bytes)))

pub behind_cons : (room len : ℕ) (bytes : List ℕ) → behind_room room (len ∷ bytes) ≡ cond (eqb room 0) None (cond (eqb len 0) (Some bytes) (cond (ltb 63 len) None (behind_room (room - (len + 1)) (drop len bytes))))
unfolding behind_room
behind_cons room len bytes =
    ap (λ (rest : Option (List ℕ)). cond (eqb room 0) None (cond (eqb len 0) (Some bytes) (cond (ltb 63 len) None rest)))
    (behind_enough (length bytes) (length (drop len bytes)) (room - (len + 1)) (drop len bytes) (omega (arith, length-drop len bytes)) (omega arith))

pub behind_none : (room : ℕ) → behind_room room [] ≡ None
unfolding behind_room
behind_none room = refl

-- at the end of the bytes, or where there is no room, no name ends
pub behind_end : (room : ℕ) (bytes : List ℕ) → (length bytes ≡ 0) ⊎ (room ≡ 0) → behind_room room bytes ≡ None
behind_end room [] e = behind_none room
behind_end room (len ∷ bytes) (inl e) = absurd cc
behind_end room (len ∷ bytes) (inr e) = rw (behind_cons, e) refl

module _ (bytes : List ℕ) (at room : ℕ) (lt : at < length bytes) (some : room ≢ 0) where
  here : drop at bytes ≡ get_or bytes at 0 ∷ drop (at + 1) bytes
  here = rw (add-one, drop-cons bytes at 0) refl

  has_room : eqb room 0 ≡ false
  has_room = ne_eqb room 0 some

  -- the root's byte ends the name
  pub behind_root : get_or bytes at 0 ≡ 0 → behind_room room (drop at bytes) ≡ Some (drop (at + 1) bytes)
  behind_root e = rw (here, behind_cons, has_room, e) refl

  -- what is no label's length ends no name
  pub behind_bad : 63 < get_or bytes at 0 → behind_room room (drop at bytes) ≡ None
  behind_bad long =
      let ne : eqb (get_or bytes at 0) 0 ≡ false = ne_eqb (get_or bytes at 0) 0 (omega arith) in
      let lt : ltb 63 (get_or bytes at 0) ≡ true = grind (arith, nat_tests) in
      rw (here, behind_cons, has_room, ne, lt) refl

  -- behind a label the name goes on
  pub behind_more : get_or bytes at 0 ≢ 0 → get_or bytes at 0 ≤ 63 → behind_room room (drop at bytes) ≡ behind_room (room - (get_or bytes at 0 + 1)) (drop (at + (get_or bytes at 0 + 1)) bytes)
  behind_more ne few =
      let ne : eqb (get_or bytes at 0) 0 ≡ false = ne_eqb (get_or bytes at 0) 0 ne in
      let lt : ltb 63 (get_or bytes at 0) ≡ false = grind (arith, nat_tests) in
      let next : at + 1 + get_or bytes at 0 ≡ at + (get_or bytes at 0 + 1) = omega arith in
      rw (here, behind_cons, has_room, ne, lt, drop-drop, next) refl

-- one name more, or none
pub names_more : (n left : ℕ) (bytes rest : List ℕ) → n ≡ left + 1 → behind_room 255 bytes ≡ Some rest → behind_names n bytes ≡ behind_names left rest
names_more zero left bytes rest one e = absurd (omega arith)
names_more (suc n) left bytes rest one e = let same : left ≡ n = omega arith in rw (same, e) refl
