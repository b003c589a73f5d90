-- Bytes that begin with a part.
use Rattle.std.proofs.Common.{◌≡◌, ℕ, ◌-◌, ◌<◌, ◌≤◌, ◌&&◌, ◌==◌, leb, min, Bool, true, false, IsTrue, ◌↔◌, List, [], ◌∷◌, ◌++◌, length, map, take, drop, refl, sym, ap, ◌∙◌, arith}
use Rattle.std.proofs.lemmas.Bool.{and_from, and_parts, eqb-true, eq-eqb}
use Rattle.std.proofs.lemmas.Bool.Decides.{nat_tests}
use Rattle.std.proofs.lemmas.List.{drop_all, take_all, length-drop, length-map}
use Rattle.std.specs.Bool.{Decides}
use Rattle.std.specs.Char.{to_ascii_lowercase}
use Rattle.dns_message.proofs.Theorems.{one_test}
use Rattle.message_walk.specs.Matching.{SameBytes, is_front, same_byte}

and_assoc : (a b c : Bool) → (a && (b && c)) ≡ ((a && b) && c)
and_assoc true b c = refl
and_assoc false b c = refl

-- a part in two
pub front_append : (exact : Bool) (part more bytes : List ℕ) → is_front exact (part ++ more) bytes ≡ (is_front exact part bytes && is_front exact more (drop (length part) bytes))
front_append exact [] more bytes = refl
front_append exact (a ∷ part) more [] = refl
front_append exact (a ∷ part) more (b ∷ bytes) =
    ap (λ (rest : Bool). same_byte exact a b && rest) (front_append exact part more bytes) ∙ and_assoc (same_byte exact a b) (is_front exact part bytes) _

-- a part has no more bytes than there are
pub front_fits : (exact : Bool) (part bytes : List ℕ) → is_front exact part bytes ≡ true → length part ≤ length bytes
front_fits exact [] bytes h = omega arith
front_fits exact (a ∷ part) [] h = absurd cc
front_fits exact (a ∷ part) (b ∷ bytes) h = omega (arith, front_fits exact part bytes (and_parts _ _ h).1)

-- the first bytes are the part's
front_same : (exact : Bool) (part bytes : List ℕ) → is_front exact part bytes ≡ true → SameBytes exact (take (length part) bytes) part
front_same true [] bytes h = refl
front_same false [] bytes h = refl
front_same exact (a ∷ part) [] h = absurd cc
front_same true (a ∷ part) (b ∷ bytes) h =
    let both = and_parts (a == b) (is_front true part bytes) h in
    let first : a ≡ b = eqb-true a b both.0 in
    let rest : take (length part) bytes ≡ part = front_same true part bytes both.1 in
    cc
front_same false (a ∷ part) (b ∷ bytes) h =
    let both = and_parts (to_ascii_lowercase a == to_ascii_lowercase b) (is_front false part bytes) h in
    let first : to_ascii_lowercase a ≡ to_ascii_lowercase b = eqb-true _ _ both.0 in
    let rest : map to_ascii_lowercase (take (length part) bytes) ≡ map to_ascii_lowercase part = front_same false part bytes both.1 in
    cc

-- where the first bytes are the part's, the part is the front
same_front : (exact : Bool) (part bytes : List ℕ) → length part ≤ length bytes → SameBytes exact (take (length part) bytes) part → is_front exact part bytes ≡ true
same_front exact [] bytes fits h = refl
same_front exact (a ∷ part) [] fits h = absurd (omega arith)
same_front true (a ∷ part) (b ∷ bytes) fits h =
    let first : a ≡ b = cc in
    let rest : take (length part) bytes ≡ part = cc in
    and_from _ _ (eq-eqb a b first) (same_front true part bytes (omega arith) rest)
same_front false (a ∷ part) (b ∷ bytes) fits h =
    let first : to_ascii_lowercase a ≡ to_ascii_lowercase b = cc in
    let rest : map to_ascii_lowercase (take (length part) bytes) ≡ map to_ascii_lowercase part = cc in
    and_from _ _ (eq-eqb _ _ first) (same_front false part bytes (omega arith) rest)

-- what says that the first bytes are the part's is the test of the front
pub front_is : (exact : Bool) (part bytes : List ℕ) (r : Bool) → length part ≤ length bytes → (IsTrue r ↔ SameBytes exact (take (length part) bytes) part) → r ≡ is_front exact part bytes
front_is exact part bytes r fits says = one_test r _ says (front_same exact part bytes, same_front exact part bytes fits)

-- fewer bytes don't begin with the part
pub front_short : (exact : Bool) (part bytes : List ℕ) → length bytes < length part → is_front exact part bytes ≡ false
front_short exact part bytes short = by_test (is_front exact part bytes) refl where
  by_test : (b : Bool) → is_front exact part bytes ≡ b → b ≡ false
  by_test true e = absurd (omega (arith, front_fits exact part bytes e))
  by_test false e = refl

-- a front as long as the bytes is all of them
pub whole_says : (exact : Bool) (part bytes : List ℕ) → Decides (is_front exact part bytes && (length part == length bytes)) (SameBytes exact bytes part)
whole_says exact part bytes = (is_whole, is_front_then) where
  is_whole : (is_front exact part bytes && (length part == length bytes)) ≡ true → SameBytes exact bytes part
  is_whole h =
      let both = and_parts (is_front exact part bytes) (length part == length bytes) h in
      let long : length part ≡ length bytes = eqb-true _ _ both.1 in
      let all : take (length part) bytes ≡ bytes = take_all (length part) bytes (omega arith) in
      rw all at (front_same exact part bytes both.0)

  long_as : (exact : Bool) → SameBytes exact bytes part → length part ≡ length bytes
  long_as true h = ap length (sym h)
  long_as false h = simp length-map at (ap length (sym h))

  is_front_then : SameBytes exact bytes part → (is_front exact part bytes && (length part == length bytes)) ≡ true
  is_front_then h =
      let long : length part ≡ length bytes = long_as exact h in
      let all : take (length part) bytes ≡ bytes = take_all (length part) bytes (omega arith) in
      and_from _ _ (same_front exact part bytes (omega arith) (rw all h)) (eq-eqb _ _ long)

-- behind the last byte is nothing
pub rest_of : (at : ℕ) (bytes : List ℕ) → take (length bytes - min at (length bytes)) (drop (min at (length bytes)) bytes) ≡ drop at bytes
rest_of at bytes = take_all _ _ (omega (arith, length-drop (min at (length bytes)) bytes)) ∙ by_order (leb at (length bytes)) refl where
  by_order : (b : Bool) → leb at (length bytes) ≡ b → drop (min at (length bytes)) bytes ≡ drop at bytes
  by_order true e = let is : min at (length bytes) ≡ at = grind (arith, nat_tests) in rw is refl
  by_order false e =
      let past : length bytes ≤ at = grind (arith, nat_tests) in
      let is : min at (length bytes) ≡ length bytes = omega arith in
      rw (is, drop_all (length bytes) bytes (omega arith), drop_all at bytes past) refl
