-- The units of a text: the first one, and the units of what is behind it.
use Rattle.std.proofs.Common.{◌≡◌, ◌≢◌, ℕ, zero, suc, ◌+◌, ◌-◌, ◌<◌, ◌≤◌, Bool, true, false, cond, eqb, List, [], ◌∷◌, length, get_or, take, drop, Option, Some, None, inl, inr, refl, ap, add-one, arith, drop-cons}
use Rattle.std.specs.Prelude.{option_map, ◌⊎◌}
use Rattle.std.specs.Option.{option_and_then}
use Rattle.std.specs.Char.{is_ascii_digit}
use Rattle.std.proofs.lemmas.Bool.{ne_eqb}
use Rattle.std.proofs.lemmas.List.{drop-drop, drop_all, length-drop, take_all}
use Rattle.std.proofs.lemmas.Option.{same_Some}
use Rattle.dns_message.specs.declared.name_text.TextUnit.{TextUnit}
use Rattle.dns_message.specs.declared.name_text.TextUnit.TheVariants.{Dot, Byte}
use Rattle.dns_message.specs.NameText.{byte_of_digits, numbered, escaped, first_unit, units_within, units_of}

-- a step that does the same at the value, if there is one
and_then_same : {A B : Type 0} (o : Option A) (f g : A → Option B) → ((x : A) → o ≡ Some x → f x ≡ g x) → option_and_then f o ≡ option_and_then g o
and_then_same None f g h = refl
and_then_same (Some x) f g h = h x refl

-- what a value is that was mapped
map_some : {A B : Type 0} (f : A → B) (o : Option A) (y : B) → option_map f o ≡ Some y → (x : A) × (f x ≡ y)
map_some f None y e = absurd cc
map_some f (Some x) y e = (x, same_Some (f x) y e)

-- what was chosen is one or the other
chosen : {A : Type 0} (b : Bool) (x y z : A) → cond b x y ≡ z → (x ≡ z) ⊎ (y ≡ z)
chosen true x y z e = inl e
chosen false x y z e = inr e

-- what is behind is the second part
second_is : {A : Type 0} (x : A) (text : List ℕ) (found : A × List ℕ) → Some (x, text) ≡ Some found → length found.1 ≤ length text
second_is {A = A} x text found e = let same : text ≡ found.1 = ap (λ (p : A × List ℕ). p.1) (same_Some (x, text) found e) in rw (← same) (omega arith)

numbered_shorter : (a : ℕ) (text : List ℕ) (found : ℕ × List ℕ) → numbered a text ≡ Some found → length found.1 ≤ length text
numbered_shorter a [] found e = absurd cc
numbered_shorter a (b ∷ []) found e = absurd cc
numbered_shorter a (b ∷ c ∷ text) found e =
    let m = map_some (λ byte. (byte, text)) (byte_of_digits a b c) found e in
    let same : text ≡ found.1 = ap (λ (p : ℕ × List ℕ). p.1) m.1 in
    rw (← same) (omega arith)

escaped_shorter : (text : List ℕ) (found : ℕ × List ℕ) → escaped text ≡ Some found → length found.1 ≤ length text
escaped_shorter [] found e = absurd cc
escaped_shorter (a ∷ text) found e =
    elim (chosen (is_ascii_digit a) (numbered a text) (Some (a, text)) (Some found) e) [
      | inl n ↦ (let shorter : length found.1 ≤ length text = numbered_shorter a text found n in omega arith)
      | inr s ↦ (let shorter : length found.1 ≤ length text = second_is a text found s in omega arith)
    ]

mapped_shorter : (text : List ℕ) (found : TextUnit × List ℕ) → option_map (λ found. (Byte found.0, found.1)) (escaped text) ≡ Some found → length found.1 ≤ length text
mapped_shorter text found e = mapped (escaped text) (escaped_shorter text) e where
  mapped : (o : Option (ℕ × List ℕ)) → ((x : ℕ × List ℕ) → o ≡ Some x → length x.1 ≤ length text) → option_map (λ found. (Byte found.0, found.1)) o ≡ Some found → length found.1 ≤ length text
  mapped None h e = absurd cc
  mapped (Some x) h e = let same : x.1 ≡ found.1 = ap (λ (p : TextUnit × List ℕ). p.1) (same_Some (Byte x.0, x.1) found e) in rw (← same) (h x refl)

-- what is behind the first unit is no longer than what is behind its first byte
pub first_shorter : (c : ℕ) (text : List ℕ) (found : TextUnit × List ℕ) → first_unit c text ≡ Some found → length found.1 ≤ length text
first_shorter c text found e =
    elim (chosen (eqb c 46) (Some (Dot, text)) (cond (eqb c 92) (option_map (λ found. (Byte found.0, found.1)) (escaped text)) (Some (Byte c, text))) (Some found) e) [
      | inl s ↦ second_is Dot text found s
      | inr o ↦ elim (chosen (eqb c 92) (option_map (λ found. (Byte found.0, found.1)) (escaped text)) (Some (Byte c, text)) (Some found) o) [
        | inl m ↦ mapped_shorter text found m
        | inr s ↦ second_is (Byte c) text found s
      ]
    ]

-- any number of bytes will do that is enough
units_enough : (n m : ℕ) (text : List ℕ) → length text ≤ n → length text ≤ m → units_within n text ≡ units_within m text
units_enough zero zero text a b = refl
units_enough zero (suc m) [] a b = refl
units_enough (suc n) zero [] a b = refl
units_enough (suc n) (suc m) [] a b = refl
units_enough zero (suc m) (c ∷ text) a b = absurd (omega arith)
units_enough (suc n) zero (c ∷ text) a b = absurd (omega arith)
units_enough (suc n) (suc m) (c ∷ text) a b =
    and_then_same (first_unit c text) _ _ (λ found e.
    let shorter : length found.1 ≤ length text = first_shorter c text found e in
    ap (option_map (λ units. found.0 ∷ units)) (units_enough n m found.1 (omega arith) (omega arith)))

-- the units of a text are the first and those of what is behind it
pub units_cons : (c : ℕ) (text : List ℕ) → units_of (c ∷ text) ≡ option_and_then (λ found. option_map (λ units. found.0 ∷ units) (units_of found.1)) (first_unit c text)
unfolding units_of
units_cons c text =
    and_then_same (first_unit c text) _ _ (λ found e.
    ap (option_map (λ units. found.0 ∷ units)) (units_enough (length text) (length found.1) found.1 (first_shorter c text found e) (omega arith)))

-- ---- at an offset

-- what is behind an offset, to the end
pub rest_is : (text : List ℕ) (at : ℕ) → take (length text - at) (drop at text) ≡ drop at text
rest_is text at = take_all (length text - at) (drop at text) (omega (arith, length-drop at text))

at_offset : (text : List ℕ) (at : ℕ) → at < length text → drop at text ≡ get_or text at 0 ∷ drop (at + 1) text
at_offset text at lt = rw (add-one, drop-cons text at 0) refl

pub units_dot : (text : List ℕ) (at : ℕ) → at < length text → get_or text at 0 ≡ 46 → units_of (drop at text) ≡ option_map (λ units. Dot ∷ units) (units_of (drop (at + 1) text))
units_dot text at lt e = rw (at_offset text at lt, units_cons, e) refl

pub units_plain : (text : List ℕ) (at : ℕ) → at < length text → get_or text at 0 ≢ 46 → get_or text at 0 ≢ 92
    → units_of (drop at text) ≡ option_map (λ units. Byte (get_or text at 0) ∷ units) (units_of (drop (at + 1) text))
units_plain text at lt d b =
    let no_dot : eqb (get_or text at 0) 46 ≡ false = ne_eqb (get_or text at 0) 46 d in
    let no_slash : eqb (get_or text at 0) 92 ≡ false = ne_eqb (get_or text at 0) 92 b in
    rw (at_offset text at lt, units_cons, no_dot, no_slash) refl

pub units_escaped : (text : List ℕ) (at byte len : ℕ) → at < length text → get_or text at 0 ≡ 92 → escaped (drop (at + 1) text) ≡ Some (byte, drop len (drop (at + 1) text))
    → units_of (drop at text) ≡ option_map (λ units. Byte byte ∷ units) (units_of (drop (at + 1 + len) text))
units_escaped text at byte len lt e h = rw (at_offset text at lt, units_cons, e, h, drop-drop) refl

pub units_bad : (text : List ℕ) (at : ℕ) → at < length text → get_or text at 0 ≡ 92 → escaped (drop (at + 1) text) ≡ None → units_of (drop at text) ≡ None
units_bad text at lt e h = rw (at_offset text at lt, units_cons, e, h) refl

-- at the end of the text there are none
pub units_end : (text : List ℕ) (at : ℕ) → length text ≤ at → units_of (drop at text) ≡ Some []
unfolding units_of
units_end text at past = rw (drop_all at text past) refl
