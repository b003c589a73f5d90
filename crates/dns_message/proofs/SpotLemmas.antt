-- The units of a text with their places: the first one, and those behind it; and the first fault of a name.
use Rattle.std.proofs.Common.{◌≡◌, ◌≢◌, ℕ, zero, suc, ◌+◌, ◌-◌, ◌<◌, ◌≤◌, Bool, true, false, eqb, ltb, List, [], ◌∷◌, ◌++◌, length, get_or, drop, map, Option, Some, None, Ok, Err, refl, ap, ◌∙◌, add-one, arith, drop-cons}
use Rattle.std.specs.Prelude.{MatchBool}
use Rattle.std.specs.Borrow.{Bor}
use Rattle.std.proofs.lemmas.Bool.{ne_eqb}
use Rattle.std.proofs.lemmas.Bool.Decides.{nat_tests}
use Rattle.std.proofs.lemmas.List.{drop-drop, drop_all, length-drop}
use Rattle.dns_message.specs.NameText.{escaped, first_unit}
use Rattle.dns_message.specs.NameFaults.{Spot, dot, byte, bad, spot, spots_by, spots_within, spots_of, with_label, behind_label, name_on, labels_on}
use Rattle.dns_message.specs.declared.name_text.TextUnit.{TextUnit}
use Rattle.dns_message.specs.declared.fault.NameFault.{NameFault}
use Rattle.dns_message.specs.declared.fault.NameFault.TheVariants.{LongLabel}
use Rattle.dns_message.proofs.UnitLemmas.{first_shorter}

-- steps that go on the same
by_same : (o : Option (TextUnit × List ℕ)) (p : ℕ) (text : List ℕ) (f g : ℕ → List ℕ → List Spot) → ((found : TextUnit × List ℕ) → o ≡ Some found → (q : ℕ) → f q found.1 ≡ g q found.1) → spots_by f p text o ≡ spots_by g p text o
by_same None p text f g h = refl
by_same (Some found) p text f g h = ap (λ (rest : List Spot). spot p found.0 ∷ rest) (h found refl _)

-- any number of bytes will do that is enough
spots_enough : (n m p : ℕ) (text : List ℕ) → length text ≤ n → length text ≤ m → spots_within n p text ≡ spots_within m p text
spots_enough n m p [] a b = refl
spots_enough zero m p (c ∷ text) a b = absurd (omega arith)
spots_enough (suc n) zero p (c ∷ text) a b = absurd (omega arith)
spots_enough (suc n) (suc m) p (c ∷ text) a b =
    by_same (first_unit c text) p text (spots_within n) (spots_within m) (λ found e q.
    let shorter : length found.1 ≤ length text = first_shorter c text found e in
    spots_enough n m q found.1 (omega arith) (omega arith))

pub spots_cons : (p c : ℕ) (text : List ℕ) → spots_of p (c ∷ text) ≡ spots_by spots_of p text (first_unit c text)
unfolding spots_of
spots_cons p c text =
    by_same (first_unit c text) p text (spots_within (length text)) spots_of (λ found e q.
    spots_enough (length text) (length found.1) q found.1 (first_shorter c text found e) (omega arith))

-- at the end of the text there are none
pub spots_end : (p : ℕ) (text : List ℕ) (at : ℕ) → length text ≤ at → spots_of p (drop at text) ≡ []
unfolding spots_of
spots_end p text at past = rw (drop_all at text past) refl

module _ (text : List ℕ) (at : ℕ) (lt : at < length text) where
  here : drop at text ≡ get_or text at 0 ∷ drop (at + 1) text
  here = rw (add-one, drop-cons text at 0) refl

  pub spots_dot : get_or text at 0 ≡ 46 → spots_of at (drop at text) ≡ dot at ∷ spots_of (at + 1) (drop (at + 1) text)
  spots_dot e =
      let next : at + 1 + (length (drop (at + 1) text) - length (drop (at + 1) text)) ≡ at + 1 = omega arith in
      rw (here, spots_cons, e, next) refl

  pub spots_plain : get_or text at 0 ≢ 46 → get_or text at 0 ≢ 92 → spots_of at (drop at text) ≡ byte at (get_or text at 0) ∷ spots_of (at + 1) (drop (at + 1) text)
  spots_plain d b =
      let no_dot : eqb (get_or text at 0) 46 ≡ false = ne_eqb (get_or text at 0) 46 d in
      let no_slash : eqb (get_or text at 0) 92 ≡ false = ne_eqb (get_or text at 0) 92 b in
      let next : at + 1 + (length (drop (at + 1) text) - length (drop (at + 1) text)) ≡ at + 1 = omega arith in
      rw (here, spots_cons, no_dot, no_slash, next) refl

  pub spots_escaped : (b len : ℕ) → get_or text at 0 ≡ 92 → escaped (drop (at + 1) text) ≡ Some (b, drop len (drop (at + 1) text)) → at + 1 + len ≤ length text
      → spots_of at (drop at text) ≡ byte at b ∷ spots_of (at + 1 + len) (drop (at + 1 + len) text)
  spots_escaped b len e h fits =
      let next : at + 1 + (length (drop (at + 1) text) - length (drop (at + 1 + len) text)) ≡ at + 1 + len = omega (arith, length-drop (at + 1) text, length-drop (at + 1 + len) text) in
      rw (here, spots_cons, e, h, drop-drop, next) refl

  pub spots_bad : get_or text at 0 ≡ 92 → escaped (drop (at + 1) text) ≡ None → spots_of at (drop at text) ≡ bad at ∷ []
  spots_bad e h = rw (here, spots_cons, e, h) refl

-- ---- the name, unit by unit

-- one byte more of a label
pub on_byte : (end : ℕ) (front : List (List ℕ)) (start : ℕ) (label : List ℕ) (p b : ℕ) (spots : List Spot) → length label ≢ 63 → name_on end front start label (byte p b ∷ spots) ≡ name_on end front start (label ++ b ∷ []) spots
on_byte end front start label p b spots ne = let test : eqb (length label) 63 ≡ false = ne_eqb (length label) 63 ne in rw test refl

-- the 64th byte
pub on_long : (end : ℕ) (front : List (List ℕ)) (start : ℕ) (label : List ℕ) (p b : ℕ) (spots : List Spot) → length label ≡ 63 → name_on end front start label (byte p b ∷ spots) ≡ Err (LongLabel p)
on_long end front start label p b spots e = rw e refl

-- a label that can't join those in front
dot_stops : (text : ℕ) (front : List (List ℕ)) (start : ℕ) (label : List ℕ) (p : ℕ) (spots : List Spot) (fault : NameFault) → with_label front start label p ≡ Err fault → name_on text front start label (dot p ∷ spots) ≡ Err fault
dot_stops text front start label p [] fault e = rw e refl
dot_stops text front start label p (next ∷ spots) fault e = rw e refl

some_spots : (o : Option (TextUnit × List ℕ)) (p : ℕ) (text : List ℕ) → (first : Spot) × (others : List Spot) × (spots_by spots_of p text o ≡ first ∷ others)
some_spots None p text = (bad p, [], refl)
some_spots (Some found) p text = (spot p found.0, spots_of (p + 1 + (length text - length found.1)) found.1, refl)

-- a text with bytes has a first unit
spots_some : (p : ℕ) (text : List ℕ) → 0 < length text → (first : Spot) × (others : List Spot) × (spots_of p text ≡ first ∷ others)
spots_some p [] lt = absurd (omega arith)
spots_some p (c ∷ text) lt = let some = some_spots (first_unit c text) p text in (some.0, some.1, spots_cons p c text ∙ some.2)

module _ (text : List ℕ) (front : List (List ℕ)) (start end : ℕ) (label : List ℕ) where
  -- a label that can't join those in front, at a dot or at the end of the text
  pub label_stops : (dotted : Bool) → MatchBool dotted (Unit {0}) (end ≡ length text) → (fault : NameFault) → with_label front start label end ≡ Err fault
      → name_on (length text) front start label (behind_label text end dotted) ≡ Err fault
  label_stops true last fault e = dot_stops (length text) front start label end (spots_of (end + 1) (drop (end + 1) text)) fault e
  label_stops false last fault e = rw (← last, e) refl

  -- a label with a dot and more behind it
  pub label_joins : (dotted : Bool) → dotted ≡ true → end + 1 < length text → with_label front start label end ≡ Ok (front ++ label ∷ [])
      → name_on (length text) front start label (behind_label text end dotted) ≡ name_on (length text) (front ++ label ∷ []) (end + 1) [] (spots_of (end + 1) (drop (end + 1) text))
  label_joins false is more e = absurd cc
  label_joins true is more e =
      let some = spots_some (end + 1) (drop (end + 1) text) (omega (arith, length-drop (end + 1) text)) in
      rw (some.2, e) refl

-- ---- labels

-- the label at an index can't join those in front
pub labels_stop : (front : List (List ℕ)) (labels : List (Bor (List ℕ))) (i : ℕ) (d : Bor (List ℕ)) (fault : NameFault) → i < length labels → length (get_or labels i d).now ≤ 63
    → with_label front i (get_or labels i d).now i ≡ Err fault
    → labels_on front i (map (λ l. l.now) (drop i labels)) ≡ Err fault
labels_stop front labels i d fault lt few e =
    let test : ltb 63 (length (get_or labels i d).now) ≡ false = grind (arith, nat_tests) in
    rw (drop-cons labels i d lt, test, e) refl

-- or is too long
pub labels_long : (front : List (List ℕ)) (labels : List (Bor (List ℕ))) (i : ℕ) (d : Bor (List ℕ)) → i < length labels → 63 < length (get_or labels i d).now
    → labels_on front i (map (λ l. l.now) (drop i labels)) ≡ Err (LongLabel i)
labels_long front labels i d lt long =
    let test : ltb 63 (length (get_or labels i d).now) ≡ true = grind (arith, nat_tests) in
    rw (drop-cons labels i d lt, test) refl
