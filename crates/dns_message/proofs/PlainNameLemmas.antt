-- A name written in one pass: labels that are whole, behind them a place for a length, and the bytes of the label that goes on.
use Rattle.std.proofs.Common.{◌≡◌, ◌≢◌, ℕ, suc, ◌+◌, ◌-◌, ◌<◌, ◌≤◌, true, false, List, [], ◌∷◌, ◌++◌, length, get_or, set, take, drop, Option, Some, None, refl, sym, ap, ◌∙◌, arith, add-one}
use Rattle.std.proofs.lemmas.List.{set_split, length-append, length-drop, length-set, length-take-le, take-append-le, drop-append-le, take_all, drop_all}
use Rattle.dns_message.specs.Name.{IsLabel, IsName, wire_length}
use Rattle.dns_message.specs.NameText.{units_of, label_before, dot_before, name_text}
use Rattle.dns_message.specs.Wire.{label_bytes, labels_in, IsWire}
use Rattle.dns_message.specs.declared.name_text.TextUnit.{TextUnit}
use Rattle.dns_message.proofs.UnitLemmas.{units_plain, units_dot, units_end}
use Rattle.dns_message.proofs.PieceLemmas.{continued, continued_more, continued_end, continued_dot, label_more, units_some}
use Rattle.dns_message.proofs.WireLemmas.{wire_more, labels_more, labels_none, wire_size}

-- the labels in front of the start, and the bytes behind it of the label that goes on, make the text's name with the units of what is left
abbrev pub SoFar : List ℕ → List ℕ → ℕ → ℕ → Type 0
SoFar text wire start at = name_text text ≡ continued (labels_in (take start wire)) (label_before (drop (start + 1) wire) (units_of (drop at text)))

none_before : (units : Option (List TextUnit)) → label_before [] units ≡ units
none_before None = refl
none_before (Some units) = refl

-- nothing is read yet
pub begins : (text wire : List ℕ) → length wire ≡ 1 → name_text text ≡ continued [] (units_of text) → SoFar text wire 0 0
begins text wire one read =
    let none : drop 1 wire ≡ [] = drop_all 1 wire (omega (arith, one)) in
    rw (none, labels_none, none_before (units_of text)) read

module _ (text wire : List ℕ) (start at : ℕ) (from : start ≤ at) (long : length wire ≡ at + 1) (read : SoFar text wire start at) where
  front : List ℕ
  front = take start wire

  label : List ℕ
  label = drop (start + 1) wire

  -- what is written behind changes no label in front of the start
  pub same_front : (byte : ℕ) → take start (wire ++ byte ∷ []) ≡ take start wire
  same_front byte = take-append-le start wire (byte ∷ []) (omega (arith, long))

  -- a byte that stands for itself
  pub goes_on : at < length text → get_or text at 0 ≢ 46 → get_or text at 0 ≢ 92 → SoFar text (wire ++ get_or text at 0 ∷ []) start (at + 1)
  goes_on lt dot slash =
      let byte = get_or text at 0 in
      let more : drop (start + 1) (wire ++ byte ∷ []) ≡ drop (start + 1) wire ++ byte ∷ [] = drop-append-le (start + 1) wire (byte ∷ []) (omega (arith, long)) in
      rw (same_front byte, more)
      (read
      ∙ ap (λ units. continued (labels_in (take start wire)) (label_before (drop (start + 1) wire) units)) (units_plain text at lt dot slash)
      ∙ ap (continued (labels_in (take start wire))) (label_more (drop (start + 1) wire) byte (units_of (drop (at + 1) text))))

  module _ (count : ℕ) (whole : IsWire (take start wire) count) (some : at - start ≢ 0) (few : at - start ≤ 63) (room : at + 2 ≤ 255) where
    label_long : length (drop (start + 1) wire) ≡ at - start
    label_long = omega (arith, length-drop (start + 1) wire, long)

    front_long : length (take start wire) ≡ start
    front_long = length-take-le start wire (omega (arith, long))

    is : IsLabel (drop (start + 1) wire)
    is = record { some = omega (arith, label_long, some); few = omega (arith, label_long) }

    fits : wire_length (labels_in (take start wire)) + length (drop (start + 1) wire) + 1 ≤ 255
    fits = omega (arith, label_long, front_long, wire_size (take start wire) count whole)

    -- the length in its place
    spelled : set wire start (at - start) ≡ take start wire ++ label_bytes (drop (start + 1) wire)
    spelled =
        set_split wire start (at - start) (omega (arith, long))
        ∙ ap (λ (n : ℕ). take start wire ++ n ∷ drop (suc start) wire) (sym label_long)
        ∙ rw add-one refl

    pub is_whole : IsWire (set wire start (at - start)) (count + 1)
    is_whole = rw spelled (wire_more (take start wire) count (drop (start + 1) wire) whole is fits)

    labels_are : labels_in (set wire start (at - start)) ≡ labels_in (take start wire) ++ drop (start + 1) wire ∷ []
    labels_are = rw spelled (labels_more (take start wire) count (drop (start + 1) wire) whole is fits)

    name : IsName (labels_in (take start wire) ++ drop (start + 1) wire ∷ [])
    name = rw labels_are at is_whole.name

    -- the text ends here
    pub ends : length text ≤ at → name_text text ≡ Some (labels_in (set wire start (at - start)), false)
    ends past =
        read
        ∙ ap (λ units. continued (labels_in (take start wire)) (label_before (drop (start + 1) wire) units)) (units_end text at past)
        ∙ continued_end (labels_in (take start wire)) (drop (start + 1) wire) name
        ∙ rw labels_are refl

    module _ (lt : at < length text) (dot : get_or text at 0 ≡ 46) where
      behind : name_text text ≡ continued (labels_in (take start wire)) (label_before (drop (start + 1) wire) (dot_before (units_of (drop (at + 1) text))))
      behind = read ∙ ap (λ units. continued (labels_in (take start wire)) (label_before (drop (start + 1) wire) units)) (units_dot text at lt dot)

      -- with a dot behind the last label
      pub ends_dotted : at + 1 ≡ length text → name_text text ≡ Some (labels_in (set wire start (at - start)), true)
      ends_dotted last =
          behind
          ∙ ap (λ units. continued (labels_in (take start wire)) (label_before (drop (start + 1) wire) (dot_before units))) (units_end text (at + 1) (omega (arith, last)))
          ∙ continued_dot (labels_in (take start wire)) (drop (start + 1) wire) name
          ∙ rw labels_are refl

      -- a label behind the dot
      set_long : length (set wire start (at - start)) ≡ at + 1
      set_long = length-set wire start (at - start) ∙ long

      pub front_next : take (at + 1) (set wire start (at - start) ++ 0 ∷ []) ≡ set wire start (at - start)
      front_next =
          take-append-le (at + 1) (set wire start (at - start)) (0 ∷ []) (omega (arith, set_long))
          ∙ take_all (at + 1) (set wire start (at - start)) (omega (arith, set_long))

      pub next : at + 1 ≢ length text → SoFar text (set wire start (at - start) ++ 0 ∷ []) (at + 1) (at + 1)
      next more =
          let none : drop (at + 1 + 1) (set wire start (at - start) ++ 0 ∷ []) ≡ [] = drop_all (at + 1 + 1) (set wire start (at - start) ++ 0 ∷ []) (omega (arith, set_long, length-append (set wire start (at - start)) (0 ∷ []))) in
          rw (front_next, none, none_before (units_of (drop (at + 1) text)), labels_are)
          (behind
          ∙ continued_more (labels_in (take start wire)) (drop (start + 1) wire) (units_of (drop (at + 1) text)) (units_some (drop (at + 1) text) (omega (arith, length-drop (at + 1) text, more))))
