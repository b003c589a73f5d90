-- A printed name reads as itself.
use Rattle.std.proofs.Common.{◌≡◌, ◌≢◌, ℕ, ◌+◌, ◌-◌, ◌*◌, ◌/◌, ◌%◌, ◌<◌, Bool, true, false, cond, eqb, leb, List, [], ◌∷◌, ◌++◌, length, Option, Some, None, inl, inr, refl, ap, sym, ◌∙◌, append_assoc, append-nil, arith}
use Rattle.std.specs.Prelude.{option_map, ◌⊎◌, ◌&&◌, ◌||◌}
use Rattle.std.specs.Option.{option_and_then}
use Rattle.std.specs.List.{AllByRecursion, flat_map}
use Rattle.std.specs.Char.{is_ascii_digit}
use Rattle.std.specs.Str.{bytes_eq}
use Rattle.std.proofs.lemmas.Bool.{eqb-true}
use Rattle.std.proofs.lemmas.Bool.Decides.{nat_tests}
use Rattle.std.proofs.lemmas.List.{length-append}
use Rattle.std.proofs.lemmas.List.Concat.{flat_map-cons}
use Rattle.dns_message.specs.Name.{IsName}
use Rattle.dns_message.specs.NameText.{byte_of_digits, numbered, escaped, units_of, name_text, label_before, dot_before}
use Rattle.dns_message.specs.NamePrinting.{printed_byte, printed_label, text_of, AreBytes}
use Rattle.dns_message.specs.declared.name_text.TextUnit.{TextUnit}
use Rattle.dns_message.specs.declared.name_text.TextUnit.TheVariants.{Byte}
use Rattle.dns_message.specs.Wire.{labels_in}
use Rattle.dns_message.proofs.WireLemmas.{no_labels}
use Rattle.dns_message.proofs.UnitLemmas.{units_cons, units_end}
use Rattle.dns_message.proofs.PieceLemmas.{continued, continued_more, continued_dot, units_some}

-- a number is that one, or isn't by test
is_it : (m n : ℕ) → (m ≡ n) ⊎ (eqb m n ≡ false)
is_it m n = by_test (eqb m n) refl where
  by_test : (b : Bool) → eqb m n ≡ b → (m ≡ n) ⊎ (eqb m n ≡ false)
  by_test true e = inl (eqb-true m n e)
  by_test false e = inr e

digit : (x : ℕ) → x < 10 → is_ascii_digit (48 + x) ≡ true
digit x lt = grind (arith, nat_tests)

-- three digits are the byte that they were printed for
digits_back : (b : ℕ) → b < 256 → byte_of_digits (48 + b / 100) (48 + b / 10 % 10) (48 + b % 10) ≡ Some b
digits_back b lt =
    let number : (48 + b / 100 - 48) * 100 + (48 + b / 10 % 10 - 48) * 10 + (48 + b % 10 - 48) ≡ b = omega arith in
    let fits : leb b 255 ≡ true = grind (arith, nat_tests) in
    let low : b / 100 < 10 = omega arith in
    rw (digit (b / 100) low, digit (b / 10 % 10) (omega arith), digit (b % 10) (omega arith), number, fits) refl

escaped_digits : (b : ℕ) (rest : List ℕ) → b < 256 → escaped ((48 + b / 100) ∷ (48 + b / 10 % 10) ∷ (48 + b % 10) ∷ rest) ≡ Some (b, rest)
escaped_digits b rest lt =
    let low : b / 100 < 10 = omega arith in
    let behind = (48 + b / 10 % 10) ∷ (48 + b % 10) ∷ rest in
    ap (λ (t : Bool). cond t (numbered (48 + b / 100) behind) (Some (48 + b / 100, behind))) (digit (b / 100) low) ∙ ap (option_map (λ byte. (byte, rest))) (digits_back b lt)

-- a printed byte is that byte's unit
printed_unit : (b : ℕ) (rest : List ℕ) → b < 256 → units_of (printed_byte b ++ rest) ≡ option_map (λ units. Byte b ∷ units) (units_of rest)
printed_unit b rest lt = elim (is_it b 46) [
  | inl dot ↦ rw dot (units_cons 92 (46 ∷ rest))
  | inr no_dot ↦ elim (is_it b 92) [
    | inl slash ↦ rw slash (units_cons 92 (92 ∷ rest))
    | inr no_slash ↦ by_test no_dot no_slash (leb 33 b && leb b 126) refl
  ]
] where
  by_test : eqb b 46 ≡ false → eqb b 92 ≡ false → (t : Bool) → (leb 33 b && leb b 126) ≡ t → units_of (printed_byte b ++ rest) ≡ option_map (λ units. Byte b ∷ units) (units_of rest)
  by_test no_dot no_slash true e = rw (no_dot, no_slash, e, units_cons, no_dot, no_slash) refl
  by_test no_dot no_slash false e =
      let digits : printed_byte b ≡ 92 ∷ (48 + b / 100) ∷ (48 + b / 10 % 10) ∷ (48 + b % 10) ∷ [] = rw (no_dot, no_slash, e) refl in
      ap (λ (t : List ℕ). units_of (t ++ rest)) digits
      ∙ units_cons 92 ((48 + b / 100) ∷ (48 + b / 10 % 10) ∷ (48 + b % 10) ∷ rest)
      ∙ ap (λ (found : Option (ℕ × List ℕ)). option_and_then (λ (x : TextUnit × List ℕ). option_map (λ units. x.0 ∷ units) (units_of x.1)) (option_map (λ (x : ℕ × List ℕ). (Byte x.0, x.1)) found)) (escaped_digits b rest lt)

-- printed bytes are a label's units
printed_units : (label rest : List ℕ) → AllByRecursion (λ b. b < 256) label → units_of (flat_map printed_byte label ++ rest) ≡ label_before label (units_of rest)
printed_units [] rest fits = by_units (units_of rest) where
  by_units : (units : Option (List TextUnit)) → units ≡ option_map (λ behind. behind) units
  by_units None = refl
  by_units (Some us) = refl
printed_units (b ∷ label) rest fits =
    let regrouped : flat_map printed_byte (b ∷ label) ++ rest ≡ printed_byte b ++ (flat_map printed_byte label ++ rest) = ap (λ (t : List ℕ). t ++ rest) (flat_map-cons printed_byte b label) ∙ append_assoc (printed_byte b) (flat_map printed_byte label) rest in
    ap units_of regrouped ∙ printed_unit b (flat_map printed_byte label ++ rest) fits.0 ∙ ap (option_map (λ units. Byte b ∷ units)) (printed_units label rest fits.1) ∙ by_units (units_of rest) where
      by_units : (units : Option (List TextUnit)) → option_map (λ us. Byte b ∷ us) (label_before label units) ≡ label_before (b ∷ label) units
      by_units None = refl
      by_units (Some us) = refl

label_units : (label rest : List ℕ) → AllByRecursion (λ b. b < 256) label → units_of (printed_label label ++ rest) ≡ label_before label (dot_before (units_of rest))
label_units label rest fits =
    ap units_of (append_assoc (flat_map printed_byte label) (46 ∷ []) rest) ∙ printed_units label (46 ∷ rest) fits ∙ ap (label_before label) (units_cons 46 rest)

text_cons : (label : List ℕ) (labels : List (List ℕ)) → AllByRecursion (λ b. b < 256) label → units_of (flat_map printed_label (label ∷ labels)) ≡ label_before label (dot_before (units_of (flat_map printed_label labels)))
text_cons label labels fits = ap units_of (flat_map-cons printed_label label labels) ∙ label_units label (flat_map printed_label labels) fits

-- the labels behind those in front are read back
labels_back : (front : List (List ℕ)) (label : List ℕ) (labels : List (List ℕ)) → IsName (front ++ label ∷ labels) → AllByRecursion (AllByRecursion (λ b. b < 256)) (label ∷ labels)
    → continued front (units_of (flat_map printed_label (label ∷ labels))) ≡ Some (front ++ label ∷ labels, true)
labels_back front label [] name fits =
    ap (continued front) (text_cons label [] fits.0 ∙ ap (λ units. label_before label (dot_before units)) (units_end [] 0 (omega arith))) ∙ continued_dot front label name
labels_back front label (next ∷ labels) name fits =
    let some : 0 < length (flat_map printed_label (next ∷ labels)) = omega (arith, ap length (flat_map-cons printed_label next labels), length-append (printed_label next) (flat_map printed_label labels), length-append (flat_map printed_byte next) (46 ∷ [])) in
    let joined : (front ++ label ∷ []) ++ next ∷ labels ≡ front ++ label ∷ next ∷ labels = append_assoc front (label ∷ []) (next ∷ labels) in
    ap (continued front) (text_cons label (next ∷ labels) fits.0)
    ∙ continued_more front label (units_of (flat_map printed_label (next ∷ labels))) (units_some (flat_map printed_label (next ∷ labels)) some)
    ∙ labels_back (front ++ label ∷ []) next labels (rw joined name) fits.1
    ∙ ap (λ (all : List (List ℕ)). Some (all, true)) joined

no_dot_alone : (text : List ℕ) → 1 < length text → bytes_eq text (46 ∷ []) ≡ false
no_dot_alone [] lt = absurd (omega arith)
no_dot_alone (x ∷ []) lt = absurd (omega arith)
no_dot_alone (x ∷ y ∷ text) lt = ends (eqb x 46) where
  ends : (b : Bool) → (b && false) ≡ false
  ends true = refl
  ends false = refl

printed_some : (b : ℕ) → 0 < length (printed_byte b)
printed_some b = by_tests (eqb b 46 || eqb b 92) (leb 33 b && leb b 126) where
  by_tests : (s t : Bool) → 0 < length (cond s (92 ∷ b ∷ []) (cond t (b ∷ []) (92 ∷ (48 + b / 100) ∷ (48 + b / 10 % 10) ∷ (48 + b % 10) ∷ [])))
  by_tests true t = omega arith
  by_tests false true = omega arith
  by_tests false false = omega arith

-- a printed name reads as itself, and absolute
pub printed_back : (labels : List (List ℕ)) → IsName labels → AreBytes labels → name_text (text_of labels) ≡ Some (labels, true)
printed_back [] name fits = refl
printed_back ([] ∷ labels) name fits = let some = name.each.0.some in absurd (omega arith)
printed_back ((b ∷ label) ∷ labels) name fits =
    let long : 1 < length (flat_map printed_label ((b ∷ label) ∷ labels)) = omega (
      arith,
      ap length (flat_map-cons printed_label (b ∷ label) labels),
      length-append (printed_label (b ∷ label)) (flat_map printed_label labels),
      length-append (flat_map printed_byte (b ∷ label)) (46 ∷ []),
      ap length (flat_map-cons printed_byte b label),
      length-append (printed_byte b) (flat_map printed_byte label),
      printed_some b,
    ) in
    rw (no_dot_alone (flat_map printed_label ((b ∷ label) ∷ labels)) long) (labels_back [] (b ∷ label) labels name fits)

-- with no bytes left, the text has all labels
pub printed_all : (text start rest : List ℕ) (labels : List (List ℕ)) → length rest ≡ 0
    → text ++ flat_map printed_label (labels_in rest) ≡ start ++ flat_map printed_label labels → start ++ flat_map printed_label labels ≡ text_of labels → text ≡ text_of labels
printed_all text start rest labels none all is =
    let left : flat_map printed_label (labels_in rest) ≡ [] = ap (flat_map printed_label) (no_labels rest none) in
    sym (append-nil text) ∙ ap (λ (behind : List ℕ). text ++ behind) (sym left) ∙ all ∙ is

-- the root begins with its dot
pub start_root : (start : List ℕ) (labels : List (List ℕ)) → length labels ≡ 0 → start ≡ 46 ∷ [] → start ++ flat_map printed_label labels ≡ text_of labels
start_root start [] none begins = rw begins refl
start_root start (label ∷ labels) none begins = absurd (omega arith)

-- any other name with its first label
pub start_some : (start : List ℕ) (labels : List (List ℕ)) → length labels ≢ 0 → start ≡ [] → start ++ flat_map printed_label labels ≡ text_of labels
start_some start [] some begins = absurd (some refl)
start_some start (label ∷ labels) some begins = rw begins refl
