-- Names in mixed case (specs/Mixing): how they are spelled, that they are names, and that they are the same names.
use Rattle.std.proofs.Common.{◌≡◌, ℕ, ◌+◌, ◌%◌, ◌≤◌, Bool, true, false, cond, List, [], ◌∷◌, ◌++◌, length, map, refl, ap, sym, ◌∙◌, arith, add-zero}
use Rattle.std.specs.Prelude.{count_by}
use Rattle.std.specs.List.{AllByRecursion}
use Rattle.std.specs.Char.{is_ascii_alphabetic, to_ascii_lowercase}
use Rattle.std.proofs.lemmas.Bool.Decides.{nat_tests}
use Rattle.std.proofs.lemmas.List.Concat.{flat_map-cons}
use Rattle.std.proofs.lemmas.List.Recursion.{is_count_by}
use Rattle.std.proofs.lemmas.Str.Ascii.{lowercase-lowercase, lowercase-uppercase}
use Rattle.dns_message.specs.Name.{IsLabel, IsName, wire_length, SameName}
use Rattle.dns_message.specs.Numbers.{has_bit}
use Rattle.dns_message.specs.Wire.{label_bytes, wire_bytes, labels_in, IsWire}
use Rattle.dns_message.specs.Mixing.{in_case, mixed_label, mixed_labels, mixed_name}
use Rattle.dns_message.proofs.WireLemmas.{wire_of, labels_of}

-- how many letters there are, by recursion
abbrev letters : List ℕ → ℕ
letters [] = 0
letters (byte ∷ bytes) = cond (is_ascii_alphabetic byte) (1 + letters bytes) (letters bytes)

counted : (bytes : List ℕ) → letters bytes ≡ count_by is_ascii_alphabetic bytes
counted bytes = is_count_by letters is_ascii_alphabetic refl (λ x xs. refl) bytes

-- bytes behind bytes
mixed_append : (mix k : ℕ) (front back : List ℕ) → mixed_label mix k (front ++ back) ≡ mixed_label mix k front ++ mixed_label mix (k + letters front) back
mixed_append mix k [] back = rw add-zero refl
mixed_append mix k (byte ∷ front) back =
    let same : k + 1 + letters front ≡ k + (1 + letters front) = omega arith in
    more (is_ascii_alphabetic byte) (mixed_append mix (k + 1) front back ∙ ap (λ (n : ℕ). mixed_label mix (k + 1) front ++ mixed_label mix n back) same) (mixed_append mix k front back) where
      more : (letter : Bool)
          → mixed_label mix (k + 1) (front ++ back) ≡ mixed_label mix (k + 1) front ++ mixed_label mix (k + (1 + letters front)) back
          → mixed_label mix k (front ++ back) ≡ mixed_label mix k front ++ mixed_label mix (k + letters front) back
          → cond letter (in_case (has_bit (k % 16) mix) byte ∷ mixed_label mix (k + 1) (front ++ back)) (byte ∷ mixed_label mix k (front ++ back))
          ≡ cond letter (in_case (has_bit (k % 16) mix) byte ∷ mixed_label mix (k + 1) front) (byte ∷ mixed_label mix k front) ++ mixed_label mix (k + cond letter (1 + letters front) (letters front)) back
      more true counts stays = ap (λ (bytes : List ℕ). in_case (has_bit (k % 16) mix) byte ∷ bytes) counts
      more false counts stays = ap (λ (bytes : List ℕ). byte ∷ bytes) stays

-- a length is no letter
no_letter : (mix k n : ℕ) (bytes : List ℕ) → n ≤ 63 → mixed_label mix k (n ∷ bytes) ≡ n ∷ mixed_label mix k bytes
no_letter mix k n bytes few = let no : is_ascii_alphabetic n ≡ false = grind (arith, nat_tests) in rw no refl

-- as many bytes
length_mixed : (mix k : ℕ) (label : List ℕ) → length (mixed_label mix k label) ≡ length label
length_mixed mix k [] = refl
length_mixed mix k (byte ∷ label) = more (is_ascii_alphabetic byte) (length_mixed mix (k + 1) label) (length_mixed mix k label) where
  more : (letter : Bool) → length (mixed_label mix (k + 1) label) ≡ length label → length (mixed_label mix k label) ≡ length label
      → length (cond letter (in_case (has_bit (k % 16) mix) byte ∷ mixed_label mix (k + 1) label) (byte ∷ mixed_label mix k label)) ≡ length (byte ∷ label)
  more true counts stays = omega (arith, counts)
  more false counts stays = omega (arith, stays)

-- labels in mixed case are spelled as the bytes in mixed case
mixed_spelled : (mix k : ℕ) (labels : List (List ℕ)) → AllByRecursion IsLabel labels → mixed_label mix k (wire_bytes labels) ≡ wire_bytes (mixed_labels mix k labels)
mixed_spelled mix k [] each = refl
mixed_spelled mix k (label ∷ labels) each =
    let few = each.0.few in
    ap (mixed_label mix k) (flat_map-cons label_bytes label labels)
    ∙ no_letter mix k (length label) (label ++ wire_bytes labels) few
    ∙ rw (mixed_append mix k label (wire_bytes labels), counted label, mixed_spelled mix (k + count_by is_ascii_alphabetic label) labels each.1, flat_map-cons label_bytes (mixed_label mix k label) (mixed_labels mix (k + count_by is_ascii_alphabetic label) labels), length_mixed) refl

-- labels in mixed case are as long
mixed_labels_long : (mix k : ℕ) (labels : List (List ℕ)) → wire_length (mixed_labels mix k labels) ≡ wire_length labels
mixed_labels_long mix k [] = refl
mixed_labels_long mix k (label ∷ labels) = omega (arith, length_mixed mix k label, mixed_labels_long mix (k + count_by is_ascii_alphabetic label) labels)

mixed_each : (mix k : ℕ) (labels : List (List ℕ)) → AllByRecursion IsLabel labels → AllByRecursion IsLabel (mixed_labels mix k labels)
mixed_each mix k [] each = tt
mixed_each mix k (label ∷ labels) each =
    let some = each.0.some in
    let few = each.0.few in
    (record { some = omega (arith, some, length_mixed mix k label); few = omega (arith, few, length_mixed mix k label) }, mixed_each mix (k + count_by is_ascii_alphabetic label) labels each.1)

mixed_count : (mix k : ℕ) (labels : List (List ℕ)) → length (mixed_labels mix k labels) ≡ length labels
mixed_count mix k [] = refl
mixed_count mix k (label ∷ labels) = omega (arith, mixed_count mix (k + count_by is_ascii_alphabetic label) labels)

-- in lower case they are what they were
lower_cased : (upper : Bool) (letter : ℕ) → to_ascii_lowercase (in_case upper letter) ≡ to_ascii_lowercase letter
lower_cased true letter = lowercase-uppercase letter
lower_cased false letter = lowercase-lowercase letter

lower_mixed : (mix k : ℕ) (label : List ℕ) → map to_ascii_lowercase (mixed_label mix k label) ≡ map to_ascii_lowercase label
lower_mixed mix k [] = refl
lower_mixed mix k (byte ∷ label) = more (is_ascii_alphabetic byte) (lower_mixed mix (k + 1) label) (lower_mixed mix k label) where
  more : (letter : Bool) → map to_ascii_lowercase (mixed_label mix (k + 1) label) ≡ map to_ascii_lowercase label → map to_ascii_lowercase (mixed_label mix k label) ≡ map to_ascii_lowercase label
      → map to_ascii_lowercase (cond letter (in_case (has_bit (k % 16) mix) byte ∷ mixed_label mix (k + 1) label) (byte ∷ mixed_label mix k label)) ≡ map to_ascii_lowercase (byte ∷ label)
  more true counts stays = rw (lower_cased (has_bit (k % 16) mix) byte, counts) refl
  more false counts stays = rw stays refl

mixed_labels_same : (mix k : ℕ) (labels : List (List ℕ)) → SameName (mixed_labels mix k labels) labels
mixed_labels_same mix k [] = refl
mixed_labels_same mix k (label ∷ labels) = rw (lower_mixed mix k label, mixed_labels_same mix (k + count_by is_ascii_alphabetic label) labels) refl

-- ---- names

pub mixed_is_name : (mix : ℕ) (labels : List (List ℕ)) → IsName labels → IsName (mixed_name mix labels)
mixed_is_name mix labels name =
    let short = name.short in
    record { each = mixed_each mix 0 labels name.each; short = omega (arith, short, mixed_labels_long mix 0 labels) }

pub mixed_is_same : (mix : ℕ) (labels : List (List ℕ)) → SameName (mixed_name mix labels) labels
mixed_is_same mix labels = mixed_labels_same mix 0 labels

pub mixed_is_long : (mix : ℕ) (labels : List (List ℕ)) → wire_length (mixed_name mix labels) ≡ wire_length labels
mixed_is_long mix labels = mixed_labels_long mix 0 labels

-- a name's bytes in mixed case are the name in mixed case
module _ (mix : ℕ) (bytes : List ℕ) (labels : List (List ℕ)) (spelled : bytes ≡ mixed_label mix 0 (wire_bytes labels)) (name : IsName labels) where
  as_labels : bytes ≡ wire_bytes (mixed_name mix labels)
  as_labels = spelled ∙ mixed_spelled mix 0 labels name.each

  pub mixed_wire : IsWire bytes (length labels)
  mixed_wire = wire_of bytes (length labels) (mixed_name mix labels) as_labels (mixed_is_name mix labels name) (sym (mixed_count mix 0 labels))

  pub mixed_labels_in : labels_in bytes ≡ mixed_name mix labels
  mixed_labels_in = labels_of bytes (mixed_name mix labels) as_labels
