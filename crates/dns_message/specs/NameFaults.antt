-- The first fault of a text or of labels that are no name, read from the left, and its place (RFC 1035, sections 2.3.4 and 5.1).
use Rattle.std.specs.Prelude.{ℕ, zero, suc, ◌+◌, ◌-◌, Bool, true, false, nat_lt, ◌==◌, if◌then◌else◌, List, [], ◌∷◌, ◌++◌, length, drop, Option, Some, None, Result, Ok, Err, codes}
use Rattle.std.specs.Str.{bytes_eq}
use Rattle.dns_message.specs.Name.{wire_length}
use Rattle.dns_message.specs.NameText.{first_unit}
use Rattle.dns_message.specs.declared.name_text.TextUnit.{TextUnit}
use Rattle.dns_message.specs.declared.name_text.TextUnit.TheVariants.{Dot, Byte}
use Rattle.dns_message.specs.declared.fault.NameFault.{NameFault}
use Rattle.dns_message.specs.declared.fault.NameFault.TheVariants.{EmptyLabel, LongLabel, LongName, BadEscape}

-- the units of a text, each with the place of its first byte: a dot, a byte of a label, or a backslash that begins no escape
pub data Spot : Type 0 where
  dot : ℕ → Spot
  byte : ℕ → ℕ → Spot
  bad : ℕ → Spot

-- the unit at a place
abbrev pub spot : ℕ → TextUnit → Spot
spot p Dot = dot p
spot p (Byte b) = byte p b

-- the unit at p and those behind it; a bad escape is the last
abbrev pub spots_by : (ℕ → List ℕ → List Spot) → ℕ → List ℕ → Option (TextUnit × List ℕ) → List Spot
spots_by on p text None = bad p ∷ []
spots_by on p text (Some found) = spot p found.0 ∷ on (p + 1 + (length text - length found.1)) found.1

-- the units of a text of at most so many bytes that begins at p
abbrev pub spots_within : ℕ → ℕ → List ℕ → List Spot
spots_within n p [] = []
spots_within zero p (c ∷ text) = []
spots_within (suc n) p (c ∷ text) = spots_by (spots_within n) p text (first_unit c text)

-- the units of a text that begins at p
unfoldable pub spots_of : ℕ → List ℕ → List Spot
spots_of p text = spots_within (length text) p text

-- a step after a label: the first fault counts
abbrev pub and_then : {A B : Type 0} → Result A NameFault → (A → Result B NameFault) → Result B NameFault
and_then (Ok x) f = f x
and_then (Err e) f = Err e

-- the labels in front and one more, which begins at start and ends at end: it has a byte, and the name still takes at most 255
abbrev pub with_label : List (List ℕ) → ℕ → List ℕ → ℕ → Result (List (List ℕ)) NameFault
with_label front start label end =
    if length label == 0 then Err (EmptyLabel end)
    else (if nat_lt 255 (wire_length front + length label + 1) then Err (LongName start) else Ok (front ++ label ∷ []))

-- the name of these labels, of a label that begins at start and has these bytes so far, and of the units behind them, in a text that ends at end
abbrev pub name_on : ℕ → List (List ℕ) → ℕ → List ℕ → List Spot → Result (List (List ℕ) × Bool) NameFault
name_on end front start label [] = and_then (with_label front start label end) (λ labels. Ok (labels, false))
name_on end front start label (bad p ∷ spots) = Err (BadEscape p)
name_on end front start label (byte p b ∷ spots) = if length label == 63 then Err (LongLabel p) else name_on end front start (label ++ b ∷ []) spots
name_on end front start label (dot p ∷ []) = and_then (with_label front start label p) (λ labels. Ok (labels, true))
name_on end front start label (dot p ∷ next ∷ spots) = and_then (with_label front start label p) (λ labels. name_on end labels (p + 1) [] (next ∷ spots))

-- what stands behind a label that ends at a dot, or with the text
abbrev pub behind_label : List ℕ → ℕ → Bool → List Spot
behind_label text end false = []
behind_label text end true = dot end ∷ spots_of (end + 1) (drop (end + 1) text)

-- the name that a text is and whether it is absolute, or the first fault; the dot alone is the root
abbrev pub name_read : List ℕ → Result (List (List ℕ) × Bool) NameFault
name_read text = if bytes_eq text (codes ".") then Ok ([], true) else name_on (length text) [] 0 [] (spots_of 0 text)

-- the labels in front and those from the index i on, or the first fault, with the index of its label
abbrev pub labels_on : List (List ℕ) → ℕ → List (List ℕ) → Result (List (List ℕ)) NameFault
labels_on front i [] = Ok front
labels_on front i (label ∷ labels) = if nat_lt 63 (length label) then Err (LongLabel i) else and_then (with_label front i label i) (λ front. labels_on front (i + 1) labels)

-- the name that labels are, or the first fault
abbrev pub labels_read : List (List ℕ) → Result (List (List ℕ)) NameFault
labels_read labels = labels_on [] 0 labels
