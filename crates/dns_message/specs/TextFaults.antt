-- The first fault of a text or of labels that are no name, as a fact on them: what stands in front of it is in order,
-- and there it fails (RFC 1035, sections 2.3.4 and 5.1; RFC 4343, section 2.1).
-- Offsets count the text's bytes; of labels they are indexes.
use Rattle.std.specs.Prelude.{◌≡◌, ◌≢◌, ◌⊎◌, ℕ, ◌+◌, ◌<◌, ◌≤◌, List, [], ◌∷◌, ◌++◌, length, drop, slice_index, Some, None, codes}
use Rattle.dns_message.specs.Name.{IsName, wire_length}
use Rattle.dns_message.specs.NameText.{escaped}
use Rattle.dns_message.specs.declared.fault.NameFault.{NameFault}
use Rattle.dns_message.specs.declared.fault.NameFault.TheVariants.{EmptyLabel, LongLabel, LongName, BadEscape, NoMemory}

-- a dot stands at p
abbrev pub HasDot : List ℕ → ℕ → Type 0
HasDot text p = (p < length text) × (slice_index text p ≡ 46)

-- a byte of a label stands at p, and next is the offset behind it: any but a dot and a backslash is itself,
-- and a backslash begins an escape
pub data HasByte (text : List ℕ) (p : ℕ) : ℕ → ℕ → Type 0 where
  plain : p < length text → slice_index text p ≢ 46 → slice_index text p ≢ 92
      → HasByte text p (slice_index text p) (p + 1)
  quoted : (b next : ℕ) → p < length text → slice_index text p ≡ 92
      → escaped (drop (p + 1) text) ≡ Some (b, drop next text)
      → p + 1 ≤ next → next ≤ length text → HasByte text p b next

-- a backslash stands at p that begins no escape
abbrev pub HasBadEscape : List ℕ → ℕ → Type 0
HasBadEscape text p =
    (p < length text) × (slice_index text p ≡ 92) × (escaped (drop (p + 1) text) ≡ None)

-- a label can end at p: at a dot, or with the text
abbrev pub EndsLabel : List ℕ → ℕ → Type 0
EndsLabel text p = HasDot text p ⊎ (p ≡ length text)

-- all is in order up to p: labels in front that are a name, each with a dot behind it, and from start on these bytes
-- of a label, at most 63; a dot that ends the text has no label behind it
pub data IsInOrder (text : List ℕ) : ℕ → ℕ → List (List ℕ) → List ℕ → Type 0 where
  begins : IsInOrder text 0 0 [] []
  over_byte : (start p : ℕ) (front : List (List ℕ)) (label : List ℕ) (b next : ℕ) → IsInOrder text start p front label
      → HasByte text p b next → length label < 63 → IsInOrder text start next front (label ++ b ∷ [])
  over_dot : (start p : ℕ) (front : List (List ℕ)) (label : List ℕ) → IsInOrder text start p front label
      → HasDot text p → p + 1 < length text → 1 ≤ length label → wire_length (front ++ label ∷ []) ≤ 255
      → IsInOrder text (p + 1) (p + 1) (front ++ label ∷ []) []

-- the text fails at p, in a label that begins at start and has these bytes so far, behind those labels: the label ends
-- and has no byte, a 64th byte stands there, the label ends and makes the name longer than 255 bytes,
-- or a backslash begins no escape
abbrev pub FailsAt : List ℕ → ℕ → ℕ → List (List ℕ) → List ℕ → NameFault → Type 0
FailsAt text start p front label (EmptyLabel at) = (at ≡ p) × EndsLabel text p × (length label ≡ 0)
FailsAt text start p front label (LongLabel at) =
    (at ≡ p) × (length label ≡ 63) × (b : ℕ) × (next : ℕ) × HasByte text p b next
FailsAt text start p front label (LongName at) =
    (at ≡ start) × EndsLabel text p × (1 ≤ length label) × (255 < wire_length (front ++ label ∷ []))
FailsAt text start p front label (BadEscape at) = (at ≡ p) × HasBadEscape text p
FailsAt text start p front label NoMemory = ⊥

-- the first fault of a text, from the left; the dot alone is the root and has none
pub record FirstTextFault (text : List ℕ) (fault : NameFault) : Type 0 where
  pub start : ℕ
  pub at : ℕ
  pub front : List (List ℕ)
  pub label : List ℕ
  pub no_root : text ≢ codes "."
  pub order : IsInOrder text start at front label
  pub fails : FailsAt text start at front label fault

-- the label at an index spoils the name of those in front of it: it has no byte, more than 63,
-- or makes the name longer than 255 bytes
abbrev pub SpoilsAt : ℕ → List (List ℕ) → List ℕ → NameFault → Type 0
SpoilsAt i front label (EmptyLabel at) = (at ≡ i) × (length label ≡ 0)
SpoilsAt i front label (LongLabel at) = (at ≡ i) × (63 < length label)
SpoilsAt i front label (LongName at) =
    (at ≡ i) × (1 ≤ length label) × (length label ≤ 63) × (255 < wire_length (front ++ label ∷ []))
SpoilsAt i front label (BadEscape at) = ⊥
SpoilsAt i front label NoMemory = ⊥

-- the first fault of labels: those in front of it are a name, and it spoils that
pub record FirstLabelFault (labels : List (List ℕ)) (fault : NameFault) : Type 0 where
  pub front : List (List ℕ)
  pub label : List ℕ
  pub behind : List (List ℕ)
  pub parts : labels ≡ front ++ label ∷ behind
  pub name : IsName front
  pub spoils : SpoilsAt (length front) front label fault
