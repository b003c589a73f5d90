-- How a name is held: its labels one behind the other, each behind its length, as on the wire without the root's byte (RFC 1035, section 3.1).
use Rattle.std.specs.Prelude.{◌≡◌, ℕ, zero, suc, List, [], ◌∷◌, length, take, drop}
use Rattle.std.specs.List.{flat_map}
use Rattle.dns_message.specs.Name.{IsName}

-- a label: its length, and its bytes
abbrev pub label_bytes : List ℕ → List ℕ
label_bytes label = length label ∷ label

-- labels, one behind the other
abbrev pub wire_bytes : List (List ℕ) → List ℕ
wire_bytes labels = flat_map label_bytes labels

-- the labels that stand one behind the other in bytes, of which there are at most so many
abbrev pub labels_within : ℕ → List ℕ → List (List ℕ)
labels_within n [] = []
labels_within zero (len ∷ bytes) = []
labels_within (suc n) (len ∷ bytes) = take len bytes ∷ labels_within n (drop len bytes)

-- the labels that stand one behind the other in bytes
unfoldable pub labels_in : List ℕ → List (List ℕ)
labels_in bytes = labels_within (length bytes) bytes

-- the bytes are labels, one behind the other
abbrev pub AreLabels : List ℕ → Type 0
AreLabels bytes = bytes ≡ wire_bytes (labels_in bytes)

-- the bytes are the labels of a name, of which there are so many
pub record IsWire (bytes : List ℕ) (many : ℕ) : Type 0 where
  pub name : IsName (labels_in bytes)
  pub spelled : AreLabels bytes
  pub count : many ≡ length (labels_in bytes)
