-- What a domain name is (RFC 1035, sections 2.3.4 and 3.1): its labels, and its length on the wire.
use Rattle.std.specs.Prelude.{◌≡◌, ℕ, ◌+◌, ◌≤◌, Bool, false, nat_le, if◌then◌else◌, List, [], ◌∷◌, ◌++◌, length, map, Option, Some, None}
use Rattle.std.specs.List.{AllByRecursion}
use Rattle.std.specs.Char.{to_ascii_lowercase}
use Rattle.std.specs.Str.{bytes_eq}
use Rattle.std.specs.Cmp.Lexicographic.{pointwise}

-- a label has 1 to 63 bytes
pub record IsLabel (label : List ℕ) : Type 0 where
  pub some : 1 ≤ length label
  pub few : length label ≤ 63

-- how many bytes the labels take on the wire: a length byte before each, and the root's byte at the end
abbrev pub wire_length : List (List ℕ) → ℕ
wire_length [] = 1
wire_length (label ∷ labels) = length label + 1 + wire_length labels

-- the labels make a name: each is a label, and together they take at most 255 bytes
pub record IsName (labels : List (List ℕ)) : Type 0 where
  pub each : AllByRecursion IsLabel labels
  pub short : wire_length labels ≤ 255

-- the two labels are the same, ignoring ASCII case
abbrev pub SameLabel : List ℕ → List ℕ → Type 0
SameLabel label other = map to_ascii_lowercase label ≡ map to_ascii_lowercase other

-- the two names are the same: they have the same labels one by one, ignoring ASCII case (RFC 4343, section 3)
abbrev pub SameName : List (List ℕ) → List (List ℕ) → Type 0
SameName labels others = map (map to_ascii_lowercase) labels ≡ map (map to_ascii_lowercase) others

-- the test whether two names are the same
abbrev pub same_name : List (List ℕ) → List (List ℕ) → Bool
same_name labels others = pointwise bytes_eq (map (map to_ascii_lowercase) labels) (map (map to_ascii_lowercase) others)

-- the last label is that one, ignoring ASCII case; the root has none
abbrev pub LastIs : List (List ℕ) → List ℕ → Type 0
LastIs [] label = ⊥
LastIs (last ∷ []) label = SameLabel last label
LastIs (first ∷ second ∷ labels) label = LastIs (second ∷ labels) label

-- the test whether the last label is that one
abbrev pub last_is : List ℕ → List (List ℕ) → Bool
last_is label [] = false
last_is label (last ∷ []) = bytes_eq (map to_ascii_lowercase last) (map to_ascii_lowercase label)
last_is label (first ∷ second ∷ labels) = last_is label (second ∷ labels)

-- the labels of a name and then those of a domain, where they take at most 255 bytes
abbrev pub joined_name : List (List ℕ) → List (List ℕ) → Option (List (List ℕ))
joined_name labels domain = if nat_le (wire_length (labels ++ domain)) 255 then Some (labels ++ domain) else None
