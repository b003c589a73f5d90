-- Where the records of a name stand among those of a zone, and the map that tells it.
use Rattle.std.specs.Prelude.{◌≡◌, ℕ, ◌+◌, Bool, if◌then◌else◌, List, [], ◌∷◌, ◌++◌, map, bytes_eq}
use Rattle.std.specs.Option.{option_map_or}
use Rattle.std.specs.List.{AllByRecursion}
use Rattle.std.specs.Char.{to_ascii_lowercase}
use Rattle.std.specs.Cmp.Lexicographic.{slice_cmp}
use Rattle.std.specs.Ordering.{nat_cmp}
use Rattle.std.specs.BTreeMap.{BTreeMap, get_by}
use Rattle.std.specs.Global.{Vec}
use Rattle.dns_message.specs.Name.{IsName}
use Rattle.dns_message.specs.Wire.{wire_bytes}
use Rattle.dns_message.specs.declared.message.Record.{Record}

-- a name's labels in lower case, each behind its length
abbrev pub key_of : List (List ℕ) → List ℕ
key_of name = map to_ascii_lowercase (wire_bytes name)

-- the record's name has this key
abbrev pub has_key : List ℕ → Record → Bool
has_key key rr = bytes_eq (key_of rr.name) key

-- where those stand that pass a test, where the first has this index
abbrev pub places_from : {X : Type 0} → ℕ → (X → Bool) → List X → List ℕ
places_from index test [] = []
places_from index test (x ∷ xs) = if test x then index ∷ places_from (index + 1) test xs else places_from (index + 1) test xs

-- a map from names to indexes
abbrev pub Indexes : Type 0
Indexes = BTreeMap (Vec ℕ) (Vec ℕ)

-- the indexes that a map has at a key; without the key it has none
abbrev pub places_at : Indexes → List ℕ → List ℕ
places_at by_name key = option_map_or (λ indexes. indexes.items) (get_by (λ other. slice_cmp nat_cmp key other.items) by_name) []

-- the map has one more index at the key, and at the others what it had
abbrev pub with_index : Indexes → List ℕ → ℕ → Indexes → Type 0
with_index old key index new = (other : List ℕ) → places_at new other ≡ places_at old other ++ (if bytes_eq key other then index ∷ [] else [])

-- what a zone keeps: each record's name is a name, and the map has at each key the indexes of the records whose name has it
pub record IsIndexed (by_name : Indexes) (records : List Record) : Type 0 where
  pub names : AllByRecursion (λ rr. IsName rr.name) records
  pub places : (key : List ℕ) → places_at by_name key ≡ places_from 0 (has_key key) records
