-- The index of a hosts file: its names by a hash of each (this project's own form).
use Rattle.std.specs.Prelude.{ℕ, ◌+◌, ◌/◌, ◌^◌, ◌<◌, ◌≡◌, true, Bool, ◌==◌, List, [], ◌∷◌, ◌++◌, length, map, slice_index_or}
use Rattle.std.specs.Char.{to_ascii_lowercase}
use Rattle.std.specs.Hash.FoldHasher.{initial, write, finish}
use Rattle.std.specs.List.{All, Contains, fold}
use Rattle.std.specs.List.Sorted.{IsSorted, IsPermutation, IsNonDecreasingBy}
use Rattle.std.specs.Ordering.{nat_cmp, ordering_then}
use Rattle.std.specs.declared.cmp.Ordering.{Ordering}
use Rattle.dns_message.specs.Wire.{wire_bytes}
use Rattle.hosts_file.specs.declared.hosts.HostLine.{HostLine}
use Rattle.hosts_file.specs.declared.index.HashedName.{HashedName}
use Rattle.hosts_file.specs.Hosts.{names_of, has_name}

-- what is hashed of a name: its labels in lower case, each behind its length
abbrev pub hash_input : List (List ℕ) → List ℕ
hash_input name = map to_ascii_lowercase (wire_bytes name)

-- the hash of a name: the upper half of what the hasher makes of those bytes, one by one
abbrev pub hash_of : List (List ℕ) → ℕ
hash_of name = finish (fold (λ hasher byte. write hasher (byte ∷ [])) initial (hash_input name)) / 2 ^ 32

-- a name of the line with this number, by its hash
abbrev pub hashed : ℕ → List (List ℕ) → HashedName
hashed number name = record { hash = hash_of name; line = number }

-- the names of lines, by their hashes, where the first line has this number
abbrev pub hashed_names : ℕ → List HostLine → List HashedName
hashed_names number [] = []
hashed_names number (line ∷ lines) = map (hashed number) (names_of line) ++ hashed_names (number + 1) lines

-- the order of hashed names: by the hash, then by the line's number
abbrev pub hashed_cmp : HashedName → HashedName → Ordering
hashed_cmp x y = ordering_then (nat_cmp x.hash y.hash) (nat_cmp x.line y.line)

-- these are the names of the lines, in order
pub record IsNameIndex (lines : List HostLine) (names : List HashedName) : Type 0 where
  pub sorted : IsSorted hashed_cmp names
  pub permutation : IsPermutation (hashed_names 0 lines) names

-- the hashed name has this hash
abbrev pub has_hash : ℕ → HashedName → Bool
has_hash hash name = name.hash == hash

-- these lead to all lines that have the name, in file order; they may lead to others too, and to a line more than once
pub record LeadToLines (name : List (List ℕ)) (lines : List HostLine) (found : List HashedName) : Type 0 where
  pub in_order : IsNonDecreasingBy (λ like. like.line) found
  pub all_lines : (number : ℕ) (d : HostLine) → number < length lines → has_name name (slice_index_or lines number d) ≡ true → Contains found (hashed number name)
  pub within : All (λ like. like.line < length lines) found
