-- What words ask.
use Rattle.std.specs.Prelude.{ℕ, List, [], ◌∷◌, Option, Some, None, if◌then◌else◌, bytes_eq, codes}
use Rattle.chan_types.specs.declared.spec.Spec.{Spec}
use Rattle.chan_types.specs.declared.spec.Spec.TheVariants.{Query, Search, Address, Reverse}
use Rattle.journal_text.specs.Words.{Word}
use Rattle.journal_text.specs.Reads.{Found, ◌>>=◌}
use Rattle.journal_text.specs.Atoms.{number_from, truth_from, bytes_from, address_from, family_from}

-- a name, and the numbers of a record type and a class
unfoldable pub named_from : (List ℕ → ℕ → ℕ → Spec) → List Word → Found Spec
named_from of words = do
  name ← bytes_from words
  kind ← number_from 65535 name.1
  class ← number_from 65535 kind.1
  Some (of name.0 kind.0 class.0, class.1)

-- a host, a family, and whether its addresses stay unsorted
unfoldable pub host_from : List Word → Found Spec
host_from words = do
  host ← bytes_from words
  family ← family_from host.1
  nosort ← truth_from family.1
  Some (Address host.0 family.0 nosort.0, nosort.1)

-- an address
unfoldable pub reverse_from : List Word → Found Spec
reverse_from words = do
  address ← address_from words
  Some (Reverse address.0, address.1)

-- a request, by its letter
unfoldable pub spec_from : List Word → Found Spec
spec_from [] = None
spec_from (kind ∷ words) =
    if bytes_eq kind (codes "q") then named_from Query words
    else (if bytes_eq kind (codes "s") then named_from Search words
    else (if bytes_eq kind (codes "a") then host_from words
    else (if bytes_eq kind (codes "r") then reverse_from words
    else None)))
