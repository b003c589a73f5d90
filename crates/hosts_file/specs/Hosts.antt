-- What a hosts file says of a name: the addresses that it has, and its canonical name (hosts(5)).
use Rattle.std.specs.Prelude.{ℕ, Bool, ◌&&◌, List, [], ◌∷◌, map, filter, Option, Some, None}
use Rattle.std.specs.List.{list_any}
use Rattle.dns_message.specs.Name.{same_name}
use Rattle.net_addr.specs.declared.addr.Addr.{Addr}
use Rattle.net_addr.specs.declared.addr.Family.{Family}
use Rattle.net_addr.specs.Mapped.{allows}
use Rattle.hosts_file.specs.declared.hosts.HostLine.{HostLine}

-- the names of a line: the canonical one, and its aliases
abbrev pub names_of : HostLine → List (List (List ℕ))
names_of line = line.canonical ∷ line.aliases

-- the line has the name, ignoring ASCII case
abbrev pub has_name : List (List ℕ) → HostLine → Bool
has_name name line = list_any (same_name name) (names_of line)

-- the line gives the name an address of the family
abbrev pub serves : List (List ℕ) → Family → HostLine → Bool
serves name family line = allows family line.address && has_name name line

-- the lines that give the name an address of the family, in file order
abbrev pub lines_for : List (List ℕ) → Family → List HostLine → List HostLine
lines_for name family hosts = filter (serves name family) hosts

-- the addresses of the name that the family allows, in file order
abbrev pub addresses_of : List (List ℕ) → Family → List HostLine → List Addr
addresses_of name family hosts = map (λ line. line.address) (lines_for name family hosts)

-- the canonical name of the first of some lines
abbrev pub first_canonical : List HostLine → Option (List (List ℕ))
first_canonical [] = None
first_canonical (line ∷ lines) = Some line.canonical

-- the canonical name of the name: that of the first line that gives it an address of the family
abbrev pub canonical_of : List (List ℕ) → Family → List HostLine → Option (List (List ℕ))
canonical_of name family hosts = first_canonical (lines_for name family hosts)
