-- Which source serves a destination, and in which order destinations are tried (RFC 6724, sections 5 and 6).
use Rattle.std.specs.Prelude.{ℕ, ◌<◌, Bool, true, false, not, ◌&&◌, ◌||◌, ◌==◌, nat_lt, nat_le, IsTrue, if◌then◌else◌, List, [], ◌∷◌, length, slice_index_or, find, Option, Some, None, is_some, IsPermutation}
use Rattle.std.specs.List.{list_any}
use Rattle.std.specs.List.Sorted.{IsStableBy}
use Rattle.net_addr.specs.declared.addr.Addr.{Addr}
use Rattle.net_addr.specs.declared.addr.Addr.TheVariants.{V4, V6}
use Rattle.net_addr.specs.Mapped.{mapped, is_mapped}
use Rattle.net_addr.specs.Prefix.{common_prefix}
use Rattle.net_addr.specs.Scope.{scope}
use Rattle.dest_sorting.specs.Policy.{precedence, label}

-- The first rule that decides puts x before y. A rule says when it favours one of two; it decides where it favours
-- either over the other.
abbrev pub favoured : {X : Type 0} → List (X → X → Bool) → X → X → Bool
favoured [] x y = false
favoured (favours ∷ rules) x y = favours x y || (not (favours y x) && favoured rules x y)

-- the two are the same address
abbrev pub same : Addr → Addr → Bool
same (V4 a) (V4 b) = a == b
same (V6 a) (V6 b) = a == b
same (V4 a) (V6 b) = false
same (V6 a) (V4 b) = false

-- the two are of one family
abbrev pub same_family : Addr → Addr → Bool
same_family (V4 a) (V4 b) = true
same_family (V6 a) (V6 b) = true
same_family (V4 a) (V6 b) = false
same_family (V6 a) (V4 b) = false

-- the address is neither an IPv4 nor a mapped address
abbrev pub is_native : Addr → Bool
is_native address = not (is_mapped (V6 (mapped address)))

-- how many leading bits the two share
abbrev pub shared : Addr → Addr → ℕ
shared left right = common_prefix (mapped left) (mapped right)

-- source rule 1: the destination itself before other sources
abbrev pub is_destination : Addr → Addr → Addr → Bool
is_destination dest s t = same s dest && not (same t dest)

-- Source rule 2: of two scopes the smaller one, unless it is below the destination's scope; then the greater one.
abbrev pub has_better_scope : Addr → Addr → Addr → Bool
has_better_scope dest s t =
    (nat_lt (scope s) (scope t) && nat_le (scope dest) (scope s))
    || (nat_lt (scope t) (scope s) && nat_lt (scope t) (scope dest))

-- source rule 6: the destination's label before other labels
abbrev pub has_its_label : Addr → Addr → Addr → Bool
has_its_label dest s t = (label s == label dest) && not (label t == label dest)

-- Source rule 8: the longer prefix in common with the destination. IPv4 and mapped addresses are left out, which is
-- our own rule.
abbrev pub is_closer : Addr → Addr → Addr → Bool
is_closer dest s t =
    (is_native dest && is_native s && is_native t) && nat_lt (shared t dest) (shared s dest)

-- The rules of section 5 that can decide here. Nothing is known of addresses that are deprecated, temporary, or at
-- home, nor of interfaces and routers, so rules 3, 4, 5, 5.5 and 7 never decide.
abbrev pub source_rules : Addr → List (Addr → Addr → Bool)
source_rules dest = is_destination dest ∷ has_better_scope dest ∷ has_its_label dest ∷ is_closer dest ∷ []

-- for this destination the source s is before the source t
abbrev pub source_before : Addr → Addr → Addr → Bool
source_before dest s t = favoured (source_rules dest) s t

-- the source is of the destination's family, and no other source of that family is before it
abbrev pub is_chosen : Addr → List Addr → Addr → Bool
is_chosen dest sources s =
    same_family dest s && not (list_any (λ t. same_family dest t && source_before dest t s) sources)

-- the source of a destination: the first of its family that no other is before
abbrev pub source_of : List Addr → Addr → Option Addr
source_of sources dest = find (is_chosen dest sources) sources

-- a destination and its source, if it has one
pub record Served : Type 0 where
  pub address : Addr
  pub source : Option Addr

abbrev pub served : List Addr → Addr → Served
served sources dest = record { address = dest; source = source_of sources dest }

-- the source has the destination's scope; without a source this is false
abbrev pub has_scope : Addr → Option Addr → Bool
has_scope dest None = false
has_scope dest (Some source) = scope dest == scope source

-- the source has the destination's label; without a source this is false
abbrev pub has_label : Addr → Option Addr → Bool
has_label dest None = false
has_label dest (Some source) = label dest == label source

-- How many leading bits a destination shares with its source. IPv4 and mapped destinations are left out.
abbrev pub closeness : Addr → Option Addr → Option ℕ
closeness dest None = None
closeness dest (Some source) = if is_native dest then Some (shared dest source) else None

-- both numbers are there, and the first is greater
abbrev pub exceeds : Option ℕ → Option ℕ → Bool
exceeds (Some left) (Some right) = nat_lt right left
exceeds (Some left) None = false
exceeds None right = false

-- destination rule 1: a destination with a source before one without
abbrev pub is_usable : Served → Served → Bool
is_usable d e = is_some d.source && not (is_some e.source)

-- destination rule 2: a destination of its source's scope before others
abbrev pub is_of_scope : Served → Served → Bool
is_of_scope d e = has_scope d.address d.source && not (has_scope e.address e.source)

-- destination rule 5: a destination of its source's label before others
abbrev pub is_of_label : Served → Served → Bool
is_of_label d e = has_label d.address d.source && not (has_label e.address e.source)

-- destination rule 6: the higher precedence
abbrev pub is_preferred : Served → Served → Bool
is_preferred d e = nat_lt (precedence e.address) (precedence d.address)

-- destination rule 8: the smaller scope
abbrev pub is_narrower : Served → Served → Bool
is_narrower d e = nat_lt (scope d.address) (scope e.address)

-- Destination rule 9: the longer prefix in common with its source. IPv4 and mapped destinations are left out, which
-- is our own rule.
abbrev pub is_nearer : Served → Served → Bool
is_nearer d e = exceeds (closeness d.address d.source) (closeness e.address e.source)

-- The rules of section 6 that can decide here. Nothing is known of addresses that are deprecated or at home, nor of
-- tunnels, so rules 3, 4 and 7 never decide. Where none decides, the order stays: that is rule 10.
abbrev pub destination_rules : List (Served → Served → Bool)
destination_rules = is_usable ∷ is_of_scope ∷ is_of_label ∷ is_preferred ∷ is_narrower ∷ is_nearer ∷ []

-- with these sources the destination d is before e, as a test
abbrev pub destination_before : List Addr → Addr → Addr → Bool
destination_before sources d e = favoured destination_rules (served sources d) (served sources e)

-- with these sources the destination d is before e
abbrev pub DestinationBefore : (sources : List Addr) (d e : Addr) → Type 0
DestinationBefore sources d e = IsTrue (destination_before sources d e)

-- The destinations are sorted. They are the same ones, no later one is before an earlier one, and for each those that no
-- rule parts from it stand in the order in which they were given.
pub record IsSortedBy (sources given sorted : List Addr) : Type 0 where
  pub permutation : IsPermutation given sorted
  pub ordered : (i j : ℕ) (d : Addr) → i < j → j < length sorted
      → DestinationBefore sources (slice_index_or sorted j d) (slice_index_or sorted i d) → ⊥
  pub ties_stay : IsStableBy (destination_before sources) given sorted
