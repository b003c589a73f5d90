-- Which of a machine's addresses are taken as its own, where RFC 6724 asks for sources: eight at most, which is this project's profile.
use Rattle.std.specs.Prelude.{◌/◌, ◌^◌, Bool, true, false, not, ◌&&◌, ◌==◌, nat_lt, if◌then◌else◌, List, [], ◌∷◌, ◌++◌, length}
use Rattle.std.specs.List.{fold, list_any}
use Rattle.net_addr.specs.declared.addr.Addr.{Addr}
use Rattle.net_addr.specs.declared.addr.Addr.TheVariants.{V4, V6}
use Rattle.net_addr.specs.Scope.{scope}

-- an address of loopback: 127.0.0.0/8 (RFC 1122, section 3.2.1.3) or ::1 (RFC 4291, section 2.5.3)
abbrev pub is_loopback : Addr → Bool
is_loopback (V4 bits) = bits / 2 ^ 24 == 127
is_loopback (V6 bits) = bits == 1

-- the two are the same address
abbrev pub is_same : Addr → Addr → Bool
is_same (V4 a) (V4 b) = a == b
is_same (V6 a) (V6 b) = a == b
is_same (V4 a) (V6 b) = false
is_same (V6 a) (V4 b) = false

-- both have one family
abbrev pub has_family_of : Addr → Addr → Bool
has_family_of (V4 a) (V4 b) = true
has_family_of (V6 a) (V6 b) = true
has_family_of (V4 a) (V6 b) = false
has_family_of (V6 a) (V4 b) = false

-- both have one family and scope
abbrev pub is_alike : Addr → Addr → Bool
is_alike left right = has_family_of left right && scope left == scope right

-- the address is one more: not of loopback, from which no other is reached, and not there
abbrev pub is_new : List Addr → Addr → Bool
is_new own address = not (is_loopback address) && not (list_any (is_same address) own)

-- with this address too, if it is one more and there are fewer than eight
abbrev pub with_address : List Addr → Addr → List Addr
with_address own address = if nat_lt (length own) 8 && is_new own address then own ++ address ∷ [] else own

-- with this address too, if it is the first of its family and scope
abbrev pub with_first : List Addr → Addr → List Addr
with_first own address = if list_any (is_alike address) own then own else with_address own address

-- with this address too, if its scope is global (14: RFC 4291, section 2.7)
abbrev pub with_global : List Addr → Addr → List Addr
with_global own address = if scope address == 14 then with_address own address else own

-- the addresses that are taken of those that the system tells: the first of each family and scope, then those of global scope, then the others
abbrev pub chosen_of : List Addr → List Addr
chosen_of told = fold with_address (fold with_global (fold with_first [] told) told) told
