-- The policy table of RFC 6724 (section 2.1): which addresses are tried first, and which go together.
use Rattle.std.specs.Prelude.{ℕ, ◌*◌, ◌^◌, Bool, List, [], ◌∷◌, fold, filter, nat_lt, if◌then◌else◌}
use Rattle.net_addr.specs.declared.addr.Addr.{Addr}
use Rattle.net_addr.specs.Mapped.{mapped}
use Rattle.net_addr.specs.Prefix.{agree}
use Rattle.dest_sorting.specs.declared.policy.Policy.{Policy}

-- a row: the addresses that begin as the prefix does, in so many bits, with their precedence and their label
abbrev pub row : (prefix bits precedence label : ℕ) → Policy
row prefix bits precedence label = record { prefix = prefix; bits = bits; precedence = precedence; label = label }

-- ::/0, which every address has
abbrev pub everything : Policy
everything = row 0 0 40 1

-- the default policy table
abbrev pub table : List Policy
table =
    row 1 128 50 0  -- ::1/128
    ∷ everything  -- ::/0
    ∷ row (0xffff * 2 ^ 32) 96 35 4  -- ::ffff:0:0/96
    ∷ row (0x2002 * 2 ^ 112) 16 30 2  -- 2002::/16
    ∷ row (0x2001 * 2 ^ 112) 32 5 5  -- 2001::/32
    ∷ row (0xfc00 * 2 ^ 112) 7 3 13  -- fc00::/7
    ∷ row 0 96 1 3  -- ::/96
    ∷ row (0xfec0 * 2 ^ 112) 10 1 11  -- fec0::/10
    ∷ row (0x3ffe * 2 ^ 112) 16 1 12  -- 3ffe::/16
    ∷ []

-- the address has the row's prefix
abbrev pub covers : ℕ → Policy → Bool
covers address policy = agree address policy.prefix policy.bits

-- of two rows that with the longer prefix
abbrev pub longer : Policy → Policy → Policy
longer best policy = if nat_lt best.bits policy.bits then policy else best

-- of the rows whose prefix the address has, that with the longest
abbrev pub policy_of : ℕ → Policy
policy_of address = fold longer everything (filter (covers address) table)

-- the precedence of an address; an IPv4 address is looked up as mapped
abbrev pub precedence : Addr → ℕ
precedence address = (policy_of (mapped address)).precedence

-- the label of an address; an IPv4 address is looked up as mapped
abbrev pub label : Addr → ℕ
label address = (policy_of (mapped address)).label
