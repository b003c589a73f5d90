-- How far an address reaches, as a number (RFC 6724, section 3; RFC 4291, section 2.7).
use Rattle.std.specs.Prelude.{ℕ, ◌-◌, ◌/◌, ◌%◌, ◌^◌, Bool, ◌==◌, ◌||◌, if◌then◌else◌}
use Rattle.net_addr.specs.declared.addr.Addr.{Addr}
use Rattle.net_addr.specs.declared.addr.Addr.TheVariants.{V4, V6}

-- the address of so many bits begins with the first bits of a group, as fe80::/10
abbrev pub has_prefix : ℕ → ℕ → ℕ → ℕ → Bool
has_prefix width a group bits = a / 2 ^ (width - bits) == group / 2 ^ (16 - bits)

-- an IPv4 address has link-local scope in 169.254.0.0/16 and 127.0.0.0/8, else global scope
abbrev pub scope_v4 : ℕ → ℕ
scope_v4 a = if has_prefix 32 a 0xa9fe 16 || has_prefix 32 a 0x7f00 8 then 2 else 14

-- An IPv6 address of ff00::/8 has the low four bits of its second byte. Those of fe80::/10 and ::1 have link-local
-- scope, those of fec0::/10 site-local scope, mapped addresses that of their IPv4 address, all others global scope.
abbrev pub scope_v6 : ℕ → ℕ
scope_v6 a =
    if has_prefix 128 a 0xff00 8 then a / 2 ^ 112 % 2 ^ 4
    else (if has_prefix 128 a 0xfe80 10 || (a == 1) then 2
    else (if has_prefix 128 a 0xfec0 10 then 5
    else (if a / 2 ^ 32 == 0xffff then scope_v4 (a % 2 ^ 32)
    else 14)))

-- the scope of an address
abbrev pub scope : Addr → ℕ
scope (V4 a) = scope_v4 a
scope (V6 a) = scope_v6 a
