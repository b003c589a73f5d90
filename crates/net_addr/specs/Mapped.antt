-- IPv4 addresses inside IPv6, and which addresses a family has (RFC 4291, section 2.5.5.2).
use Rattle.std.specs.Prelude.{ℕ, ◌+◌, ◌*◌, ◌/◌, ◌^◌, Bool, true, false, ◌==◌}
use Rattle.net_addr.specs.declared.addr.Addr.{Addr}
use Rattle.net_addr.specs.declared.addr.Addr.TheVariants.{V4, V6}
use Rattle.net_addr.specs.declared.addr.Family.{Family}

-- the address as an IPv6 address: an IPv4 address is the last 32 bits of ::ffff:0:0/96
abbrev pub mapped : Addr → ℕ
mapped (V4 a) = 0xffff * 2 ^ 32 + a
mapped (V6 a) = a

-- the address is an IPv6 address in ::ffff:0:0/96
abbrev pub is_mapped : Addr → Bool
is_mapped (V4 a) = false
is_mapped (V6 a) = a / 2 ^ 32 == 0xffff

-- the family has the address
abbrev pub allows : Family → Addr → Bool
allows Family.Any address = true
allows Family.V4 (V4 a) = true
allows Family.V4 (V6 a) = false
allows Family.V6 (V4 a) = false
allows Family.V6 (V6 a) = true
