-- When an address of the standard library is a server's.
use Rattle.std.specs.Net.Addr.{IsIpv4OfBits, IsIpv6OfBits}
use Rattle.std.specs.declared.net.ip_addr.IpAddr.{IpAddr}
use Rattle.std.specs.declared.net.ip_addr.IpAddr.TheVariants as Ip
use Rattle.net_addr.specs.declared.addr.Addr.{Addr}
use Rattle.net_addr.specs.declared.addr.Addr.TheVariants.{V4, V6}

-- the two have the same family and the same number
abbrev pub IsAddressOf : Addr → IpAddr → Type 0
IsAddressOf (V4 bits) (Ip.V4 ip) = IsIpv4OfBits ip bits
IsAddressOf (V6 bits) (Ip.V6 ip) = IsIpv6OfBits ip bits
IsAddressOf (V4 bits) (Ip.V6 ip) = ⊥
IsAddressOf (V6 bits) (Ip.V4 ip) = ⊥
