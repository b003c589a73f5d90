-- When an address of the standard library is one of ours.
use Rattle.std.specs.Prelude.{◌≡◌}
use Rattle.std.specs.declared.net.ip_addr.IpAddr.{IpAddr}
use Rattle.std.specs.declared.net.ip_addr.IpAddr.TheVariants as Ip
use Rattle.std.specs.Net.Addr.{ipv4_octets, ipv6_segments}
use Rattle.net_addr.specs.declared.addr.Addr.{Addr}
use Rattle.net_addr.specs.declared.addr.Addr.TheVariants.{V4, V6}
use Rattle.net_addr.specs.Addr.{octets, groups}

-- the two have the same family and the same numbers
abbrev pub SameIp : IpAddr → Addr → Type 0
SameIp (Ip.V4 ip) (V4 a) = ipv4_octets ip ≡ octets a
SameIp (Ip.V6 ip) (V6 a) = ipv6_segments ip ≡ groups a
SameIp (Ip.V4 ip) (V6 a) = ⊥
SameIp (Ip.V6 ip) (V4 a) = ⊥
