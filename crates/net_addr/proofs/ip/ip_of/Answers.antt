use Rattle.std.proofs.Common.{◌∙◌, arith}
use Rattle.std.specs.Net.Addr.{IsIpv4OfBits, IsIpv6OfBits}
use Rattle.net_addr.proofs.AddrLemmas.{octets-bytes, groups-bytes}
use Rattle.net_addr.proofs.ip.ip_of.Goals as goal

pub returns-in-V4-clause-same : goal.returns-in-V4-clause-same
unfolding IsIpv4OfBits
returns-in-V4-clause-same c = rw c.in-V4.is (c.from_bits.ensures ∙ octets-bytes c.in-V4.bits (omega arith))

pub returns-in-V6-clause-same : goal.returns-in-V6-clause-same
unfolding IsIpv6OfBits
returns-in-V6-clause-same c = rw c.in-V6.is (c.from_bits-in-V6.ensures ∙ groups-bytes c.in-V6.bits (omega arith))
