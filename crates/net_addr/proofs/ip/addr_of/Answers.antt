use Rattle.std.proofs.Common.{◌≡◌, ◌<◌, ◌^◌, ◌∙◌, ℕ, length, get_or, sym, ap, arith, rules}
use Rattle.std.proofs.lemmas.Grind.{common_steps}
use Rattle.std.specs.Net.Addr.{ipv4_bits, ipv6_bits}
use Rattle.net_addr.specs.Addr.{octets, groups}
use Rattle.net_addr.proofs.AddrLemmas.{octets-of_bytes, groups-of_bytes}
use Rattle.net_addr.proofs.ip.addr_of.Goals as goal
use Rattle.net_addr.proofs.ip.addr_of.Goals.{After-to_bits, After-to_bits-in-V6}

octets_fit : (c : After-to_bits) (k : ℕ) → get_or c.in-V4.ip.octets k 0 < 2 ^ 8
octets_fit c = grind (arith, common_steps)

segments_fit : (c : After-to_bits-in-V6) (k : ℕ) → get_or c.in-V6.ip.segments k 0 < 2 ^ 16
segments_fit c = grind (arith, common_steps)

pub returns-in-V4 : goal.returns-in-V4
unfolding ipv4_bits
returns-in-V4 c =
    let o = c.in-V4.ip.octets in
    let four : length o ≡ 4 = search rules in
    rw c.in-V4.is (sym (ap octets c.to_bits.ensures ∙ octets-of_bytes o four (octets_fit c)))

pub returns-in-V6 : goal.returns-in-V6
unfolding ipv6_bits
returns-in-V6 c =
    let s = c.in-V6.ip.segments in
    let eight : length s ≡ 8 = search rules in
    rw c.in-V6.is (sym (ap groups c.to_bits-in-V6.ensures ∙ groups-of_bytes s eight (segments_fit c)))
