-- Which texts an address has, and which of them is printed (RFC 4291, section 2.2; RFC 5952, section 4).
use Rattle.std.specs.Prelude.{◌≡◌, ℕ, ◌^◌, ◌<◌, List}
use Rattle.std.specs.Net.Grammar.{IsColonHex}
use Rattle.std.specs.Net.Text.{ipv4_text, ipv6_text}
use Rattle.net_addr.specs.declared.addr.Addr.{Addr}
use Rattle.net_addr.specs.declared.addr.Addr.TheVariants.{V4, V6}
use Rattle.net_addr.specs.Addr.{octets, groups}

-- The text that is printed. Of an IPv4 address four decimal numbers with dots between them.
-- Of an IPv6 address groups in lower-case hexadecimal without leading zeros, with colons between them, where the
-- longest run of two or more zero groups, the first of equal runs, is `::`; a mapped address ends in its IPv4 address.
abbrev pub text_of : Addr → List ℕ
text_of (V4 a) = ipv4_text (octets a)
text_of (V6 a) = ipv6_text (groups a)

-- The text spells the address. An IPv4 address has one text alone. An IPv6 address has eight groups of one to four
-- hexadecimal digits of either case; one `::` may stand for one zero group or more, and the last two groups may be
-- written as an IPv4 address.
abbrev pub Spells : List ℕ → Addr → Type 0
Spells text (V4 a) = (a < 2 ^ 32) × (text ≡ text_of (V4 a))
Spells text (V6 a) = IsColonHex text (groups a)
