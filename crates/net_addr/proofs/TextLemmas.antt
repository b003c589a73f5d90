-- A text spells one address at most, and it is std's.
use Rattle.std.proofs.Common.{◌≡◌, ℕ, ◌/◌, ◌%◌, ◌^◌, ◌<◌, List, [], get_or, refl, sym, ap, ◌∙◌, subst, lit≤, arith}
use Rattle.std.specs.declared.net.ip_addr.IpAddr.{IpAddr}
use Rattle.std.specs.declared.net.ip_addr.IpAddr.TheVariants as Ip
use Rattle.std.specs.Net.Grammar.{IsDotted, IsColonHex, IsIpText}
use Rattle.std.specs.Net.Text.{ipv4_text}
use Rattle.std.proofs.NetLemmas.Options.{same_parts}
use Rattle.std.proofs.NetLemmas.Ipv4.{read_ipv4_complete}
use Rattle.std.proofs.NetLemmas.Ipv6.{read_ipv6_complete, EndsGroups-nil, IsDotted-not_colon_hex}
use Rattle.std.proofs.NetLemmas.Texts.{IsColonHex-ipv6_text}
use Rattle.net_addr.specs.declared.addr.Addr.{Addr}
use Rattle.net_addr.specs.declared.addr.Addr.TheVariants.{V4, V6}
use Rattle.net_addr.specs.Ip.{SameIp}
use Rattle.net_addr.specs.Addr.{IsAddr, octets, groups}
use Rattle.net_addr.specs.Text.{text_of, Spells}
use Rattle.net_addr.proofs.AddrLemmas.{octets_injective, groups_injective, groups_fit}

one_dotted : (text o p : List ℕ) → IsDotted text o → IsDotted text p → o ≡ p
one_dotted text o p h k =
    (same_parts _ _ _ _ (sym (read_ipv4_complete text o [] h (lit≤ tt)) ∙ read_ipv4_complete text p [] k (lit≤ tt))).0

one_colon_hex : (text s t : List ℕ) → IsColonHex text s → IsColonHex text t → s ≡ t
one_colon_hex text s t h k =
    (same_parts _ _ _ _ (sym (read_ipv6_complete text s [] h EndsGroups-nil) ∙ read_ipv6_complete text t [] k EndsGroups-nil)).0

-- the text of an IPv4 address is dotted, and no other text is
dotted_text_is : (a : ℕ) → a < 2 ^ 32 → IsDotted (ipv4_text (octets a)) (octets a)
dotted_text_is a small = record {
  a = a / 2 ^ 24;
  b = a / 2 ^ 16 % 2 ^ 8;
  c = a / 2 ^ 8 % 2 ^ 8;
  d = a % 2 ^ 8;
  fit = omega arith;
  value = refl;
  spelled = refl;
}

small_from_dotted : (text : List ℕ) (a : ℕ) → IsDotted text (octets a) → a < 2 ^ 32
small_from_dotted text a h =
    let first : a / 2 ^ 24 ≡ h.a = ap (λ xs. get_or xs 0 0) h.value in
    omega (arith, h.fit)

pub dotted_by_spelling : (text : List ℕ) (a : ℕ) → Spells text (V4 a) → IsDotted text (octets a)
dotted_by_spelling text a h = subst (λ t. IsDotted t (octets a)) (sym h.1) (dotted_text_is a h.0)

pub spelled_by_octets : (text : List ℕ) (a : ℕ) → IsDotted text (octets a) → Spells text (V4 a)
spelled_by_octets text a h = (small_from_dotted text a h, h.spelled ∙ ap ipv4_text (sym h.value))

-- what std's grammar says of an address, and ours
pub spelled_by_ip : (text : List ℕ) (ip : IpAddr) (a : Addr) → IsIpText text ip → SameIp ip a → Spells text a
spelled_by_ip text (Ip.V4 ip) (V4 a) h same = spelled_by_octets text a (subst (IsDotted text) same h)
spelled_by_ip text (Ip.V4 ip) (V6 a) h same = absurd same
spelled_by_ip text (Ip.V6 ip) (V4 a) h same = absurd same
spelled_by_ip text (Ip.V6 ip) (V6 a) h same = subst (IsColonHex text) same h

-- each address is std's too
ip_by_spelling : (text : List ℕ) (a : Addr) → Spells text a → (ip : IpAddr) × IsIpText text ip × SameIp ip a
ip_by_spelling text (V4 a) h =
    (Ip.V4 (record { octets = octets a }), dotted_by_spelling text a h, refl)
ip_by_spelling text (V6 a) h = (Ip.V6 (record { segments = groups a }), h, refl)

pub no_spelling : (text : List ℕ) → ((ip : IpAddr) → ¬ (IsIpText text ip)) → (a : Addr) → ¬ (Spells text a)
no_spelling text none a k = let ip = ip_by_spelling text a k in none ip.0 ip.1

-- one text spells one address
pub one_address : (text : List ℕ) (a b : Addr) → Spells text a → Spells text b → a ≡ b
one_address text (V4 a) (V4 b) h k =
    ap V4 (octets_injective a b (one_dotted text _ _ (dotted_by_spelling text a h) (dotted_by_spelling text b k)))
one_address text (V4 a) (V6 b) h k = absurd (IsDotted-not_colon_hex text _ _ (dotted_by_spelling text a h) k)
one_address text (V6 a) (V4 b) h k = absurd (IsDotted-not_colon_hex text _ _ (dotted_by_spelling text b k) h)
one_address text (V6 a) (V6 b) h k = ap V6 (groups_injective a b (one_colon_hex text _ _ h k))

-- what is printed spells the address
pub spelled_by_text : (a : Addr) → IsAddr a → Spells (text_of a) a
spelled_by_text (V4 a) fits = (fits, refl)
spelled_by_text (V6 a) fits = IsColonHex-ipv6_text (groups a) refl (groups_fit a fits)
