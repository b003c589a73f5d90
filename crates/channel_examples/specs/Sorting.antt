-- Addresses in the order in which they are tried (the first list is an example of RFC 6724, section 10.2).
use Rattle.std.specs.Prelude.{List, ◌*◌, ◌^◌, ◌+◌, ◌∷◌, [], ◌≡◌, refl}
use Rattle.net_addr.specs.declared.addr.Addr.{Addr}
use Rattle.net_addr.specs.declared.addr.Addr.TheVariants.{V6, V4}
use Rattle.channel_model.specs.Merge.{sorted}
use Rattle.net_addr.specs.Prefix as Prefix

-- 2001:db8:1::2, fe80::1 and 169.254.13.78
abbrev pub sources : List Addr
sources = V6 (0x20010db80001 * 2 ^ 80 + 2) ∷ V6 (0xfe80 * 2 ^ 112 + 1) ∷ V4 2851999054 ∷ []

-- a destination of its source's scope comes first
pub by_scope : sorted sources (V4 3325256825 ∷ V6 (0x20010db80001 * 2 ^ 80 + 1) ∷ []) ≡ V6 (0x20010db80001 * 2 ^ 80 + 1) ∷ V4 3325256825 ∷ []
unfolding Prefix.common_prefix
by_scope = refl

-- without sources the precedence decides, then the smaller scope: fe80::1, 2001:db8::5, 192.0.2.1
pub by_precedence : sorted [] (V4 3221225985 ∷ V6 (0x20010db8 * 2 ^ 96 + 5) ∷ V6 (0xfe80 * 2 ^ 112 + 1) ∷ []) ≡ V6 (0xfe80 * 2 ^ 112 + 1) ∷ V6 (0x20010db8 * 2 ^ 96 + 5) ∷ V4 3221225985 ∷ []
unfolding Prefix.common_prefix
by_precedence = refl

-- where no rule decides, the order stays
pub ties_stay : sorted [] (V4 2 ∷ V4 1 ∷ V4 3 ∷ []) ≡ V4 2 ∷ V4 1 ∷ V4 3 ∷ []
unfolding Prefix.common_prefix
ties_stay = refl
