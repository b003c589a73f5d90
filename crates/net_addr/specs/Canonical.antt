-- What the printed text of an address is like (RFC 5952, sections 4 and 5).
use Rattle.std.specs.Prelude.{◌≡◌, ℕ, ◌+◌, ◌%◌, ◌^◌, ◌≤◌, List, ◌++◌, length, take, drop, replicate, codes, nat_lt, MatchBool}
use Rattle.std.specs.Net.Text.{ipv4_text, groups_text}
use Rattle.net_addr.specs.declared.addr.Addr.{Addr}
use Rattle.net_addr.specs.declared.addr.Addr.TheVariants.{V4, V6}
use Rattle.net_addr.specs.Mapped.{is_mapped}
use Rattle.net_addr.specs.Addr.{octets, groups}

-- so many zero groups stand from start on
pub record IsZeroRun (all : List ℕ) (start len : ℕ) : Type 0 where
  pub within : start + len ≤ length all
  pub zeros : take len (drop start all) ≡ replicate len 0

-- no run of zero groups is longer, and of those as long none begins before it
pub record IsFirstLongest (all : List ℕ) (start len : ℕ) : Type 0 where
  pub run : IsZeroRun all start len
  pub longest : (s l : ℕ) → IsZeroRun all s l → l ≤ len
  pub first : (s : ℕ) → IsZeroRun all s len → start ≤ s

-- The text of groups: `::` in place of the first longest run of zero groups, where it has two groups or more,
-- else all groups.
pub record IsShortened (text all : List ℕ) : Type 0 where
  pub start : ℕ
  pub len : ℕ
  pub run : IsFirstLongest all start len
  pub spelled : MatchBool (nat_lt 1 len)
      (text ≡ groups_text (take start all) ++ codes "::" ++ groups_text (drop (start + len) all))
      (text ≡ groups_text all)

-- An IPv4 address is four decimal numbers. A mapped address is `::ffff:` and its IPv4 address. All other addresses
-- are shortened groups.
abbrev pub IsCanonical : List ℕ → Addr → Type 0
IsCanonical text (V4 a) = text ≡ ipv4_text (octets a)
IsCanonical text (V6 a) = MatchBool (is_mapped (V6 a))
    (text ≡ codes "::ffff:" ++ ipv4_text (octets (a % 2 ^ 32)))
    (IsShortened text (groups a))
