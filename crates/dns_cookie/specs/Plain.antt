-- A query in the form in which most are written: one question whose name has no pointer, and behind it an empty OPT record alone.
use Rattle.std.specs.Prelude.{◌≡◌, ℕ, ◌+◌, ◌-◌, ◌<◌, ◌==◌, ◌&&◌, Bool, List, [], ◌∷◌, ◌++◌, length, take, slice_index}
use Rattle.std.specs.Int.{w16, to_be_bytes}
use Rattle.byteorder.specs.Endian.{big_from}
use Rattle.dns_message.specs.Name.{IsName}
use Rattle.dns_message.specs.Wire.{wire_bytes}
use Rattle.edns_opt.specs.Options.{option_spelling}
use Rattle.dns_cookie.specs.Cookie.{cookie_option}

-- a header with one question and one additional record, and these bytes behind it (RFC 1035, section 4.1.1)
pub record IsHeaded (query behind : List ℕ) : Type 0 where
  pub id_high : ℕ
  pub id_low : ℕ
  pub flags_high : ℕ
  pub flags_low : ℕ
  pub parts : query ≡ id_high ∷ id_low ∷ flags_high ∷ flags_low ∷ 0 ∷ 1 ∷ 0 ∷ 0 ∷ 0 ∷ 0 ∷ 0 ∷ 1 ∷ behind
  pub id_high_fits : id_high < 256
  pub id_low_fits : id_low < 256
  pub flags_high_fits : flags_high < 256
  pub flags_low_fits : flags_low < 256

-- the root's zero byte, a question's kind and class, and an OPT record without options, whose owner is the root (RFC 6891, section 6.1.2)
pub record IsEnding (bytes : List ℕ) : Type 0 where
  pub kind_high : ℕ
  pub kind_low : ℕ
  pub class_high : ℕ
  pub class_low : ℕ
  pub size_high : ℕ
  pub size_low : ℕ
  pub ttl_first : ℕ
  pub ttl_second : ℕ
  pub ttl_third : ℕ
  pub ttl_fourth : ℕ
  pub parts : bytes ≡ 0 ∷ kind_high ∷ kind_low ∷ class_high ∷ class_low ∷ 0 ∷ 0 ∷ 41 ∷ size_high ∷ size_low ∷ ttl_first ∷ ttl_second ∷ ttl_third ∷ ttl_fourth ∷ 0 ∷ 0 ∷ []
  pub kind_high_fits : kind_high < 256
  pub kind_low_fits : kind_low < 256
  pub class_high_fits : class_high < 256
  pub class_low_fits : class_low < 256
  pub size_high_fits : size_high < 256
  pub size_low_fits : size_low < 256
  pub ttl_first_fits : ttl_first < 256
  pub ttl_second_fits : ttl_second < 256
  pub ttl_third_fits : ttl_third < 256
  pub ttl_fourth_fits : ttl_fourth < 256

-- the query has that form
pub record IsPlain (query : List ℕ) : Type 0 where
  pub labels : List (List ℕ)
  pub ending : List ℕ
  pub name : IsName labels
  pub headed : IsHeaded query (wire_bytes labels ++ ending)
  pub ends : IsEnding ending

-- such a query with a cookie: the length of the rdata is its last two bytes
abbrev pub extended : List ℕ → List ℕ → List ℕ
extended cookie query = take (length query - 2) query ++ to_be_bytes w16 (length cookie + 4) ++ option_spelling (cookie_option cookie)

-- the header has one question and one additional record
abbrev pub has_counts : List ℕ → Bool
has_counts query = big_from 4 2 query == 1 && (big_from 6 2 query == 0 && (big_from 8 2 query == 0 && big_from 10 2 query == 1))

-- the bytes are a root, a question's kind and class, and an empty OPT record of the root
abbrev pub has_ending : List ℕ → Bool
has_ending bytes = length bytes == 16 && (slice_index bytes 0 == 0 && (slice_index bytes 5 == 0 && (big_from 6 2 bytes == 41 && big_from 14 2 bytes == 0)))
