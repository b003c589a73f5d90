-- What single words are read as.
use Rattle.std.specs.Prelude.{ℕ, Bool, true, false, ◌+◌, ◌-◌, ◌*◌, ◌&&◌, ◌==◌, nat_le, List, [], ◌∷◌, Option, Some, None, Result, if◌then◌else◌, bytes_eq, codes, decimal}
use Rattle.std.specs.Char.{is_ascii_digit}
use Rattle.std.specs.Result.{result_ok}
use Rattle.hex.specs.Hex.{decode_of}
use Rattle.text_lines.specs.Names.{name_of}
use Rattle.dns_message.specs.NamePrinting.{text_of as name_text}
use Rattle.net_addr.specs.Reading.{address_of}
use Rattle.net_addr.specs.Text.{text_of as address_text}
use Rattle.net_addr.specs.declared.addr.Addr.{Addr}
use Rattle.net_addr.specs.declared.addr.Family.{Family}
use Rattle.net_addr.specs.declared.addr.Family.TheVariants.{Any, V4, V6}
use Rattle.resolv_options.specs.declared.lookups.Lookups.{Lookups}
use Rattle.resolv_options.specs.declared.lookups.Lookups.TheVariants.{FilesDns, Dns, Files}
use Rattle.resolv_options.specs.declared.flags.Flags.{Flags}
use Rattle.chan_types.specs.declared.orders.When.{When}
use Rattle.chan_types.specs.declared.orders.When.TheVariants.{Always, Good, Bad}
use Rattle.chan_types.specs.declared.orders.Need.{Need}
use Rattle.chan_types.specs.declared.orders.Need.TheVariants.{Nothing, Follow, First, Quit}
use Rattle.journal_text.specs.Words.{Word, bytes_word, mix_word, flags_word}
use Rattle.journal_text.specs.Reads.{Found, ◌>>=◌, printed_as, first_word}

-- the number with these digits behind it, where it stays at most this one
abbrev pub digits_on : ℕ → ℕ → Word → Option ℕ
digits_on most number [] = Some number
digits_on most number (digit ∷ digits) =
    if is_ascii_digit digit && nat_le (number * 10 + (digit - 48)) most
    then digits_on most (number * 10 + (digit - 48)) digits else None

-- the number up to this one that a word is
abbrev pub number_in : ℕ → Word → Option ℕ
number_in most word = printed_as decimal word (digits_on most 0 word)

unfoldable pub number_from : ℕ → List Word → Found ℕ
number_from most words = first_word (number_in most) words

-- yes or no
unfoldable pub truth_from : List Word → Found Bool
truth_from words = number_from 1 words >>= λ number. Some (number.0 == 1, number.1)

-- the digits of bytes in either case
abbrev pub bytes_said : Word → Option (List ℕ)
bytes_said word = if bytes_eq word (codes "-") then Some [] else result_ok (decode_of word)

-- the bytes that a word is
abbrev pub bytes_in : Word → Option (List ℕ)
bytes_in word = printed_as bytes_word word (bytes_said word)

unfoldable pub bytes_from : List Word → Found (List ℕ)
bytes_from words = first_word bytes_in words

-- the address that a word is
abbrev pub address_in : Word → Option Addr
address_in word = printed_as address_text word (address_of word)

unfoldable pub address_from : List Word → Found Addr
address_from words = first_word address_in words

-- the name that a word is
abbrev pub name_in : Word → Option (List (List ℕ))
name_in word = printed_as name_text word (name_of word)

unfoldable pub name_from : List Word → Found (List (List ℕ))
name_from words = first_word name_in words

-- the bits of a mix, or that there are none
abbrev pub mix_in : Word → Option (Option ℕ)
mix_in word = if bytes_eq word (codes "-") then Some None else (number_in 65535 word >>= λ mix. Some (Some mix))

unfoldable pub mix_from : List Word → Found (Option ℕ)
mix_from words = first_word mix_in words

-- eight switches, each yes where its digit is 1
abbrev pub flags_said : Word → Option Flags
flags_said (a ∷ b ∷ c ∷ d ∷ e ∷ f ∷ g ∷ h ∷ []) = Some (record {
  usevc = a == 49;
  primary = b == 49;
  igntc = c == 49;
  norecurse = d == 49;
  nosearch = e == 49;
  nocheckresp = f == 49;
  edns = g == 49;
  mix = h == 49;
})
flags_said word = None

-- the switches that a word is
abbrev pub flags_in : Word → Option Flags
flags_in word = printed_as flags_word word (flags_said word)

unfoldable pub flags_from : List Word → Found Flags
flags_from words = first_word flags_in words

-- the values with these numbers, where the last one stands for all greater numbers too
abbrev pub numbered_family : ℕ → Family
numbered_family number = if number == 0 then Any else (if number == 1 then V4 else V6)

abbrev pub numbered_lookups : ℕ → Lookups
numbered_lookups number = if number == 0 then FilesDns else (if number == 1 then Dns else Files)

abbrev pub numbered_when : ℕ → When
numbered_when number = if number == 0 then Always else (if number == 1 then Good else Bad)

abbrev pub numbered_need : ℕ → Need
numbered_need number = if number == 0 then Nothing else (if number == 1 then Follow else (if number == 2 then First else Quit))

unfoldable pub family_from : List Word → Found Family
family_from words = number_from 2 words >>= λ number. Some (numbered_family number.0, number.1)

unfoldable pub lookups_from : List Word → Found Lookups
lookups_from words = number_from 2 words >>= λ number. Some (numbered_lookups number.0, number.1)

unfoldable pub when_from : List Word → Found When
when_from words = number_from 2 words >>= λ number. Some (numbered_when number.0, number.1)

unfoldable pub need_from : List Word → Found Need
need_from words = number_from 3 words >>= λ number. Some (numbered_need number.0, number.1)
