-- What the values of options say: a value is the word behind its option.
use Rattle.std.specs.Prelude.{ℕ, ◌&&◌, ◌==◌, Bool, false, not, if◌then◌else◌, List, [], ◌∷◌, length, nat_le, codes, bytes_eq, Option, Some, None, option_map, option_and_then}
use Rattle.std.specs.Char.{is_ascii_digit}
use Rattle.std.specs.List.{list_all, slice_split}
use Rattle.std.specs.Str.Parse.{digits_value}
use Rattle.net_addr.specs.Reading.{address_of}
use Rattle.net_addr.specs.declared.addr.Addr.{Addr}
use Rattle.net_addr.specs.declared.addr.Family.{Family}
use Rattle.net_addr.specs.declared.addr.Family.TheVariants.{Any, V4, V6}
use Rattle.tool_line.specs.Words.{Text}

-- the word is decimal digits, and a zero in front stands alone; there is no sign
abbrev pub is_plain_number : Text → Bool
is_plain_number [] = false
is_plain_number (digit ∷ []) = list_all is_ascii_digit (digit ∷ [])
is_plain_number (digit ∷ next ∷ digits) = not (digit == 48) && list_all is_ascii_digit (digit ∷ next ∷ digits)

-- the number, if it lies between these two
abbrev pub within : ℕ → ℕ → ℕ → Option ℕ
within least most number = if nat_le least number && nat_le number most then Some number else None

-- the number that the word is, if it is one between these two
abbrev pub number_in : ℕ → ℕ → Text → Option ℕ
number_in least most word = if is_plain_number word then within least most (digits_value 10 word) else None

-- the parts of a word between its commas
abbrev pub parts_of : Text → List Text
parts_of word = slice_split (λ byte. byte == 44) word

-- the addresses that these texts are, if each is one
abbrev pub addresses_of : List Text → Option (List Addr)
addresses_of [] = Some []
addresses_of (text ∷ texts) = option_and_then (λ address. option_map (λ others. address ∷ others) (addresses_of texts)) (address_of text)

-- the addresses that the word has, with a comma between each two, if they are 1 to 8
abbrev pub addresses_in : Text → Option (List Addr)
addresses_in word = if nat_le (length (parts_of word)) 8 then addresses_of (parts_of word) else None

-- the path that the word is: any but the empty one
abbrev pub path_in : Text → Option Text
path_in [] = None
path_in (byte ∷ bytes) = Some (byte ∷ bytes)

-- the family that the word names
abbrev pub family_in : Text → Option Family
family_in word =
    if bytes_eq word (codes "any") then Some Any
    else (if bytes_eq word (codes "4") then Some V4
    else (if bytes_eq word (codes "6") then Some V6
    else None))
