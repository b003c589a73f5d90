-- Which texts are names, and which name a text is (RFC 1035, section 5.1; RFC 4343, section 2.1).
-- A text is read as units, its unescaped dots part the units into pieces, and the pieces are the labels.
use Rattle.std.specs.Prelude.{◌≡◌, ℕ, zero, suc, ◌+◌, ◌-◌, ◌*◌, ◌<◌, ◌⊎◌, Bool, true, false, ◌&&◌, nat_le, ◌==◌, if◌then◌else◌, List, [], ◌∷◌, ◌++◌, length, map, Option, Some, None, option_map, codes}
use Rattle.std.specs.Option.{option_and_then}
use Rattle.std.specs.List.{list_all}
use Rattle.std.specs.Char.{is_ascii_digit}
use Rattle.std.specs.Str.{bytes_eq}
use Rattle.dns_message.specs.Name.{wire_length}
use Rattle.dns_message.specs.declared.name_text.TextUnit.{TextUnit}
use Rattle.dns_message.specs.declared.name_text.TextUnit.TheVariants.{Dot, Byte}

-- the byte of three decimal digits, up to 255
abbrev pub byte_of_digits : ℕ → ℕ → ℕ → Option ℕ
byte_of_digits a b c =
    if is_ascii_digit a && is_ascii_digit b && is_ascii_digit c && nat_le ((a - 48) * 100 + (b - 48) * 10 + (c - 48)) 255
    then Some ((a - 48) * 100 + (b - 48) * 10 + (c - 48)) else None

-- the byte of three digits, and the text behind them
abbrev pub numbered : ℕ → List ℕ → Option (ℕ × List ℕ)
numbered a [] = None
numbered a (b ∷ []) = None
numbered a (b ∷ c ∷ text) = option_map (λ byte. (byte, text)) (byte_of_digits a b c)

-- the byte that stands behind a backslash, and the text behind it: three digits are their byte, and any byte that is no digit is itself
abbrev pub escaped : List ℕ → Option (ℕ × List ℕ)
escaped [] = None
escaped (a ∷ text) = if is_ascii_digit a then numbered a text else Some (a, text)

-- the first unit of a text, and the text behind it: a dot, a byte behind a backslash, or a byte that stands for itself
abbrev pub first_unit : ℕ → List ℕ → Option (TextUnit × List ℕ)
first_unit c text =
    if c == 46 then Some (Dot, text)
    else (if c == 92 then option_map (λ found. (Byte found.0, found.1)) (escaped text) else Some (Byte c, text))

-- the units of a text of at most so many bytes
abbrev pub units_within : ℕ → List ℕ → Option (List TextUnit)
units_within n [] = Some []
units_within zero (c ∷ text) = None
units_within (suc n) (c ∷ text) = option_and_then (λ found. option_map (λ units. found.0 ∷ units) (units_within n found.1)) (first_unit c text)

-- the units of a text
unfoldable pub units_of : List ℕ → Option (List TextUnit)
units_of text = units_within (length text) text

-- the pieces with a byte more in front of the first
abbrev pub with_byte : ℕ → List (List ℕ) → List (List ℕ)
with_byte b [] = (b ∷ []) ∷ []
with_byte b (piece ∷ pieces) = (b ∷ piece) ∷ pieces

-- the pieces between the dots
abbrev pub pieces : List TextUnit → List (List ℕ)
pieces [] = [] ∷ []
pieces (Dot ∷ units) = [] ∷ pieces units
pieces (Byte b ∷ units) = with_byte b (pieces units)

-- the labels that the pieces are, and whether a dot ended the last of them: then an empty piece stands behind it
abbrev pub ended : List (List ℕ) → List (List ℕ) × Bool
ended [] = ([], false)
ended (piece ∷ []) = (piece ∷ [], false)
ended (piece ∷ [] ∷ []) = (piece ∷ [], true)
ended (piece ∷ next ∷ pieces) = (piece ∷ (ended (next ∷ pieces)).0, (ended (next ∷ pieces)).1)

-- the label has 1 to 63 bytes
abbrev pub is_label : List ℕ → Bool
is_label label = nat_le 1 (length label) && nat_le (length label) 63

-- the labels are a name
abbrev pub is_name : List (List ℕ) → Bool
is_name labels = list_all is_label labels && nat_le (wire_length labels) 255

-- these labels and whether a dot ended them, if they are a name
abbrev pub named : List (List ℕ) × Bool → Option (List (List ℕ) × Bool)
named found = if is_name found.0 then Some found else None

-- the name that a text is, and whether it is absolute; the dot alone is the root
abbrev pub name_text : List ℕ → Option (List (List ℕ) × Bool)
name_text text = if bytes_eq text (codes ".") then Some ([], true) else option_and_then (λ units. named (ended (pieces units))) (units_of text)

-- the units of a label, and the units behind it
abbrev pub label_before : List ℕ → Option (List TextUnit) → Option (List TextUnit)
label_before label units = option_map (λ behind. map Byte label ++ behind) units

-- a dot, and the units behind it
abbrev pub dot_before : Option (List TextUnit) → Option (List TextUnit)
dot_before units = option_map (λ behind. Dot ∷ behind) units

-- there are no units, or those before the first dot are too many for a label
abbrev pub HasNoLabel : Option (List TextUnit) → Type 0
HasNoLabel units = (units ≡ None) ⊎ ((label : List ℕ) × (behind : Option (List TextUnit)) × (63 < length label) × (units ≡ label_before label behind))
