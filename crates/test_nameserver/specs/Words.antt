-- The words of a line of a zone's text, and the numbers among them.
use Rattle.std.specs.Prelude.{ℕ, Bool, ◌-◌, ◌&&◌, ◌||◌, ◌==◌, nat_le, not, if◌then◌else◌, List, [], ◌∷◌, length, map, filter, Option, Some, None}
use Rattle.std.specs.List.{slice_split, list_all}
use Rattle.std.specs.Char.{is_ascii_digit}
use Rattle.net_addr.specs.Reading as reading

-- the byte parts words: a space or a tab
abbrev pub is_blank : ℕ → Bool
is_blank byte = byte == 32 || byte == 9

-- the words of a line: the parts between its blanks that aren't empty
abbrev pub words_of : List ℕ → List (List ℕ)
words_of line = filter (λ part. not (length part == 0)) (slice_split is_blank line)

-- the number that these digits are
abbrev pub number_of : List ℕ → ℕ
number_of digits = reading.number_of 10 (map (λ digit. digit - 48) digits)

-- the number that these digits are, where they are digits and it is at most this one
abbrev pub digits_up_to : ℕ → List ℕ → Option ℕ
digits_up_to most digits = if list_all is_ascii_digit digits && nat_le (number_of digits) most then Some (number_of digits) else None

-- the number that a word of decimal digits is, where it is at most this one; more digits than one don't begin with a zero
abbrev pub number_up_to : ℕ → List ℕ → Option ℕ
number_up_to most [] = None
number_up_to most (digit ∷ []) = digits_up_to most (digit ∷ [])
number_up_to most (first ∷ second ∷ digits) = if first == 48 then None else digits_up_to most (first ∷ second ∷ digits)
