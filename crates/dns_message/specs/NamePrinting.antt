-- A name as a text (RFC 1035, section 5.1).
use Rattle.std.specs.Prelude.{ℕ, ◌+◌, ◌/◌, ◌%◌, ◌<◌, ◌&&◌, ◌||◌, nat_le, ◌==◌, if◌then◌else◌, List, [], ◌∷◌, ◌++◌}
use Rattle.std.specs.List.{flat_map, AllByRecursion}

-- a byte of a label: a dot and a backslash have a backslash before them, a byte from 0x21 to 0x7e is printed as it is, and any other as a backslash and three digits
abbrev pub printed_byte : ℕ → List ℕ
printed_byte b =
    if b == 46 || b == 92 then 92 ∷ b ∷ []
    else (if nat_le 33 b && nat_le b 126 then b ∷ [] else 92 ∷ (48 + b / 100) ∷ (48 + b / 10 % 10) ∷ (48 + b % 10) ∷ [])

-- a label, and the dot behind it
abbrev pub printed_label : List ℕ → List ℕ
printed_label label = flat_map printed_byte label ++ 46 ∷ []

-- each label with its dot; the root is a dot
abbrev pub text_of : List (List ℕ) → List ℕ
text_of [] = 46 ∷ []
text_of (label ∷ labels) = flat_map printed_label (label ∷ labels)

-- each number of the labels is a byte
abbrev pub AreBytes : List (List ℕ) → Type 0
AreBytes labels = AllByRecursion (AllByRecursion (λ b. b < 256)) labels
