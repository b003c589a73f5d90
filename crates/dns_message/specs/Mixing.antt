-- A name with its letters in mixed case, by 16 bits that repeat: what a query asks so that its reply has to repeat it
-- (draft-vixie-dnsext-dns0x20; c-ares has a flag for it; letters are those of ASCII, RFC 4343, section 2).
use Rattle.std.specs.Prelude.{ℕ, ◌+◌, ◌%◌, Bool, if◌then◌else◌, List, [], ◌∷◌, count_by}
use Rattle.std.specs.Char.{is_ascii_alphabetic, to_ascii_lowercase, to_ascii_uppercase}
use Rattle.dns_message.specs.Numbers.{has_bit}
use Rattle.dns_message.specs.declared.message.Question.{Question}

-- the letter in upper case, or else in lower case
abbrev pub in_case : Bool → ℕ → ℕ
in_case upper letter = if upper then to_ascii_uppercase letter else to_ascii_lowercase letter

-- a label before which the name has k letters: its first letter is the name's letter k, and is in upper case where
-- bit k mod 16 of mix is set, and else in lower case; a byte that is no letter stays, and counts none
abbrev pub mixed_label : ℕ → ℕ → List ℕ → List ℕ
mixed_label mix k [] = []
mixed_label mix k (byte ∷ label) =
    if is_ascii_alphabetic byte
    then in_case (has_bit (k % 16) mix) byte ∷ mixed_label mix (k + 1) label
    else byte ∷ mixed_label mix k label

-- labels before which the name has k letters
abbrev pub mixed_labels : ℕ → ℕ → List (List ℕ) → List (List ℕ)
mixed_labels mix k [] = []
mixed_labels mix k (label ∷ labels) =
    mixed_label mix k label ∷ mixed_labels mix (k + count_by is_ascii_alphabetic label) labels

-- the name in mixed case: its letters are counted from 0, across all its labels
abbrev pub mixed_name : ℕ → List (List ℕ) → List (List ℕ)
mixed_name mix labels = mixed_labels mix 0 labels

-- the question with its name in mixed case
abbrev pub mixed_question : ℕ → Question → Question
mixed_question mix question = record question { name = mixed_name mix question.name }
