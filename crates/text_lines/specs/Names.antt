-- The words that are names (RFC 1035, section 5.1). Each name in such a file is whole, so a final dot makes no difference.
use Rattle.std.specs.Prelude.{ℕ, List, Option, option_map, filter_map}
use Rattle.dns_message.specs.NameText.{name_text}

-- the labels of the name that a word is, if it is one
abbrev pub name_of : List ℕ → Option (List (List ℕ))
name_of word = option_map (λ found. found.0) (name_text word)

-- the names among these words, in order
abbrev pub names_of : List (List ℕ) → List (List (List ℕ))
names_of words = filter_map name_of words
