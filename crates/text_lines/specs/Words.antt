-- The words of a line, and where a comment begins among them (resolv.conf(5)).
use Rattle.std.specs.Prelude.{ℕ, Bool, false, ◌==◌, ◌||◌, not, List, [], ◌∷◌, length, filter}
use Rattle.std.specs.List.{slice_split, take_while}

-- the byte parts words: a blank, a tab, or the CR that some editors put before LF
abbrev pub is_blank : ℕ → Bool
is_blank byte = byte == 32 || byte == 9 || byte == 13

-- the words of a line: the parts between its blanks that aren't empty
abbrev pub words_of : List ℕ → List (List ℕ)
words_of line = filter (λ part. not (length part == 0)) (slice_split is_blank line)

-- the word begins with `#` or `;`, and with it begins a comment; inside a word they are bytes as others
abbrev pub begins_comment : List ℕ → Bool
begins_comment [] = false
begins_comment (first ∷ word) = first == 35 || first == 59

-- the words of a line up to the first that begins a comment
abbrev pub words_before_comment : List ℕ → List (List ℕ)
words_before_comment line = take_while (λ word. not (begins_comment word)) (words_of line)
