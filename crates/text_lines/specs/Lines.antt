-- The lines of a text file, and where a comment cuts a line short.
use Rattle.std.specs.Prelude.{ℕ, ◌==◌, List}
use Rattle.std.specs.List.{slice_split, before_first}

-- the lines of a text: the parts between its line feeds; behind a last LF stands an empty line
abbrev pub lines_of : List ℕ → List (List ℕ)
lines_of text = slice_split (λ byte. byte == 10) text

-- the line up to its first `#`, where that begins a comment wherever it stands (hosts(5))
abbrev pub before_comment : List ℕ → List ℕ
before_comment line = before_first (λ byte. byte == 35) line
