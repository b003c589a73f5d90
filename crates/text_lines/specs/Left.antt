-- The lines that are still to come while a text is read.
use Rattle.std.specs.Prelude.{ℕ, List, [], Option, Some, None}
use denote.Ref.{Bor}
use Rattle.text_lines.specs.Lines.{lines_of}
use Rattle.text_lines.specs.declared.line_reading.Lines.{Lines}

-- the lines of the text behind, if there is one
abbrev pub lines_behind : Option (Bor (List ℕ)) → List (List ℕ)
lines_behind None = []
lines_behind (Some text) = lines_of text.now

-- the lines that are still to come
abbrev pub lines_left : Lines → List (List ℕ)
lines_left lines = lines_behind lines.rest
