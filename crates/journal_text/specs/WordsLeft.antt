-- The words that are still to come while a line is read.
use Rattle.std.specs.Prelude.{ℕ, List, [], Option, Some, None}
use denote.Ref.{Bor}
use Rattle.journal_text.specs.Words.{Word}
use Rattle.journal_text.specs.LineReading.{words_of}

-- the words of the line behind, if there is one
abbrev pub words_behind : Option (Bor (List ℕ)) → List Word
words_behind None = []
words_behind (Some line) = words_of line.now
