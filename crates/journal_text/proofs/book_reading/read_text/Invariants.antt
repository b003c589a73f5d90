use Rattle.std.proofs.Common.{◌+◌, ◌≤◌, length}
use Rattle.journal_text.proofs.TextLemmas.{IsReadTo}
use Rattle.journal_text.proofs.book_reading.read_text.Given as goal

-- so many lines were read, and what is left of the text is still to come
abbrev pub invariant-lines : goal.invariant-lines
invariant-lines l = record {
  read : IsReadTo l.text l.draft l.rest l.lines;
  short : l.lines + length l.rest ≤ length l.text;
}

abbrev pub decreases-lines : goal.decreases-lines
decreases-lines l = length l.rest
