use Rattle.std.proofs.Common.{◌≡◌, ◌++◌, take}
use Rattle.journal_text.specs.declared.line.Line.TheVariants.{Event}
use Rattle.journal_text.specs.BookText.{lines_text}
use Rattle.journal_text.proofs.line_printing.put_entries.Given as goal

-- the lines so far are those of the items so far
abbrev pub invariant-loop-entry : goal.invariant-loop-entry
invariant-loop-entry l = l.text.items ≡ l.initial.text.items ++ lines_text Event (take l.entry-index l.entries)
