use Rattle.std.proofs.Common.{◌≡◌, ◌++◌, take}
use Rattle.journal_text.specs.declared.line.Line.TheVariants.{Source}
use Rattle.journal_text.specs.BookText.{lines_text}
use Rattle.journal_text.proofs.line_printing.put_sources.Given as goal

-- the lines so far are those of the items so far
abbrev pub invariant-loop-address : goal.invariant-loop-address
invariant-loop-address l = l.text.items ≡ l.initial.text.items ++ lines_text Source (take l.address-index l.sources)
