use Rattle.std.proofs.Common.{◌≡◌, ◌++◌, take}
use Rattle.journal_text.specs.declared.line.Line.TheVariants.{Domain}
use Rattle.journal_text.specs.BookText.{lines_text}
use Rattle.journal_text.proofs.line_printing.put_domains.Given as goal

-- the lines so far are those of the items so far
abbrev pub invariant-loop-name : goal.invariant-loop-name
invariant-loop-name l = l.text.items ≡ l.initial.text.items ++ lines_text Domain (take l.name-index l.domains)
