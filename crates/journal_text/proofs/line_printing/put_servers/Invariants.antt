use Rattle.std.proofs.Common.{◌≡◌, ◌++◌, take}
use Rattle.journal_text.specs.declared.line.Line.TheVariants.{Server}
use Rattle.journal_text.specs.BookText.{lines_text}
use Rattle.journal_text.proofs.line_printing.put_servers.Given as goal

-- the lines so far are those of the items so far
abbrev pub invariant-loop-server : goal.invariant-loop-server
invariant-loop-server l = l.text.items ≡ l.initial.text.items ++ lines_text Server (take l.server-index l.servers)
