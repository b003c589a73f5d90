use Rattle.std.proofs.Common.{◌≡◌, ◌++◌, replicate}
use Rattle.tool_line.proofs.text.Text.put_blanks.Given as goal

abbrev pub invariant-loop : goal.invariant-loop
invariant-loop l = l.self-inside.bytes.items ≡ l.initial.self-inside.bytes.items ++ replicate l.counter 32
