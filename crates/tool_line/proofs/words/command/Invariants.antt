use Rattle.std.proofs.Common.{◌≡◌, map, take}
use Rattle.clap.specs.Words.{app_of}
use Rattle.tool_line.specs.Parser.{app_with, option_rule, table_of}
use Rattle.tool_line.proofs.words.command.Given as goal

abbrev pub invariant-loop-option : goal.invariant-loop-option
invariant-loop-option l = app_of l.command ≡ app_with (map option_rule (table_of (take l.option-index l.table)))
