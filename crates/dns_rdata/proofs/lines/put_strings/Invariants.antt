use Rattle.std.proofs.Common.{◌≡◌, ◌++◌, take, map}
use Rattle.std.specs.List.{flat_map}
use Rattle.dns_rdata.specs.Lines.{spaced, quoted}
use Rattle.dns_rdata.proofs.lines.put_strings.Given as goal

abbrev pub invariant-loop-string : goal.invariant-loop-string
invariant-loop-string l = l.text.items ≡ l.fn.text.items ++ flat_map spaced (map quoted (take l.string-index l.strings))
