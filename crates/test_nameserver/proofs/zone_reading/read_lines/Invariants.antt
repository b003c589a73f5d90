use Rattle.std.proofs.Common.{◌≡◌, ◌+◌, length}
use Rattle.text_lines.specs.Lines.{lines_of}
use Rattle.text_lines.specs.Left.{lines_left}
use Rattle.test_nameserver.specs.Lines.{lines_read}
use Rattle.test_nameserver.proofs.LineLemmas.{rest_read}
use Rattle.test_nameserver.proofs.zone_reading.read_lines.Given as goal

-- the records so far, with what the lines say that are still to come, are what all lines say
abbrev pub invariant-loop-line : goal.invariant-loop-line
invariant-loop-line l = record {
  read : rest_read l.number l.zone (lines_left l.line-iterator) ≡ lines_read (lines_of l.text);
  count : l.number + length (lines_left l.line-iterator) ≡ 1 + length (lines_of l.text);
}
