use Rattle.std.proofs.Common.{◌≡◌, ◌||◌}
use Rattle.std.specs.List.{list_any}
use Rattle.text_lines.specs.Left.{lines_left}
use Rattle.text_lines.specs.Words.{words_of}
use Rattle.own_addresses.specs.Telling.{has_line, is_default_v6}
use Rattle.own_addresses.proofs.telling.has_default_v6.Given as goal

-- a line so far is one, or one that is still to come
abbrev pub invariant-loop-line : goal.invariant-loop-line
invariant-loop-line l = l.found || list_any (λ line. is_default_v6 (words_of line)) (lines_left l.line-iterator) ≡ has_line is_default_v6 l.text
