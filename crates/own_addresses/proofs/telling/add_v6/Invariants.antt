use Rattle.std.proofs.Common.{◌≡◌, ◌++◌}
use Rattle.std.specs.Prelude.{filter_map}
use Rattle.text_lines.specs.Left.{lines_left}
use Rattle.text_lines.specs.Words.{words_of}
use Rattle.own_addresses.specs.Telling.{v6_in, v6_told}
use Rattle.own_addresses.proofs.telling.add_v6.Given as goal

-- what the lines so far tell, and then what those tell that are still to come
abbrev pub invariant-loop-line : goal.invariant-loop-line
invariant-loop-line l = l.told.items ++ filter_map (λ line. v6_in (words_of line)) (lines_left l.line-iterator) ≡ l.initial.told.items ++ v6_told l.text
