use Rattle.std.proofs.Common.{◌≡◌, [], None, fold}
use Rattle.text_lines.specs.Left.{lines_left}
use Rattle.text_lines.specs.Lines.{lines_of}
use Rattle.text_lines.specs.Words.{words_of}
use Rattle.own_addresses.specs.Leaves.{leaves_of}
use Rattle.own_addresses.specs.Telling.{leaves_behind}
use Rattle.own_addresses.proofs.leaves.leaves_in.Given as goal

-- with the lines that are still to come it is what all lines tell
abbrev pub invariant-loop-line : goal.invariant-loop-line
invariant-loop-line l = fold (λ leaves line. leaves_behind leaves (words_of line)) (leaves_of l.leaves) (lines_left l.line-iterator) ≡ fold (λ leaves line. leaves_behind leaves (words_of line)) (record { head = None; own = [] }) (lines_of l.text)
