use Rattle.std.proofs.Common.{map, take}
use Rattle.tool_line.specs.Parser.{AreUtf8}
use Rattle.tool_line.proofs.words.all_text.Given as goal

abbrev pub invariant-loop-word : goal.invariant-loop-word
invariant-loop-word l = AreUtf8 (map (λ w. w.now) (take l.word-index l.words))
