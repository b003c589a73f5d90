use Rattle.std.proofs.Common.{arith}
use Rattle.tool_line.proofs.LoopLemmas.{utf8_more}
use Rattle.tool_line.proofs.words.all_text.Goals as goal

pub loop-word-preserved : goal.loop-word-preserved
loop-word-preserved c = utf8_more c.args.words.now c.loop-word.word-index _ (omega (arith, c.loop-word-test.true)) c.loop-word.invariant c.text.ensures
