use Rattle.parts_bench.proofs.NumbersLemmas.{AreBelow-remove}
use Rattle.parts_bench.proofs.deadlines.calls.drop_many.Goals as goal

pub loop-number-preserved : goal.loop-number-preserved
loop-number-preserved c = λ n below. rw c.drop_key.ensures.taken (AreBelow-remove n _ _ (c.loop-number.invariant n below))
