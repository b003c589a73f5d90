use Rattle.parts_bench.proofs.NumbersLemmas.{AreBelow-insert}
use Rattle.parts_bench.proofs.deadlines.calls.put_many.Goals as goal

pub loop-number-preserved : goal.loop-number-preserved
loop-number-preserved c = rw c.in_ok-put.ensures.ok (AreBelow-insert _ _ _ c.loop-number.invariant)
