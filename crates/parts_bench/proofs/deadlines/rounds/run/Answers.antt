use Rattle.parts_bench.proofs.NumbersLemmas.{AreBelow-empty}
use Rattle.parts_bench.proofs.deadlines.rounds.run.Goals as goal

pub put_many-requires-clause-below : goal.put_many-requires-clause-below
put_many-requires-clause-below g c = rw c.make-queue.ensures (AreBelow-empty 0)

pub loop-preserved : goal.loop-preserved
loop-preserved g c = c.drop_many-dropped.ensures _ c.in_ok-put_many-2.ensures
