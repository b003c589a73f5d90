use Rattle.parts_bench.proofs.NumbersLemmas.{AreBelow-empty}
use Rattle.parts_bench.proofs.deadlines.channel.run.Goals as goal

pub loop-number-init : goal.loop-number-init
loop-number-init c = rw c.make-queue.ensures (AreBelow-empty 0)
