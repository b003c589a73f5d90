use Rattle.parts_bench.specs.Numbers.{AreBelow}
use Rattle.parts_bench.proofs.deadlines.calls.put_many.Given as goal

abbrev pub invariant-loop-number : goal.invariant-loop-number
invariant-loop-number l = AreBelow l.number l.queue
