use Rattle.parts_bench.specs.Numbers.{AreBelow}
use Rattle.parts_bench.proofs.deadlines.rounds.run.Given as goal

abbrev pub invariant-loop : goal.invariant-loop
invariant-loop g l = AreBelow l.next l.queue
