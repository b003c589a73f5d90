use Rattle.std.proofs.Common.{ℕ}
use Rattle.parts_bench.specs.Numbers.{AreBelow}
use Rattle.parts_bench.proofs.deadlines.calls.drop_many.Given as goal

abbrev pub invariant-loop-number : goal.invariant-loop-number
invariant-loop-number l = (n : ℕ) → AreBelow n l.fn.queue → AreBelow n l.queue
