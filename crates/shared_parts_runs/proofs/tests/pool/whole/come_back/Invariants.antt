use Rattle.std.proofs.Common.{vec_len}
use Rattle.shared_parts_runs.proofs.PassLemmas.{IsBack}
use Rattle.shared_parts_runs.proofs.tests.pool.whole.come_back.Given as goal

abbrev pub invariant-loop-worker : goal.invariant-loop-worker
invariant-loop-worker g l = IsBack l.pool.queue l.fn.crew.items l.crew.items l.passes.items

abbrev pub decreases-loop-worker : goal.decreases-loop-worker
decreases-loop-worker g l = vec_len l.crew
