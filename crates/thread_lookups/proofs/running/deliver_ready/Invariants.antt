use Rattle.thread_lookups.specs.Passing.{OnlyRuns}
use Rattle.thread_lookups.proofs.running.deliver_ready.Given as goal

abbrev pub invariant-loop : goal.invariant-loop
invariant-loop g l = OnlyRuns l.fn.place l.place
