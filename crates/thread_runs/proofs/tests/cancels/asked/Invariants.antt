use Rattle.shared_channel.specs.Staying.{StaysSettled}
use Rattle.thread_runs.proofs.tests.cancels.asked.Given as goal

abbrev pub invariant-loop : goal.invariant-loop
invariant-loop g l = StaysSettled l.fn.pass l.place
