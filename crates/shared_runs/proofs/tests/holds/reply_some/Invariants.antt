use Rattle.shared_channel.specs.Staying.{StaysSettled}
use Rattle.shared_runs.proofs.tests.holds.reply_some.Given as goal

abbrev pub invariant-loop : goal.invariant-loop
invariant-loop g l = StaysSettled l.fn.held l.held
