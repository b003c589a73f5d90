use Rattle.shared_channel.specs.Staying.{StaysSettled}
use Rattle.shared_runs.proofs.tests.held_by_two.rounds.Given as goal

abbrev pub invariant-loop : goal.invariant-loop
invariant-loop g l = StaysSettled l.fn.pass l.place
