use Rattle.shared_channel.specs.Staying.{StaysSettled}
use Rattle.shared_runs.proofs.tests.moves.play.Given as goal

abbrev pub invariant-loop-next : goal.invariant-loop-next
invariant-loop-next g l = StaysSettled l.fn.place l.place
