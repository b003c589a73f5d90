use Rattle.shared_channel.proofs.Theorems.{stays_start}
use Rattle.shared_runs.proofs.tests.holds.begun.Goals as goal

pub returns : goal.returns
returns g c = stays_start 9 0 0 c.start.result c.args.held.now c.start.new.self c.start.ensures.done
