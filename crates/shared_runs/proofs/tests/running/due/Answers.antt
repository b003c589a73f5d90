use Rattle.shared_channel.proofs.Theorems.{stays_due}
use Rattle.shared_runs.proofs.tests.running.due.Goals as goal

pub returns : goal.returns
returns g c = stays_due c.next_due.result c.args.place.now c.next_due.new.self c.next_due.ensures.done
