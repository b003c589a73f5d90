use Rattle.shared_channel.proofs.Theorems.{stays_fault}
use Rattle.shared_runs.proofs.tests.running.failed.Goals as goal

pub returns : goal.returns
returns g c = stays_fault c.args.server 0 0 c.fault.result c.args.place.now c.fault.new.self c.fault.ensures.done
