use Rattle.shared_channel.proofs.Theorems.{stays_destroy}
use Rattle.shared_runs.proofs.tests.calls.destroyed.Goals as goal

pub returns : goal.returns
returns g c = stays_destroy c.destroy.result c.args.place.now c.destroy.new.self c.destroy.ensures.done
