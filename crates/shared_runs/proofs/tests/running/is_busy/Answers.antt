use Rattle.shared_channel.proofs.Theorems.{stays_busy}
use Rattle.shared_runs.proofs.tests.running.is_busy.Goals as goal

pub returns : goal.returns
returns g c = stays_busy c.args.server 0 c.link_busy.result c.args.place.now c.link_busy.new.self c.link_busy.ensures.done
