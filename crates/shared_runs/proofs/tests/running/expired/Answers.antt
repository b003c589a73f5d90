use Rattle.shared_channel.proofs.Theorems.{stays_expire}
use Rattle.shared_runs.proofs.tests.running.expired.Goals as goal

pub returns : goal.returns
returns g c = stays_expire c.args.at c.expire.result c.args.place.now c.expire.new.self c.expire.ensures.done
