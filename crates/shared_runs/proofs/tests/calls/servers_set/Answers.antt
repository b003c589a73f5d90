use Rattle.shared_channel.proofs.Theorems.{stays_servers}
use Rattle.shared_runs.proofs.tests.calls.servers_set.Goals as goal

pub returns : goal.returns
returns g c = stays_servers c.args.servers.now c.set_servers.result c.args.place.now c.set_servers.new.self c.set_servers.ensures.done
