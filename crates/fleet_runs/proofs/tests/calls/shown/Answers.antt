use Rattle.channel_fleet.proofs.Theorems.{stays_show}
use Rattle.fleet_runs.proofs.tests.calls.shown.Goals as goal

pub returns : goal.returns
returns c = stays_show c.args.channel c.show-shown.result c.args.pass.now c.show-shown.new.pass c.show-shown.ensures
