use Rattle.channel_fleet.proofs.Theorems.{berths_stay_more}
use Rattle.fleet_runs.proofs.tests.uses.used.Goals as goal

pub returns-clause-first : goal.returns-clause-first
returns-clause-first g c = berths_stay_more c.args.first.now c.all_as_said-begun.new.pass c.all_as_said-ended.new.pass c.all_as_said-begun.ensures.stay c.all_as_said-ended.ensures.stay
