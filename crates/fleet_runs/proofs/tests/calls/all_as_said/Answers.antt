use Rattle.channel_fleet.proofs.Theorems.{berths_stay_more, berths_stay_none, one_at}
use Rattle.fleet_runs.proofs.tests.calls.all_as_said.Goals as goal

pub loop-row-init : goal.loop-row-init
loop-row-init g c = (berths_stay_none c.args.pass.now, c.requires)

pub loop-row-preserved : goal.loop-row-preserved
loop-row-preserved g c = (
  berths_stay_more c.args.pass.now c.loop-row.pass c.done.new.pass c.loop-row.invariant.0 c.done.ensures,
  one_at c.args.fleet.now c.loop-row.pass c.done.new.pass c.done.ensures c.loop-row.invariant.1,
)
