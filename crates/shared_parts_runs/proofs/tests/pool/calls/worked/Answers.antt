use Rattle.delivery_pool.proofs.Theorems.{works_same}
use Rattle.shared_parts_runs.proofs.tests.pool.calls.worked.Goals as goal

pub returns : goal.returns
returns g c = works_same _ c.work.result c.args.pass.now _ c.work.new.pass _ c.work.ensures
