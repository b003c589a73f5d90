use Rattle.shared_channel.proofs.Theorems.{all_at}
use Rattle.shared_runs.proofs.tests.untold.untold_channel.Goals as goal

pub returns-clause-at : goal.returns-clause-at
returns-clause-at c = all_at _ _ _ _ c.in_ok-channel.ensures
