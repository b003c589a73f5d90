use Rattle.shared_channel.proofs.Theorems.{all_stay_none, may_finish}
use Rattle.shared_runs.proofs.tests.one_pass.finished_at_once.Goals as goal

pub ended-finished-requires : goal.ended-finished-requires
ended-finished-requires g c = (may_finish c.in_ok-channel.passes.items c.in_ok-channel.ensures.new c.requires.0 (all_stay_none c.in_ok-channel.passes.items))
