use Rattle.shared_channel.proofs.Theorems.{stays_cancel}
use Rattle.thread_runs.proofs.tests.cancels.cancel.Goals as goal

pub returns : goal.returns
returns g c = stays_cancel c.cancel.result c.args.place.now c.cancel.new.self c.cancel.ensures.done
