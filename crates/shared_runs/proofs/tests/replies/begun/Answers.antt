use Rattle.shared_channel.proofs.Theorems.{stays_start}
use Rattle.shared_runs.proofs.tests.replies.begun.Goals as goal

pub returns : goal.returns
returns g c = stays_start 9 0 c.args.at c.start.result c.args.place.now c.start.new.self c.start.ensures.done
