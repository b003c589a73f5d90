use Rattle.shared_channel.proofs.Theorems.{stays_counts}
use Rattle.shared_runs.proofs.tests.running.counted.Goals as goal

pub returns : goal.returns
returns g c = stays_counts c.counts.result c.args.place.now c.counts.new.self c.counts.ensures.done
