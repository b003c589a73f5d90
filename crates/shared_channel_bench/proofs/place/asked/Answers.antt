use Rattle.shared_channel.proofs.Theorems.{stays_accept}
use Rattle.shared_channel_bench.proofs.place.asked.Goals as goal

pub returns : goal.returns
returns g c = stays_accept c.args.spec c.args.callback c.accept.result c.args.place.now c.accept.new.self c.accept.ensures.done
