use Rattle.shared_channel.proofs.Theorems.{stays_accept}
use Rattle.shared_channel_bench.proofs.held.asked.Goals as goal

pub returns : goal.returns
returns g c = stays_accept c.args.spec c.args.callback c.accept.result c.args.held.now c.accept.new.self c.accept.ensures.done
