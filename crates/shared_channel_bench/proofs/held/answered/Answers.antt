use Rattle.shared_channel.proofs.Theorems.{stays_arrive}
use Rattle.shared_channel_bench.proofs.held.answered.Goals as goal

pub returns : goal.returns
returns g c = stays_arrive c.args.attempt.server c.args.attempt.link c.args.reply.now c.arrive.result c.args.held.now c.arrive.new.self c.arrive.ensures.done
