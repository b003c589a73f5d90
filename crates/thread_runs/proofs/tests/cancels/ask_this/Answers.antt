use Rattle.shared_channel.proofs.Theorems.{stays_accept}
use Rattle.thread_runs.proofs.tests.cancels.ask_this.Goals as goal

pub returns : goal.returns
returns g c = stays_accept c.args.request c.scripted-callback.result c.accept.result c.args.place.now c.accept.new.self c.accept.ensures.done
