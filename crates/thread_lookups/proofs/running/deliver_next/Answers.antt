use Rattle.std.proofs.Common.{false, true}
use Rattle.thread_lookups.proofs.RunLemmas.{delivery_asks}
use Rattle.thread_lookups.proofs.running.deliver_next.Goals as goal

pub returns : goal.returns
returns g c = delivery_asks (record { follow = true; first = false; quit = false }) c.deliver_one.result c.args.place.now c.deliver_one.new.place c.deliver_one.ensures
