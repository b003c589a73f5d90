use Rattle.std.proofs.Common.{Some, None, true, false}
use Rattle.shared_channel.proofs.Theorems.{stays_delivery}
use Rattle.shared_runs.proofs.tests.one_pass.taken_and_spent.Goals as goal

pub returns-in_default : goal.returns-in_default
returns-in_default g c = stays_delivery (record { follow = true; first = false; quit = false }) None c.args.place.now c.take.new.self c.in_default.ensures.done

pub returns : goal.returns
returns g c = stays_delivery (record { follow = true; first = false; quit = false }) (Some c.spend.result) c.args.place.now c.spend.new.place (c.in-Some.ticket, c.take.new.self, c.in-Some.ensures.done, c.spend.ensures)
