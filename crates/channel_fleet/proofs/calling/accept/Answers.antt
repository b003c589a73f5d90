use Rattle.channel_fleet.proofs.CallingLemmas.{calls_pass}
use Rattle.channel_model.specs.Meanings.{Accepts}
use Rattle.shared_channel.specs.Under.{plan_of}
use Rattle.channel_fleet.proofs.calling.accept.Goals as goal

pub returns : goal.returns
returns g c = rw (c.leave.ensures, ← c.place-place.ensures) (calls_pass (Accepts plan_of c.args.spec c.args.callback c.accept-answer.result) c.place-place.result c.accept-answer.new.self c.accept-answer.ensures.done)
