use Rattle.channel_fleet.proofs.CallingLemmas.{calls_pass}
use Rattle.channel_model.specs.Meanings.{Cancels}
use Rattle.channel_fleet.proofs.calling.cancel.Goals as goal

pub returns : goal.returns
returns g c = rw (c.leave.ensures, ← c.place-place.ensures) (calls_pass (Cancels c.cancel-answer.result) c.place-place.result c.cancel-answer.new.self c.cancel-answer.ensures.done)
