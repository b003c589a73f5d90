use Rattle.channel_fleet.proofs.CallingLemmas.{calls_pass}
use Rattle.channel_model.specs.Meanings.{Destroys}
use Rattle.channel_fleet.proofs.calling.destroy.Goals as goal

pub returns : goal.returns
returns g c = rw (c.leave.ensures, ← c.place-place.ensures) (calls_pass (Destroys c.destroy-answer.result) c.place-place.result c.destroy-answer.new.self c.destroy-answer.ensures.done)
