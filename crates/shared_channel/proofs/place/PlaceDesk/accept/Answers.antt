use Rattle.channel_model.proofs.Theorems.{unknown_keeps}
use Rattle.channel_model.specs.Meanings.{Accepts}
use Rattle.shared_channel.specs.Under.{plan_of}
use Rattle.shared_channel.proofs.Telling.{calls_of_turn}
use Rattle.shared_channel.proofs.place.PlaceDesk.accept.Goals as goal

pub returns : goal.returns
returns g c = rw (← c.self.view_is) (record { done = calls_of_turn (Accepts plan_of c.args.spec c.args.token) 0 c.self.inside.turns c.turn.new.self c.turn.result c.turn.ensures; named = unknown_keeps _ c.turn.result })
