use Rattle.channel_model.specs.Meanings.{Expires}
use Rattle.shared_channel.proofs.Telling.{calls_of_turn}
use Rattle.shared_channel.proofs.place.PlaceDesk.expire.Goals as goal

pub returns : goal.returns
returns g c = rw (← c.self.view_is) (record { done = calls_of_turn (Expires c.args.at) 0 c.self.inside.turns c.turn.new.self c.turn.result c.turn.ensures })
