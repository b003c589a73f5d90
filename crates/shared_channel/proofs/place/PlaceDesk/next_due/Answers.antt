use Rattle.channel_model.specs.Meanings.{TellsDue}
use Rattle.shared_channel.proofs.Telling.{calls_of_turn}
use Rattle.shared_channel.proofs.place.PlaceDesk.next_due.Goals as goal

pub returns : goal.returns
returns g c = rw (← c.self.view_is) (record { done = calls_of_turn TellsDue 0 c.self.inside.turns c.turn.new.self c.turn.result c.turn.ensures })
