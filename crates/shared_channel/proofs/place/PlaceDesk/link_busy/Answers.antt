use Rattle.channel_model.specs.Meanings.{TellsBusy}
use Rattle.shared_channel.proofs.Telling.{calls_of_turn}
use Rattle.shared_channel.proofs.place.PlaceDesk.link_busy.Goals as goal

pub returns : goal.returns
returns g c = rw (← c.self.view_is) (record { done = calls_of_turn (TellsBusy c.args.server c.args.link) 0 c.self.inside.turns c.turn.new.self c.turn.result c.turn.ensures })
