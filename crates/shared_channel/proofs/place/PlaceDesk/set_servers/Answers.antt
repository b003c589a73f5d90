use Rattle.channel_model.specs.Meanings.{SetsServers}
use Rattle.shared_channel.proofs.Telling.{calls_of_turn}
use Rattle.shared_channel.proofs.place.PlaceDesk.set_servers.Goals as goal

pub returns : goal.returns
returns g c = rw (← c.self.view_is) (record { done = calls_of_turn (SetsServers c.args.servers.now) 0 c.self.inside.turns c.turn.new.self c.turn.result c.turn.ensures })
