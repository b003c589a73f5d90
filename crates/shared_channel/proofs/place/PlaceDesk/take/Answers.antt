use Rattle.channel_model.proofs.Theorems.{unknown_gives}
use Rattle.channel_model.specs.Meanings.{Takes}
use Rattle.shared_channel.specs.Under.{plan_of}
use Rattle.shared_channel.proofs.Telling.{calls_of_turn}
use Rattle.shared_channel.proofs.place.PlaceDesk.take.Goals as goal

pub returns : goal.returns
returns g c = rw (← c.self.view_is) (record { done = calls_of_turn (Takes plan_of) 0 c.self.inside.turns c.turn.new.self c.turn.result c.turn.ensures; named = unknown_gives _ c.turn.result })
