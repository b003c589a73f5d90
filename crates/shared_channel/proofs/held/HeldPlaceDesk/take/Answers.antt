use Rattle.channel_model.proofs.Theorems.{unknown_gives}
use Rattle.channel_model.specs.Meanings.{Takes}
use Rattle.shared_channel.specs.Under.{plan_of}
use Rattle.shared_channel.proofs.Telling.{calls_of_turn}
use Rattle.shared_channel.proofs.held.HeldPlaceDesk.take.Goals as goal

pub returns : goal.returns
returns g c = rw (← c.self.view_is) (record { done = calls_of_turn (Takes plan_of) 0 c.self.inside.account c.turn_held.new.account c.turn_held.result c.turn_held.ensures.turn; named = unknown_gives _ c.turn_held.result })
