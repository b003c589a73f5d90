use Rattle.shared_channel.proofs.turns.Turns.turn.Goals as goal

pub returns : goal.returns
returns g c = rw (← c.self.view_is) c.take_turn.ensures.turn
