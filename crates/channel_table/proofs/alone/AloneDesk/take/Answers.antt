use Rattle.channel_table.proofs.Desks.{take_alone, take_named}
use Rattle.channel_table.proofs.alone.AloneDesk.take.Goals as goal

pub returns : goal.returns
returns g c = rw (← c.self.view_is) (record { done = take_alone g.T.Token.name c.self.inside.voice 0 c.self.inside.table c.take.new.self g.T.Token.plan c.take.result c.take.ensures.done c.take.ensures.tokens; named = take_named g.T.Token.name c.self.inside.voice 0 c.self.inside.table c.take.new.self c.take.result c.take.ensures.tokens })
