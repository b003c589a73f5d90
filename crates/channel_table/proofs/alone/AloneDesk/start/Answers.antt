use Rattle.channel_table.proofs.Desks.{start_alone}
use Rattle.channel_table.proofs.alone.AloneDesk.start.Goals as goal

pub returns : goal.returns
returns g c = rw (← c.self.view_is) (record { done = start_alone g.T.Token.name c.self.inside.voice 0 c.self.inside.table c.start.new.self c.args.word c.args.mix c.args.at c.start.result c.start.ensures.done c.start.ensures.tokens })
