use Rattle.channel_table.proofs.Desks.{arrive_alone}
use Rattle.channel_table.proofs.alone.AloneDesk.arrive.Goals as goal

pub returns : goal.returns
returns g c = rw (← c.self.view_is) (record { done = arrive_alone g.T.Token.name c.self.inside.voice 0 c.self.inside.table c.arrive.new.self c.args.server c.args.link c.args.bytes.now c.arrive.result c.arrive.ensures.done c.arrive.ensures.tokens })
