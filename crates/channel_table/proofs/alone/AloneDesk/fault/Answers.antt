use Rattle.channel_table.proofs.Desks.{fault_alone}
use Rattle.channel_table.proofs.alone.AloneDesk.fault.Goals as goal

pub returns : goal.returns
returns g c = rw (← c.self.view_is) (record { done = fault_alone g.T.Token.name c.self.inside.voice 0 c.self.inside.table c.fault.new.self c.args.server c.args.link c.args.at c.fault.result c.fault.ensures.done c.fault.ensures.tokens })
