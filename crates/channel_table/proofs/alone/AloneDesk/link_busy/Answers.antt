use Rattle.channel_table.proofs.Base.{refl}
use Rattle.channel_table.proofs.Desks.{busy_alone}
use Rattle.channel_table.proofs.alone.AloneDesk.link_busy.Goals as goal

pub returns : goal.returns
returns g c = rw (← c.self.view_is) (record { done = busy_alone g.T.Token.name c.self.inside.voice 0 c.self.inside.table c.self.inside.table c.args.server c.args.link c.link_busy.result c.link_busy.ensures refl })
