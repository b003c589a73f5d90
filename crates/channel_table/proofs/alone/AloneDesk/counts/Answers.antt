use Rattle.channel_table.proofs.Base.{refl}
use Rattle.channel_table.proofs.Desks.{counts_alone}
use Rattle.channel_table.proofs.alone.AloneDesk.counts.Goals as goal

pub returns : goal.returns
returns g c = rw (← c.self.view_is) (record { done = counts_alone g.T.Token.name c.self.inside.voice 0 c.self.inside.table c.self.inside.table c.counts.result c.counts.ensures refl })
