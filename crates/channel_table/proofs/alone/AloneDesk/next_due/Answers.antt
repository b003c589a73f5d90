use Rattle.channel_table.proofs.Base.{refl}
use Rattle.channel_table.proofs.Desks.{due_alone}
use Rattle.channel_table.proofs.alone.AloneDesk.next_due.Goals as goal

pub returns : goal.returns
returns g c = rw (← c.self.view_is) (record { done = due_alone g.T.Token.name c.self.inside.voice 0 c.self.inside.table c.self.inside.table c.next_due.result c.next_due.ensures refl })
