use Rattle.channel_table.proofs.Desks.{destroy_alone}
use Rattle.channel_table.proofs.alone.AloneDesk.destroy.Goals as goal

pub returns : goal.returns
returns g c = rw (← c.self.view_is) (record { done = destroy_alone g.T.Token.name c.self.inside.voice c.self.inside.voice c.self.inside.table c.destroy.new.self c.destroy.result c.destroy.ensures.done c.destroy.ensures.tokens })
