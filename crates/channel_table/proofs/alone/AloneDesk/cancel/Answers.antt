use Rattle.channel_table.proofs.Desks.{cancel_alone}
use Rattle.channel_table.proofs.alone.AloneDesk.cancel.Goals as goal

pub returns : goal.returns
returns g c = rw (← c.self.view_is) (record { done = cancel_alone g.T.Token.name c.self.inside.voice c.self.inside.voice c.self.inside.table c.cancel.new.self c.cancel.result c.cancel.ensures.done c.cancel.ensures.tokens })
