use Rattle.channel_table.proofs.Desks.{expire_alone}
use Rattle.channel_table.proofs.alone.AloneDesk.expire.Goals as goal

pub returns : goal.returns
returns g c = rw (← c.self.view_is) (record { done = expire_alone g.T.Token.name c.self.inside.voice 0 c.self.inside.table c.expire.new.self c.args.at c.expire.result c.expire.ensures.done c.expire.ensures.tokens })
