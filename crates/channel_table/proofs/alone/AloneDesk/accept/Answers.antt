use Rattle.channel_table.proofs.Desks.{accept_alone, accept_named}
use Rattle.channel_table.proofs.alone.AloneDesk.accept.Goals as goal

pub returns : goal.returns
returns g c = rw (← c.self.view_is) (record { done = accept_alone g.T.Token.name c.self.inside.voice c.self.inside.voice c.self.inside.table c.accept.new.self g.T.Token.plan c.args.spec c.args.token c.accept.result c.accept.ensures.done c.accept.ensures.tokens; named = accept_named g.T.Token.name c.self.inside.voice c.self.inside.voice c.self.inside.table c.accept.new.self c.args.token c.accept.result c.accept.ensures.tokens })
