use Rattle.channel_table.proofs.Desks.{servers_alone}
use Rattle.channel_table.proofs.alone.AloneDesk.set_servers.Goals as goal

pub returns : goal.returns
returns g c = rw (← c.self.view_is) (record { done = servers_alone g.T.Token.name c.self.inside.voice 0 c.self.inside.table c.set_servers.new.self c.args.servers.now c.set_servers.result c.set_servers.ensures.done c.set_servers.ensures.tokens })
