use Rattle.channel_table.proofs.Base.{subst, sym, HasOneLink}
use Rattle.channel_table.proofs.LinkedLemmas.{tcp_is}
use Rattle.channel_table.proofs.table.rows.Rows.tcp_link.Goals as goal

pub returns : goal.returns
returns g c =
    rw (← c.self.view_is) (tcp_is c.args.server c.self.inside.links c.self.inside.list.items c.self.invariant.linked (subst (HasOneLink c.args.server) (sym c.self.view_is) c.requires) c.over_tcp.result c.over_tcp.ensures)
