use Rattle.channel_table.proofs.FlownRows.{free_is}
use Rattle.channel_table.proofs.table.rows.Rows.free_id.Goals as goal

pub returns : goal.returns
returns g c = rw (← c.self.view_is) (free_is c.self.inside.flown c.self.inside.list.items c.self.invariant.flown c.args.word c.first_free.result c.first_free.ensures)
