use Rattle.channel_table.proofs.Base.{◌∙◌}
use Rattle.channel_table.proofs.LinkedLemmas.{busy_is}
use Rattle.channel_table.proofs.table.rows.Rows.any_over.Goals as goal

pub returns : goal.returns
returns g c = rw (← c.self.view_is) (c.is_busy.ensures ∙ busy_is c.args.server c.args.link c.self.inside.links c.self.inside.list.items c.self.invariant.linked)
