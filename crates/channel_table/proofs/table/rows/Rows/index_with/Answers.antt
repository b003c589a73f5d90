use Rattle.channel_table.proofs.Base.{List, subst, sym, ◌∙◌, AllByRecursion, IsNumbered, Row}
use Rattle.channel_table.proofs.StrayLemmas.{none_flown_with, only_with}
use Rattle.channel_table.proofs.table.rows.Rows.index_with.Goals as goal

pub returns-in-Some : goal.returns-in-Some
returns-in-Some g c =
    let rows : List (Row g.row.T.Denot) = c.self.inside.list.items in
    let numbered = subst (λ (rs : List (Row g.row.T.Denot)). AllByRecursion IsNumbered rs) (sym c.self.view_is) c.requires in
    rw (← c.self.view_is) (only_with c.self.inside.flown rows c.self.invariant.flown c.args.id c.in-Some.leg (sym c.leg.ensures ∙ c.in-Some.is) numbered c.find_row.result c.find_row.ensures)

pub returns-in-None : goal.returns-in-None
returns-in-None g c = rw (← c.self.view_is) (none_flown_with c.self.inside.flown c.self.inside.list.items c.self.invariant.flown c.args.id (sym c.leg.ensures ∙ c.in-None.is))
