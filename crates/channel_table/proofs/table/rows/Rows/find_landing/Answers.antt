use Rattle.channel_table.proofs.Base.{List, None, Some, subst, sym, IsOnlyWith, id_of, Row}
use Rattle.channel_table.proofs.StrayLemmas.{none_found, only_result}
use Rattle.channel_table.proofs.table.rows.Rows.find_landing.Goals as goal

pub returns-in-Some : goal.returns-in-Some
returns-in-Some g c =
    let only = subst (λ (rs : List (Row g.row.T.Denot)). IsOnlyWith (id_of c.args.bytes.now) rs (Some c.in-Some.index)) (sym c.self.view_is) c.in-Some.ensures in
    rw (← c.self.view_is) (only_result c.args.flags c.args.server c.args.link c.args.bytes.now c.self.inside.list.items c.in-Some.index c.row_at.result.now c.row_landing.result c.self.invariant.rising only c.row_at.ensures c.row_landing.ensures)

pub returns-in-None : goal.returns-in-None
returns-in-None g c =
    let none = subst (λ (rs : List (Row g.row.T.Denot)). IsOnlyWith (id_of c.args.bytes.now) rs None) (sym c.self.view_is) c.in-None.ensures in
    rw (← c.self.view_is) (none_found c.args.flags c.args.server c.args.link c.args.bytes.now c.self.inside.list.items none)
