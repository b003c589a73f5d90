use Rattle.channel_table.proofs.Base.{List, Row}
use Rattle.channel_table.proofs.DueLookupLemmas.{first_found}
use Rattle.channel_table.proofs.table.rows.Rows.first_lookup.Goals as goal

pub returns : goal.returns
returns g c =
    let rows : List (Row g.row.T.Denot) = c.self.inside.list.items in
    let found = c.in_ok-index.ensures in
    rw (← c.self.view_is) (first_found c.self.inside.flown rows c.in_ok-index.index c.row_at.result.now c.in_ok-leg.leg c.in_ok-leg.due c.lookup_due.result c.self.invariant.flown c.in_ok-leg.ensures found.0 c.row_at.ensures c.lookup_due.ensures)
