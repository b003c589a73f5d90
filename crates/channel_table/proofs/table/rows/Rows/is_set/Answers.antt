use Rattle.channel_table.proofs.Base.{List, ap, eqb-true, sym, ◌∙◌, sum_by, forced_in, Row}
use Rattle.channel_table.proofs.LeaveLemmas.{rows_same}
use Rattle.channel_table.proofs.table.rows.Rows.is_set.Goals as goal

pub returns-then-self-eq0 : goal.returns-then-self-eq0
returns-then-self-eq0 g c = λ so.
    let rows : List (Row g.row.T.Denot) = c.args.self.now in
    let forced = ap (sum_by forced_in) (sym c.self.view_is) ∙ sym c.self.invariant.tally.forced ∙ c.if-self-eq0.true in
    rows_same c.args.list.now rows (sym c.count_left.ensures ∙ eqb-true c.count_left.result 0 so) forced
