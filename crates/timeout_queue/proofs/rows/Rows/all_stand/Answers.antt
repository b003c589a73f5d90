use Rattle.std.proofs.Common.{arith}
use Rattle.std.proofs.lemmas.Bool.{eqb-true}
use Rattle.timeout_queue.proofs.StandLemmas.{led_by_count}
use Rattle.timeout_queue.proofs.rows.Rows.all_stand.Goals as goal

-- there are as many in the rows and the tree as there are keys
pub returns : goal.returns
returns c = λ yes.
    let rows = c.args.self.now in
    let same = eqb-true _ _ yes in
    led_by_count c.args.moments.now c.len-4.ensures.unique rows (omega (arith, same, c.saturating_add.ensures, c.len-4.ensures.small, c.len-4.ensures.len, c.len-3.ensures.len, c.len-2.ensures, c.len.ensures, rows.row.ok.0, rows.other.ok.0))
