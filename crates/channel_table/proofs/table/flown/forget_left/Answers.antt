use Rattle.channel_table.proofs.Base.{List, ap₂, arith, map, subst, ◌++◌, ◌∙◌, append-nil, take_all, AreFlown, row_set, all_lookups, Row}
use Rattle.channel_table.proofs.FlownRows.{drop_none, set_step}
use Rattle.channel_table.proofs.table.flown.forget_left.Goals as goal

pub loop-index-preserved : goal.loop-index-preserved
loop-index-preserved g c = λ are.
    rw c.forget_left.ensures (set_step c.loop-index.flown c.args.rows.now.items c.loop-index.index c.row_at.result.now (omega (arith, c.loop-index-test.true, c.len-index-end.ensures)) c.row_at.ensures c.args.list.now (c.loop-index.invariant are))

pub returns : goal.returns
returns g c = λ are.
    let rows : List (Row g.row.T.Denot) = c.args.rows.now.items in
    subst (AreFlown c.loop-index.flown)
    (ap₂ (λ (xs ys : List (Row g.row.T.Denot)). all_lookups (map (row_set c.args.list.now) xs) ++ all_lookups ys) (take_all c.loop-index.index rows (omega (arith, c.loop-index-test.false, c.len-index-end.ensures))) (drop_none rows c.loop-index.index (omega (arith, c.loop-index-test.false, c.len-index-end.ensures)))
    ∙ append-nil (all_lookups (map (row_set c.args.list.now) rows))) (c.loop-index.invariant are)
