use Rattle.channel_table.proofs.Base.{List, ap₂, arith, map, subst, ◌++◌, ◌∙◌, append-nil, take_all, AreLinked, row_set, Row}
use Rattle.channel_table.proofs.FlownRows.{drop_none}
use Rattle.channel_table.proofs.LinkedLemmas.{set_linked}
use Rattle.channel_table.proofs.table.linked.end_left.Goals as goal

pub loop-index-preserved : goal.loop-index-preserved
loop-index-preserved g c = λ are.
    set_linked c.loop-index.links c.end_left_in.new.links c.args.rows.now.items c.loop-index.index c.row_at.result.now (omega (arith, c.loop-index-test.true, c.len-index-end.ensures)) c.row_at.ensures c.args.list.now (c.loop-index.invariant are) c.end_left_in.ensures

pub returns : goal.returns
returns g c = λ are.
    let rows : List (Row g.row.T.Denot) = c.args.rows.now.items in
    subst (AreLinked c.loop-index.links)
    (ap₂ (λ (xs ys : List (Row g.row.T.Denot)). map (row_set c.args.list.now) xs ++ ys) (take_all c.loop-index.index rows (omega (arith, c.loop-index-test.false, c.len-index-end.ensures))) (drop_none rows c.loop-index.index (omega (arith, c.loop-index-test.false, c.len-index-end.ensures)))
    ∙ append-nil (map (row_set c.args.list.now) rows)) (c.loop-index.invariant are)
