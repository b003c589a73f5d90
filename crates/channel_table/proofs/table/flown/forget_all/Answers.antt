use Rattle.channel_table.proofs.Base.{List, arith, subst, AreFlown, all_lookups, Row}
use Rattle.channel_table.proofs.FlownRows.{drop_none, gone_step}
use Rattle.channel_table.proofs.table.flown.forget_all.Goals as goal

pub loop-index-preserved : goal.loop-index-preserved
loop-index-preserved g c = λ are.
    rw c.forget_lookups.ensures (gone_step c.loop-index.flown c.args.rows.now.items c.loop-index.index c.row_at.result.now (omega (arith, c.loop-index-test.true, c.len-index-end.ensures)) c.row_at.ensures (c.loop-index.invariant are))

pub returns : goal.returns
returns g c = λ are.
    subst (λ (rs : List (Row g.row.T.Denot)). AreFlown c.loop-index.flown (all_lookups rs)) (drop_none c.args.rows.now.items c.loop-index.index (omega (arith, c.loop-index-test.false, c.len-index-end.ensures))) (c.loop-index.invariant are)
