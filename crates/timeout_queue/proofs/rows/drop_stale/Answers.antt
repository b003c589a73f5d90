use Rattle.std.proofs.Common.{sym, ◌∙◌}
use Rattle.timeout_queue.specs.Rows.{is_live}
use Rattle.timeout_queue.proofs.RowsLemmas.{keeps_trans, keeps_popped}
use Rattle.timeout_queue.proofs.rows.drop_stale.Goals as goal

-- the first leaves where it isn't live
pub loop-first-preserved : goal.loop-first-preserved
loop-first-preserved c =
    let live = is_live c.args.moments.now in
    let stale = sym c.stands.ensures ∙ c.if-stands.false in
    keeps_trans live _ _ _ c.loop-first.invariant (keeps_popped live _ _ c.pop_front.result _ c.pop_front.ensures.items c.in-Some.ensures.lookup stale)
