use Rattle.channel_table.proofs.Base.{arith, sym, ap, subst, take, [], ◌∷◌, ◌++◌, List, ◌∙◌, take_more, AllByRecursion, each-append, IsListed, Row}
use Rattle.channel_table.proofs.ListedLemmas.{kept_listed}
use Rattle.channel_table.proofs.table.finding.list_all.Goals as goal

pub loop-index-preserved : goal.loop-index-preserved
loop-index-preserved g c =
    let rows : List (Row g.row.T.Denot) = c.args.rows.now.items in
    let before = kept_listed c.loop-index.waiting c.list_row.new.waiting (take c.loop-index.index rows) c.in_ok-list_row.ensures.kept c.loop-index.invariant in
    subst (AllByRecursion (IsListed c.list_row.new.waiting)) (ap (λ (r : Row g.row.T.Denot). take c.loop-index.index rows ++ r ∷ []) c.row_at.ensures ∙ sym (take_more rows c.loop-index.index c.row_at.result.now (omega (arith, c.loop-index-test.true, c.len-index-end.ensures))))
    (each-append (IsListed c.list_row.new.waiting) (take c.loop-index.index rows) (c.row_at.result.now ∷ []) before (c.in_ok-list_row.ensures.listed, tt))
