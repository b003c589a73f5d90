use Rattle.std.proofs.Common.{ap, sym, subst, List}
use Rattle.timeout_queue.specs.Rows.{is_live, Thins}
use Rattle.timeout_queue.specs.declared.key.Deadline.{Deadline}
use Rattle.timeout_queue.proofs.RowsLemmas.{extends, thins_refl}
use Rattle.timeout_queue.proofs.rows.push.Goals as goal
use Rattle.timeout_queue.proofs.rows.push.Goals.{then-len, else-len}

-- the row may have been thinned before
pub returns-clause-ok : goal.returns-clause-ok
returns-clause-ok c =
    let live = is_live c.args.moments.now in
    let Thinned : List Deadline → Type 0 = Thins live c.args.row.now.items in
    extends live _ c.if-len.row.items _ c.args.deadline c.requires.rising c.requires.behind
    (elim c.if-len.branch [
      | then-len w ↦ subst Thinned (sym (ap (λ r. r.items) w.row-is)) w.thin.ensures
      | else-len w ↦ subst Thinned (sym (ap (λ r. r.items) w.row-is)) (thins_refl live c.args.row.now.items)
    ]) c.in_ok-push_back.ensures.items
