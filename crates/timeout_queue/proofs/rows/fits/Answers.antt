use Rattle.std.proofs.Common.{◌≡◌, rules, sym, ◌∙◌}
use Rattle.std.specs.Ordering.{is_le}
use Rattle.timeout_queue.specs.Key.{deadline_cmp}
use Rattle.timeout_queue.proofs.RowsLemmas.{fits_behind}
use Rattle.timeout_queue.proofs.rows.fits.Goals as goal

-- the last of the row isn't later
pub returns-in-Some : goal.returns-in-Some
returns-in-Some c = λ yes.
    let tested : c.le.result ≡ is_le (deadline_cmp c.in-Some.last.now c.args.deadline) = search rules in
    fits_behind _ _ c.args.deadline _ c.args.row.now.ok.0 c.requires c.in-Some.ensures.lookup (sym tested ∙ yes)
