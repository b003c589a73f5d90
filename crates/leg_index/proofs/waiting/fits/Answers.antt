use Rattle.std.proofs.Common.{◌≡◌, rules, sym, ◌∙◌}
use Rattle.std.specs.Ordering.{is_lt}
use Rattle.timeout_queue.specs.Key.{key_cmp}
use Rattle.leg_index.proofs.WaitingLemmas.{fits_behind, less_of}
use Rattle.leg_index.proofs.waiting.fits.Goals as goal

-- the last of the row comes before the leg
pub returns-in-Some : goal.returns-in-Some
returns-in-Some c = λ yes.
    let tested : c.lt.result ≡ is_lt (key_cmp c.in-Some.last.now c.args.leg) = search rules in
    fits_behind _ _ c.args.leg _ c.args.row.now.ok.0 c.requires c.in-Some.ensures.lookup (less_of _ (sym tested ∙ yes))
