use Rattle.std.proofs.Common.{◌+◌, ◌*◌}
use Rattle.chan_types.specs.PlanCode.{moves_size}
use Rattle.chan_types.specs.Scripts.{inside_of, moves_of}
use Rattle.journal_laws.proofs.fitting.+fits.Given as goal

-- what is inside a step is smaller than the steps
abbrev pub decreases-script_fits : goal.decreases-script_fits
decreases-script_fits l = 3 * moves_size l.script.now.moves + 1

abbrev pub decreases-steps_fit : goal.decreases-steps_fit
decreases-steps_fit l = 3 * moves_size (moves_of l.steps.now)

abbrev pub decreases-act_fits : goal.decreases-act_fits
decreases-act_fits l = 3 * moves_size (inside_of l.act.now) + 2
