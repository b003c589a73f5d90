use Rattle.std.proofs.Common.{◌+◌, ◌*◌}
use Rattle.chan_types.specs.PlanCode.{moves_size}
use Rattle.chan_types.specs.Scripts.{moves_of, inside_of}
use Rattle.journal_text.proofs.script_printing.+printing.Given as goal

-- what is inside a step is smaller than the steps
abbrev pub decreases-put_script : goal.decreases-put_script
decreases-put_script l = 3 * moves_size l.script.now.moves + 1

abbrev pub decreases-put_steps : goal.decreases-put_steps
decreases-put_steps l = 3 * moves_size (moves_of l.steps.now)

abbrev pub decreases-put_act : goal.decreases-put_act
decreases-put_act l = 3 * moves_size (inside_of l.act.now) + 2
