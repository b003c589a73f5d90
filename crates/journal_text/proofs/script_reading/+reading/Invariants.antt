use Rattle.std.proofs.Common.{◌+◌, ◌*◌}
use Rattle.journal_text.proofs.script_reading.+reading.Given as goal

-- scripts inside are less deep; of one depth a script comes before its steps, a step before its act
abbrev pub decreases-read_script : goal.decreases-read_script
decreases-read_script l = 16 * l.deep

abbrev pub decreases-read_steps : goal.decreases-read_steps
decreases-read_steps l = 16 * l.deep + l.most + 3

abbrev pub decreases-read_step : goal.decreases-read_step
decreases-read_step l = 16 * l.deep + 2

abbrev pub decreases-read_act : goal.decreases-read_act
decreases-read_act l = 16 * l.deep + 1
