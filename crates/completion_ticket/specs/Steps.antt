-- What one step of a script commands.
use Rattle.std.specs.Prelude.{◌&&◌, if◌then◌else◌, List, []}
use Rattle.chan_types.specs.Gives.{is_for, is_ordered, commanded}
use Rattle.chan_types.specs.Scripts.{deed_of, inside_of}
use Rattle.chan_types.specs.declared.answer.Answer.{Answer}
use Rattle.chan_types.specs.declared.command.Command.{Command}
use Rattle.chan_types.specs.declared.orders.Orders.{Orders}
use Rattle.chan_types.specs.declared.script.Step.{Step}

-- what the step commands, if it is for this answer and its order was given
abbrev pub commands_of_step : Step → Answer → Orders → List Command
commands_of_step step answer orders =
    if is_for step.when answer.status && is_ordered step.need orders then commanded (deed_of step.act) (inside_of step.act) answer.addresses else []
