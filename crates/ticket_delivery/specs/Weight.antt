-- How much callbacks may still command: the scripts that are left get smaller with each call, so deliveries come to their end.
use Rattle.std.specs.Option.{option_map_or}
use Rattle.std.specs.Prelude.{List, if◌then◌else◌, sum_by, ℕ, ◌==◌}
use Rattle.chan_types.specs.PlanCode.{plan_size}
use Rattle.chan_types.specs.declared.command.Command.{Command}
use Rattle.chan_types.specs.declared.command.Command.TheVariants.{Ask, Cancel, Destroy}
use Rattle.chan_types.specs.declared.journal.Entry.{Entry}
use Rattle.channel_model.specs.Completion.{occurrences, taken}
use Rattle.channel_model.specs.Journal.{Accepted, Past, accepted, accepted_by}

-- the size of the script that a command hands on, if it asks
abbrev pub command_size : Command → ℕ
command_size (Ask spec script) = plan_size script
command_size Cancel = 0
command_size Destroy = 0

-- the sizes of the scripts that commands hand on
abbrev pub commands_size : List Command → ℕ
commands_size commands = sum_by command_size commands

-- the size of the script with which an entry accepts a request, if it accepts one
abbrev pub script_size : Entry → ℕ
script_size entry = option_map_or (λ request. plan_size request.script) (accepted_by entry.what) 0

-- the sizes of the scripts with which entries accept requests
abbrev pub scripts_size : List Entry → ℕ
scripts_size entries = sum_by script_size entries

-- the size of a request's script, if the request isn't one of these that were taken
abbrev pub size_left : List ℕ → Accepted → ℕ
size_left numbers request = if occurrences request.number numbers == 0 then plan_size request.script else 0

-- the sizes of the scripts of all requests that weren't taken
abbrev pub weight : Past → ℕ
weight past = sum_by (size_left (taken past)) (accepted past)
