-- What callbacks command.
use Rattle.chan_types.specs.Plans.{Plan, cancel, reverse, step, stop}
use Rattle.chan_types.specs.Scripts.{deed_of, inside_of}
use Rattle.chan_types.specs.declared.orders.Need.TheVariants.{Nothing}
use Rattle.chan_types.specs.declared.orders.When.{When}
use Rattle.chan_types.specs.declared.orders.When.TheVariants.{Bad, Good}
use Rattle.chan_types.specs.declared.script.Act.{Act}

-- the script of one step, for which no order is needed
abbrev pub script_of : When → Act → Plan
script_of when act = record { tag = 0; moves = step when Nothing (deed_of act) (inside_of act) stop }

-- for a good answer: the names of its first address are asked for, with a callback that commands nothing
abbrev pub follow_up : Plan
follow_up = record { tag = 0; moves = step Good Nothing (reverse 0) stop stop }

-- for a bad answer: all that is pending is cancelled
abbrev pub give_up : Plan
give_up = record { tag = 0; moves = step Bad Nothing cancel stop stop }
