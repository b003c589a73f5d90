-- What entries do on nobody's command, beside takings and turns: what a thread does itself with a channel, and not for a callback.
use Rattle.std.specs.List.{filter_map}
use Rattle.std.specs.Prelude.{List, None, Option, Some, if◌then◌else◌, ◌==◌}
use Rattle.chan_types.specs.Plans.{Plan, blank}
use Rattle.chan_types.specs.declared.journal.Entry.{Entry}
use Rattle.chan_types.specs.declared.journal.What.{What}
use Rattle.chan_types.specs.declared.journal.What.TheVariants.{Accept, Arrive, Cancel, Destroy, Expire, Fault, Servers, Start, Take}
use Rattle.chan_types.specs.declared.server_key.ServerKey.{ServerKey}
use Rattle.chan_types.specs.declared.spec.Spec.{Spec}

-- a use of a channel: a request, by what it asks and the script of its callback; a cancel; a destroy; or a new list of servers
pub data Use : Type 0 where
  asking : Spec → Plan → Use
  cancelling : Use
  destroying : Use
  setting : List ServerKey → Use

-- the use that an event notes: takings and the events of turns note none
abbrev pub use_by : What → Option Use
use_by (Accept number spec script) = Some (asking spec script)
use_by Cancel = Some cancelling
use_by Destroy = Some destroying
use_by (Take number) = None
use_by (Start number leg server link id mix moment) = None
use_by (Arrive server link bytes) = None
use_by (Expire number leg moment) = None
use_by (Fault server link moment) = None
use_by (Servers list) = Some (setting list)

-- the use that an entry notes on nobody's command
abbrev pub free_use : Entry → Option Use
free_use entry = if entry.by == 0 then use_by entry.what else None

-- the uses that entries note on nobody's command, in order
abbrev pub uses_in : List Entry → List Use
uses_in entries = filter_map free_use entries

-- the request for this, with a callback that commands nothing
abbrev pub quiet_ask : Spec → Use
quiet_ask spec = asking spec (blank 0)
