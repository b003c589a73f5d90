-- The entries that a channel of one owner gets while it runs: nobody commanded them, and none ends the channel or sets its servers.
use Rattle.std.specs.Prelude.{Bool, false, true, ◌&&◌, ◌==◌}
use Rattle.chan_types.specs.declared.journal.Entry.{Entry}
use Rattle.chan_types.specs.declared.journal.What.{What}
use Rattle.chan_types.specs.declared.journal.What.TheVariants.{Accept, Arrive, Cancel, Destroy, Expire, Fault, Start, Take, Servers}

-- the event leaves the channel running: it neither cancels nor destroys, nor does it set servers
abbrev pub leaves_running : What → Bool
leaves_running (Accept number spec script) = true
leaves_running Cancel = false
leaves_running Destroy = false
leaves_running (Take number) = true
leaves_running (Start number leg server link id mix moment) = true
leaves_running (Arrive server link bytes) = true
leaves_running (Expire number leg moment) = true
leaves_running (Fault server link moment) = true
leaves_running (Servers list) = false

-- the entry is of the channel's one seat, no callback commanded it, and it leaves the channel running
abbrev pub is_plain_entry : Entry → Bool
is_plain_entry entry = (entry.seat == 0) && (entry.by == 0) && leaves_running entry.what
