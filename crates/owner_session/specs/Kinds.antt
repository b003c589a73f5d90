-- The entries of a run's channel: which one the owner makes for himself, and which on a callback's command.
use Rattle.std.specs.List.{list_any}
use Rattle.std.specs.Prelude.{Bool, List, false, not, true, ◌&&◌, ◌==◌}
use Rattle.chan_types.specs.declared.journal.Entry.{Entry}
use Rattle.chan_types.specs.declared.journal.What.{What}
use Rattle.chan_types.specs.declared.journal.What.TheVariants.{Accept, Arrive, Cancel, Destroy, Expire, Fault, Servers, Start, Take}
use Rattle.channel_model.specs.Journal.{is_destroy}

-- the event cancels what is pending
abbrev pub is_cancel : What → Bool
is_cancel (Accept number spec script) = false
is_cancel Cancel = true
is_cancel Destroy = false
is_cancel (Take number) = false
is_cancel (Start number leg server link id mix moment) = false
is_cancel (Arrive server link bytes) = false
is_cancel (Expire number leg moment) = false
is_cancel (Fault server link moment) = false
is_cancel (Servers list) = false

-- the event sets servers
abbrev pub is_servers : What → Bool
is_servers (Accept number spec script) = false
is_servers Cancel = false
is_servers Destroy = false
is_servers (Take number) = false
is_servers (Start number leg server link id mix moment) = false
is_servers (Arrive server link bytes) = false
is_servers (Expire number leg moment) = false
is_servers (Fault server link moment) = false
is_servers (Servers list) = true

-- one of the entries sets servers
abbrev pub has_servers : List Entry → Bool
has_servers entries = list_any (λ entry. is_servers entry.what) entries

-- the entry is of the channel's one seat, and no Cancel stands there that no callback commanded
abbrev pub is_ruled : Entry → Bool
is_ruled entry = (entry.seat == 0) && not ((entry.by == 0) && is_cancel entry.what)

-- the same, and no Destroy stands there that no callback commanded
abbrev pub is_of_session : Entry → Bool
is_of_session entry = is_ruled entry && not ((entry.by == 0) && is_destroy entry.what)
