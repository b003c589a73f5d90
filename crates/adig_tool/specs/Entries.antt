-- The entries of a channel with one owner, its one request, and its orders.
use Rattle.std.specs.Prelude.{Bool, false, true, ◌&&◌, ◌==◌}
use Rattle.chan_types.specs.declared.journal.Entry.{Entry}
use Rattle.chan_types.specs.declared.journal.What.{What}
use Rattle.chan_types.specs.declared.journal.What.TheVariants.{Accept, Arrive, Cancel, Destroy, Expire, Fault, Servers, Start, Take}
use Rattle.chan_types.specs.declared.orders.Orders.{Orders}
use Rattle.chan_types.specs.declared.spec.Spec.{Spec}
use Rattle.chan_types.specs.Plans.{blank}
use Rattle.channel_model.specs.Journal.{Accepted}

-- nothing is ordered
abbrev pub no_orders : Orders
no_orders = record { follow = false; first = false; quit = false }

-- the request as it is accepted: it is the channel's first, and its callback commands nothing
abbrev pub first_request : Spec → Accepted
first_request spec = record { number = 1; spec = spec; script = blank 0 }

-- the event neither cancels what is pending, nor sets other servers
abbrev pub is_steady : What → Bool
is_steady (Accept number spec script) = true
is_steady Cancel = false
is_steady Destroy = true
is_steady (Take number) = true
is_steady (Start number leg server link id mix moment) = true
is_steady (Arrive server link bytes) = true
is_steady (Expire number leg moment) = true
is_steady (Fault server link moment) = true
is_steady (Servers list) = false

-- the entry is of the channel's one seat, no callback commanded it, and it neither cancels nor sets servers
abbrev pub is_own : Entry → Bool
is_own entry = (entry.seat == 0) && (entry.by == 0) && is_steady entry.what
