-- How what is ready is delivered: it is taken, its callback is called, and what the callback commands is performed.
use Rattle.std.specs.FinMap as finite
use Rattle.std.specs.Prelude.{List, None, Option, Some, [], min, ℕ, ◌+◌, ◌++◌, ◌-◌, ◌^◌, ◌∷◌, ◌≡◌}
use Rattle.chan_types.specs.Gives.{gives}
use Rattle.chan_types.specs.declared.orders.Orders.{Orders}
use Rattle.chan_types.specs.declared.ticket.Ticket.{Ticket}
use Rattle.channel_model.specs.Known.{Calls}
use Rattle.channel_model.specs.Meanings.{Takes}
use Rattle.channel_model.specs.Names.{GivesName}
use Rattle.channel_table.specs.Calling.{Owned, known_by_owner}
use Rattle.completion_ticket.specs.States.{CallbackState, CalledState, called_with, token_name}
use Rattle.hosts_file.specs.declared.hosts.Hosts.{Hosts}
use Rattle.resolv_options.specs.declared.options.Options.{Options}
use Rattle.owner_session.specs.Places.{PlacesState}
use Rattle.owner_session.specs.declared.caller.Caller.{Caller}
use Rattle.ticket_delivery.specs.Performing.{Performs, plan_of}

-- a channel with these options and hosts before its first entry
abbrev pub fresh : Options → Hosts → Owned
fresh options hosts = record { setting = record { options = options; hosts = hosts }; voice = 0; seen = []; names = finite.empty }

-- its owner, whose callbacks go by these orders, before anything was called or lost, and without bodies
abbrev pub fresh_caller : {B : Type 0} → Options → Hosts → Orders → Caller B
fresh_caller options hosts orders =
    record {
      alone = fresh options hosts;
      hand = record { orders = orders; commands = [] };
      calls = [];
      lost = 0;
      places = record { back = []; rest = [] };
    }

-- no command is on the way, and the owner speaks for himself
pub record IsIdle {B : Type 0} (caller : Caller B) : Type 0 where
  pub no_command : caller.hand.commands ≡ []
  pub own_voice : caller.alone.voice ≡ 0

-- a callback was told the answer of its request, which is noted, and then the commands that its script gives were performed, on that request's command
pub record Spends {B : Type 0} (ticket : Ticket CallbackState) (called : CalledState) (old new : Caller B) : Type 0 where
  -- what is left of the callback has the request's number, and is the callback that the ticket had: by its name, and with a body exactly where that had one
  pub is_called : called ≡ called_with ticket.call.number ticket.token
  pub calls : new.calls ≡ old.calls ++ ticket.call ∷ []
  -- so many of the requests that it asked were lost, which is counted, as far as a count goes
  pub count : ℕ
  pub performed : Performs (gives ticket.token.plan ticket.call old.hand.orders) ticket.call.number (known_by_owner old.alone) (known_by_owner new.alone) count
  pub lost : new.lost ≡ min (old.lost + count) (2 ^ 64 - 1)
  pub voice : new.alone.voice ≡ old.alone.voice
  pub hand : new.hand ≡ old.hand
  pub places : new.places ≡ old.places

-- the first ready request was taken, with the token with which it was accepted, by its name, and its ticket was spent: so the callback that was accepted is called; or none was ready, and all is as it was
abbrev pub DeliversOne : {B : Type 0} → Option CalledState → Caller B → Caller B → Type 0
DeliversOne (Some called) old new =
    (ticket : Ticket CallbackState) × (taken : Owned) × Calls (Takes plan_of (Some ticket)) 0 (known_by_owner old.alone) (known_by_owner taken)
    × GivesName token_name (Some ticket) (known_by_owner old.alone).names × Spends ticket called (record old { alone = taken }) new
DeliversOne None old new =
    Calls (Takes plan_of None) 0 (known_by_owner old.alone) (known_by_owner new.alone) × (new ≡ record old { alone = new.alone })

-- ready requests were delivered one after the other, this is left of their callbacks, and behind each delivery places may have changed
abbrev pub DeliversSome : {B : Type 0} → List CalledState → Caller B → Caller B → Type 0
DeliversSome [] old new = new ≡ old
DeliversSome {B} (called ∷ more) old new =
    (middle : Caller B) × (places : PlacesState B) × DeliversOne (Some called) old middle × DeliversSome more (record middle { places = places }) new

-- and then none was ready
pub record DeliversAll {B : Type 0} (old new : Caller B) : Type 0 where
  pub called : List CalledState
  pub middle : Caller B
  pub some : DeliversSome called old middle
  pub none : DeliversOne None middle new
