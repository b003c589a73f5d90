-- How a ticket is spent, and how a ready request is delivered.
use Rattle.std.specs.Prelude.{None, Option, Some, [], min, ℕ, ◌+◌, ◌++◌, ◌-◌, ◌^◌, ◌∷◌, ◌≡◌}
use Rattle.chan_types.specs.Gives.{gives}
use Rattle.chan_types.specs.declared.orders.Orders.{Orders}
use Rattle.chan_types.specs.declared.ticket.Ticket.{Ticket}
use Rattle.channel_model.specs.Known.{Calls}
use Rattle.channel_model.specs.Meanings.{Takes}
use Rattle.completion_ticket.specs.States.{CallbackState, CalledState, called_with}
use Rattle.shared_channel.specs.Passes.{PassView, desk_of}
use Rattle.shared_channel.specs.Under.{plan_of}
use Rattle.ticket_delivery.specs.Performing.{Performs}

-- a ticket was spent through a pass: its callback was told its answer, which is noted, and then the commands that the callback's script gives were performed
pub record Spends (orders : Orders) (ticket : Ticket CallbackState) (old : PassView) (called : CalledState) (new : PassView) : Type 0 where
  -- what is left of the callback has the request's number, and is the callback that the ticket had: by its name, and with a body exactly where that had one
  pub is_called : called ≡ called_with ticket.call.number ticket.token
  pub calls : new.calls ≡ old.calls ++ ticket.call ∷ []
  -- so many of the requests that it asked were lost, which is counted, as far as a count goes
  pub count : ℕ
  pub performed : Performs (gives ticket.token.plan ticket.call orders) ticket.call.number (desk_of old) (desk_of new) count
  pub lost : new.lost ≡ min (old.lost + count) (2 ^ 64 - 1)
  pub rest : new ≡ record old { own = new.own; seen = new.seen; calls = new.calls; lost = new.lost }

-- the first ready request was taken and its ticket spent; or none was ready
abbrev pub DeliversOne : Orders → PassView → Option CalledState → PassView → Type 0
DeliversOne orders old (Some called) new =
    (ticket : Ticket CallbackState) × (middle : PassView) × Calls (Takes plan_of (Some ticket)) 0 (desk_of old) (desk_of middle) × Spends orders ticket middle called new
DeliversOne orders old None new = Calls (Takes plan_of None) 0 (desk_of old) (desk_of new)
