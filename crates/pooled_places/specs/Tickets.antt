-- What contracts see of a channel's tickets, and of a pool of them.
use Rattle.std.specs.Prelude.{None, Option, Some}
use Rattle.atomic_table.specs.Seated.{TableId}
use Rattle.chan_types.specs.declared.ticket.Ticket.{Ticket}
use Rattle.completion_ticket.specs.States.{CallbackState}
use Rattle.delivery_pool.specs.Pools.{PoolState}

-- a ticket, and which channel it is of
pub record TicketState : Type 0 where
  pub channel : TableId
  pub ticket : Ticket CallbackState

-- a pool, and whose tickets it carries
pub record ChannelPoolState : Type 0 where
  pub channel : TableId
  pub pool : PoolState TicketState

-- the ticket alone, if there is one
abbrev pub ticket_in : Option TicketState → Option (Ticket CallbackState)
ticket_in None = None
ticket_in (Some its) = Some its.ticket
