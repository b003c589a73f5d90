-- What places do with a pool's tickets.
use Rattle.std.specs.Prelude.{List, map, ℕ, ◌++◌, ◌≡◌}
use Rattle.chan_types.specs.declared.answer.Answer.{Answer}
use Rattle.chan_types.specs.declared.orders.Orders.{Orders}
use Rattle.completion_ticket.specs.States.{CalledState}
use Rattle.delivery_pool.specs.Spending.{Drains, Works}
use Rattle.delivery_pool.specs.declared.message.Message.{Message}
use Rattle.shared_channel.specs.Passes.{PassView}
use Rattle.shared_channel.specs.Spending.{Spends}
use Rattle.ticket_queue.specs.Passes.{PassState}
use Rattle.pooled_places.specs.Tickets.{TicketState}

-- a ticket was spent through a place with these orders, which stay
abbrev pub SpendsTicket : Orders × PassView → TicketState → Orders × PassView → Type 0
SpendsTicket old its new = (new.0 ≡ old.0) × (called : CalledState) × Spends old.0 its.ticket old.1 called new.1

-- the answers of these tickets
abbrev pub answers_of : List TicketState → List Answer
answers_of tickets = map (λ its. its.ticket.call) tickets

-- it is the same place with the same orders, whatever was made, seen, told and lost through it since
abbrev pub StaysThere : Orders × PassView → Orders × PassView → Type 0
StaysThere old new = (new.0 ≡ old.0) × (new.1 ≡ record old.1 { own = new.1.own; seen = new.1.seen; calls = new.1.calls; lost = new.1.lost })

-- through a place with these orders a worker spent what it received, until a stop came; the answers that were told through the place grew by exactly those of its tickets
pub record WorksAt (count : ℕ) (old : PassState (Message TicketState)) (before : Orders × PassView) (new : PassState (Message TicketState)) (after : Orders × PassView) : Type 0 where
  pub works : Works SpendsTicket count old before new after
  pub told : after.1.calls ≡ before.1.calls ++ answers_of works.tickets
  pub stays : StaysThere before after

-- the same of what nobody had received
pub record DrainsAt (passes : List (PassState (Message TicketState))) (count : ℕ) (before after : Orders × PassView) : Type 0 where
  pub drains : Drains SpendsTicket passes count before after
  pub told : after.1.calls ≡ before.1.calls ++ answers_of drains.tickets
  pub stays : StaysThere before after
