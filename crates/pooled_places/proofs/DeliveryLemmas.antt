-- Tickets that are spent through a place, one after the other: what is told through it, and that it stays the same place.
use Rattle.std.proofs.Common.{◌≡◌, ◌∙◌, ℕ, List, [], ◌∷◌, ◌++◌, ap, sym, append_assoc}
use Rattle.std.proofs.lemmas.List.{append-nil}
use Rattle.chan_types.specs.declared.orders.Orders.{Orders}
use Rattle.channel_model.specs.Known.{Calls}
use Rattle.channel_model.specs.Meanings.{Meaning}
use Rattle.delivery_pool.specs.Spending.{Drains, SpendsEach, Works}
use Rattle.delivery_pool.specs.declared.message.Message.{Message}
use Rattle.shared_channel.specs.Passes.{Belongings, PassView, belongings_code, belongings_of, desk_of}
use Rattle.ticket_queue.specs.Passes.{PassState}
use Rattle.pooled_places.specs.Delivery.{DrainsAt, SpendsTicket, StaysThere, WorksAt, answers_of}
use Rattle.pooled_places.specs.Tickets.{TicketState}

-- a call of a desk leaves a place at its channel
pub lock_stays : (meaning : Meaning) (by : ℕ) (old new : PassView) → Calls meaning by (desk_of old) (desk_of new) → new.lock ≡ old.lock
lock_stays meaning by old new call = ap (λ (b : Belongings). b.lock) (belongings_code.inj (belongings_of new) (belongings_of old) call.desk.home)

-- nothing happens through a place
stays_none : (old new : Orders × PassView) → new ≡ old → StaysThere old new
stays_none old new same =
    (ap (λ (s : Orders × PassView). s.0) same, ap (λ (s : Orders × PassView). s.1) same ∙ (λ i. record old.1 { own = sym (ap (λ (s : Orders × PassView). s.1.own) same) i; seen = sym (ap (λ (s : Orders × PassView). s.1.seen) same) i; calls = sym (ap (λ (s : Orders × PassView). s.1.calls) same) i; lost = sym (ap (λ (s : Orders × PassView). s.1.lost) same) i }))

-- a ticket is spent, and then others
stays_one : (its : TicketState) (old new : Orders × PassView) → SpendsTicket old its new → StaysThere old new
stays_one its old new spends = (spends.0, spends.2.rest)

stays_more : (old middle new : Orders × PassView) → StaysThere old middle → StaysThere middle new → StaysThere old new
stays_more old middle new first more =
    (more.0 ∙ first.0, more.1 ∙ ap (λ (p : PassView). record p { own = new.1.own; seen = new.1.seen; calls = new.1.calls; lost = new.1.lost }) first.1)

pub stays_each : (tickets : List TicketState) (old new : Orders × PassView) → SpendsEach SpendsTicket old tickets new → StaysThere old new
stays_each [] old new same = stays_none old new same
stays_each (t ∷ ts) old new each = stays_more old each.0 new (stays_one t old each.0 each.1) (stays_each ts each.0 new each.2)

-- their answers are told, and no other
pub told_each : (tickets : List TicketState) (old new : Orders × PassView) → SpendsEach SpendsTicket old tickets new → new.1.calls ≡ old.1.calls ++ answers_of tickets
told_each [] old new same = ap (λ (s : Orders × PassView). s.1.calls) same ∙ sym (append-nil old.1.calls)
told_each (t ∷ ts) old new each =
    told_each ts each.0 new each.2 ∙ ap (λ l. l ++ answers_of ts) each.1.2.calls ∙ append_assoc old.1.calls (t.ticket.call ∷ []) (answers_of ts)

-- a worker's place, and the place through which a pool is drained
pub works_at : (count : ℕ) (old : PassState (Message TicketState)) (before : Orders × PassView) (new : PassState (Message TicketState)) (after : Orders × PassView) → Works SpendsTicket count old before new after → WorksAt count old before new after
works_at count old before new after works = record { works = works; told = told_each works.tickets before after works.spent; stays = stays_each works.tickets before after works.spent }

pub drains_at : (passes : List (PassState (Message TicketState))) (count : ℕ) (before after : Orders × PassView) → Drains SpendsTicket passes count before after → DrainsAt passes count before after
drains_at passes count before after drains = record { drains = drains; told = told_each drains.tickets before after drains.spent; stays = stays_each drains.tickets before after drains.spent }
