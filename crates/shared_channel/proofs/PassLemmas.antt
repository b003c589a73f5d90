-- What a desk tells of its pass: a desk that is the same is one of a pass that has all that it had; and a ticket that is spent through the desk is one that is spent through the pass.
use Rattle.std.proofs.Common.{◌≡◌, ◌∙◌, ℕ, ◌+◌, ◌-◌, ◌^◌, List, [], ◌∷◌, ◌++◌, ap, subst, sym}
use Rattle.std.specs.Prelude.{min}
use Rattle.chan_types.specs.Gives.{gives}
use Rattle.chan_types.specs.declared.answer.Answer.{Answer}
use Rattle.chan_types.specs.declared.command.Command.{Command}
use Rattle.chan_types.specs.declared.orders.Orders.{Orders}
use Rattle.chan_types.specs.declared.ticket.Ticket.{Ticket}
use Rattle.channel_model.specs.Known.{IsSameDesk}
use Rattle.completion_ticket.specs.States.{CallbackState, CalledState, called_with}
use Rattle.shared_channel.specs.Passes.{PassView, belongings_code, belongings_of, desk_of}
use Rattle.shared_channel.specs.Spending.{Spends}
use Rattle.ticket_delivery.specs.Performing.{Performs}
use Rattle.ticket_delivery.proofs.Theorems.{performs_home}

pub rest_of : (old new : PassView) → IsSameDesk (desk_of old) (desk_of new) → new ≡ record old { own = new.own; seen = new.seen }
rest_of old new same =
    let has : belongings_of new ≡ belongings_of old = belongings_code.inj (belongings_of new) (belongings_of old) same.home in
    λ i. record {
      lock = (has i).lock;
      seats = (has i).seats;
      number = same.seat i;
      setting = same.setting i;
      own = new.own;
      seen = new.seen;
      joined = (has i).joined;
      calls = (has i).calls;
      lost = (has i).lost;
    }

-- the commands were performed through the desk of the pass between, which then noted the call and what was lost
pub spends_noted : (orders given : Orders) (ticket : Ticket CallbackState) (called : CalledState) (call : Answer) (old between new : PassView) (count : ℕ) → given ≡ orders → called ≡ called_with ticket.call.number ticket.token
    → call ≡ ticket.call → IsSameDesk (desk_of old) (desk_of between) → Performs (gives ticket.token.plan ticket.call given) ticket.call.number (desk_of old) (desk_of between) count
    → new ≡ record between { calls = between.calls ++ call ∷ []; lost = min (between.lost + count) (2 ^ 64 - 1) } → Spends orders ticket old called new
spends_noted orders given ticket called call old between new count given_is is_called call_is same done noted =
    let rest = rest_of old between same in
    let commands : List Command = gives ticket.token.plan ticket.call orders in
    let made : PassView = record between { calls = between.calls ++ call ∷ []; lost = min (between.lost + count) (2 ^ 64 - 1) } in
    subst (Spends orders ticket old called) (sym noted) (record {
      is_called = is_called;
      calls = ap (λ a. between.calls ++ a ∷ []) call_is ∙ ap (λ p. p.calls ++ ticket.call ∷ []) rest;
      count = count;
      performed = performs_home commands ticket.call.number (desk_of old) (desk_of between) count (desk_of made).home
          (subst (λ o. Performs (gives ticket.token.plan ticket.call o) ticket.call.number (desk_of old) (desk_of between) count) given_is done);
      lost = ap (λ p. min (p.lost + count) (2 ^ 64 - 1)) rest;
      rest = ap (λ (p : PassView). record p { calls = made.calls; lost = made.lost }) rest;
    })
