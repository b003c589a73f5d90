-- Tickets that are taken one after the other and then spent: a pass to which that happens tells the answers of all that it takes, and stays settled.
use Rattle.std.proofs.Common.{ℕ, List, [], ◌∷◌, ◌++◌, Some, inl, inr, map, refl, sym, subst}
use Rattle.std.proofs.lemmas.List.{append-nil}
use Rattle.chan_types.specs.declared.answer.Answer.{Answer}
use Rattle.chan_types.specs.declared.orders.Orders.{Orders}
use Rattle.chan_types.specs.declared.ticket.Ticket.{Ticket}
use Rattle.channel_model.specs.Known.{Calls}
use Rattle.channel_model.specs.Meanings.{Takes}
use Rattle.completion_ticket.specs.States.{CallbackState, CalledState}
use Rattle.shared_channel.specs.Delivering.{DeliversUpTo, EndsTaking, SpendsEach, TakesEach, TakesUpTo}
use Rattle.shared_channel.specs.Passes.{PassView, desk_of}
use Rattle.shared_channel.specs.Spending.{Spends}
use Rattle.shared_channel.specs.Staying.{StaysSettled}
use Rattle.shared_channel.specs.Under.{plan_of}
use Rattle.shared_channel.proofs.GoingLemmas.{Moved, WentOn, moved_none, moved_on, moved_spend, moved_take, moved_untaken, went_moved}
use Rattle.shared_channel.proofs.StayLemmas.{stays}

-- the answers of these tickets
abbrev answers : List (Ticket CallbackState) → List Answer
answers tickets = map (λ (ticket : Ticket CallbackState). ticket.call) tickets

-- one more ticket that is taken
pub takes_more : (tickets : List (Ticket CallbackState)) (ticket : Ticket CallbackState) (old middle new : PassView) → TakesEach old tickets middle → Calls (Takes plan_of (Some ticket)) 0 (desk_of middle) (desk_of new) → TakesEach old (tickets ++ ticket ∷ []) new
takes_more [] ticket old middle new same one = (new, subst (λ p. Calls (Takes plan_of (Some ticket)) 0 (desk_of p) (desk_of new)) same one, refl)
takes_more (t ∷ ts) ticket old middle new each one = (each.0, each.1, takes_more ts ticket each.0 middle new each.2 one)

-- one more ticket that is spent
pub spends_more : (orders : Orders) (tickets : List (Ticket CallbackState)) (ticket : Ticket CallbackState) (calleds : List CalledState) (called : CalledState) (old middle new : PassView) → SpendsEach orders tickets old calleds middle → Spends orders ticket middle called new → SpendsEach orders (tickets ++ ticket ∷ []) old (calleds ++ called ∷ []) new
spends_more orders [] ticket [] called old middle new same one = (new, subst (λ p. Spends orders ticket p called new) same one, refl)
spends_more orders [] ticket (c ∷ cs) called old middle new none one = absurd none
spends_more orders (t ∷ ts) ticket [] called old middle new none one = absurd none
spends_more orders (t ∷ ts) ticket (c ∷ cs) called old middle new each one = (each.0, each.1, spends_more orders ts ticket cs called each.0 middle new each.2 one)

-- by tickets that are taken, and by those that are spent
moved_takes : (tickets : List (Ticket CallbackState)) (old new : PassView) → TakesEach old tickets new → Moved (answers tickets) [] old new
moved_takes [] old new same = subst (Moved [] [] old) (sym same) (moved_none old)
moved_takes (t ∷ ts) old new each = moved_on (t.call ∷ []) [] (answers ts) [] old each.0 new (moved_take t old each.0 each.1) (moved_takes ts each.0 new each.2)

moved_spends : (orders : Orders) (tickets : List (Ticket CallbackState)) (calleds : List CalledState) (old new : PassView) → SpendsEach orders tickets old calleds new → Moved [] (answers tickets) old new
moved_spends orders [] [] old new same = subst (Moved [] [] old) (sym same) (moved_none old)
moved_spends orders [] (c ∷ cs) old new none = absurd none
moved_spends orders (t ∷ ts) [] old new none = absurd none
moved_spends orders (t ∷ ts) (c ∷ cs) old new each = moved_on [] (t.call ∷ []) [] (answers ts) old each.0 new (moved_spend orders t c old each.0 each.1) (moved_spends orders ts cs each.0 new each.2)

-- by the end of the taking, which takes nothing
moved_ending : (most : ℕ) (tickets : List (Ticket CallbackState)) (old new : PassView) → EndsTaking most tickets old new → Moved [] [] old new
moved_ending most tickets old new (inl full) = subst (Moved [] [] old) (sym full.1) (moved_none old)
moved_ending most tickets old new (inr none) = moved_untaken old new none.1

moved_taking : (most : ℕ) (tickets : List (Ticket CallbackState)) (old new : PassView) → TakesUpTo most old tickets new → Moved (answers tickets) [] old new
moved_taking most tickets old new takes =
    subst (λ taken. Moved taken [] old new) (append-nil (answers tickets))
    (moved_on (answers tickets) [] [] [] old takes.middle new (moved_takes tickets old takes.middle takes.each) (moved_ending most tickets takes.middle new takes.ending))

-- by up to so many deliveries
pub went_deliveries_up_to : (orders : Orders) (most : ℕ) (calleds : List CalledState) (old new : PassView) → DeliversUpTo orders most old calleds new → WentOn old new
went_deliveries_up_to orders most calleds old new delivers =
    let told : List Answer = answers delivers.tickets in
    went_moved told old new
    (subst (λ taken. Moved taken told old new) (append-nil told)
    (moved_on told [] [] told old delivers.middle new (moved_taking most delivers.tickets old delivers.middle delivers.takes) (moved_spends orders delivers.tickets calleds delivers.middle new delivers.spends)))

-- a pass stays settled through which up to so many requests are delivered
pub stays_deliveries : (orders : Orders) (most : ℕ) (calleds : List CalledState) (old new : PassView) → DeliversUpTo orders most old calleds new → StaysSettled old new
stays_deliveries orders most calleds old new delivers = stays old new (went_deliveries_up_to orders most calleds old new delivers)
