-- Turns with a take, one behind the other, are takes of the pass.
use Rattle.std.proofs.Common.{◌≡◌, ℕ, List, [], ◌∷◌, Option, Some, None, inl, inr, ap, sym, subst}
use Rattle.std.specs.Prelude.{IsSome}
use Rattle.chan_types.specs.declared.answer.Answer.{Answer}
use Rattle.chan_types.specs.declared.journal.Entry.{Entry}
use Rattle.chan_types.specs.declared.ticket.Ticket.{Ticket}
use Rattle.channel_model.specs.Known.{Calls}
use Rattle.channel_model.specs.Meanings.{Takes}
use Rattle.completion_ticket.specs.States.{CallbackState}
use Rattle.hosts_file.specs.declared.hosts.Hosts.{Hosts}
use Rattle.resolv_options.specs.declared.options.Options.{Options}
use Rattle.seat_lock.specs.History.{AreSeatTurns, EndsFinding, FindsEach, IsSeatTurn, SeatView, made_by}
use Rattle.shared_channel.specs.Delivering.{EndsTaking, TakesEach, TakesUpTo}
use Rattle.shared_channel.specs.Passes.{PassView, desk_of, pass_of}
use Rattle.shared_channel.specs.Under.{Does, plan_of, setting_by}
use Rattle.shared_channel.proofs.Telling.{calls_of_turn, pass_turn, still_set, the_same}

abbrev Seat : Type 0
Seat = SeatView Entry (Options × Hosts)

abbrev maker : Entry → ℕ
maker entry = entry.seat

-- what a take means
abbrev means : Options × Hosts → List Entry → ℕ → Option (Ticket CallbackState) → List Entry → Type 0
means setting before seat reply after = Does (Takes plan_of reply) 0 setting before seat after

-- what the seat made is all that the journal has of it
abbrev IsAware : Seat → Type 0
IsAware seat = seat.own ≡ made_by maker seat.number seat.seen

-- one seat has one pass
same_pass : (old new : Seat) (p : IsSome old.setting) (q : IsSome new.setting) (calls : List Answer) (lost : ℕ) → new ≡ old → pass_of new q calls lost ≡ pass_of old p calls lost
same_pass old new p q calls lost same =
    λ i. record {
      lock = (same i).lock;
      seats = (same i).seats;
      number = (same i).number;
      setting = setting_by (the_same old.setting new.setting p q (ap (λ k. k.setting) same) i);
      own = (same i).own;
      seen = (same i).seen;
      joined = (same i).joined;
      calls = calls;
      lost = lost;
    }

-- after a turn of a seat that was aware, it is aware
still_aware : (reply : Option (Ticket CallbackState)) (old new : Seat) → IsSeatTurn maker means old reply new → IsAware new
still_aware reply old new turn = subst (λ n. new.own ≡ made_by maker n new.seen) (sym (ap (λ k. k.number) turn.same)) turn.filter

module _ (calls : List Answer) (lost : ℕ) where
  -- a turn with a take is one of the pass
  one_taken : (reply : Option (Ticket CallbackState)) (old new : Seat) (p : IsSome old.setting) (q : IsSome new.setting) → IsAware old → IsSeatTurn maker means old reply new
      → Calls (Takes plan_of reply) 0 (desk_of (pass_of old p calls lost)) (desk_of (pass_of new q calls lost))
  one_taken reply old new p q aware turn = calls_of_turn (Takes plan_of) 0 (pass_of old p calls lost) (pass_of new q calls lost) reply (pass_turn means old new p q calls lost reply aware turn)

  -- and so are several, after which the seat has its setting, and is aware
  each_taken : (tickets : List (Ticket CallbackState)) (old new : Seat) (p : IsSome old.setting) → IsAware old → FindsEach maker means old tickets new
      → (q : IsSome new.setting) × IsAware new × TakesEach (pass_of old p calls lost) tickets (pass_of new q calls lost)
  each_taken [] old new p aware same =
      let q : IsSome new.setting = subst (λ (k : Seat). IsSome k.setting) (sym same) p in (q, subst IsAware (sym same) aware, same_pass old new p q calls lost same)
  each_taken (ticket ∷ tickets) old new p aware each =
      let middle : Seat = each.0 in
      let r : IsSome middle.setting = still_set old middle each.1.same p in
      let rest = each_taken tickets middle new r (still_aware (Some ticket) old middle each.1) each.2 in
      (rest.0, rest.1, (pass_of middle r calls lost, one_taken (Some ticket) old middle p r aware each.1, rest.2))

  -- with their end
  ends_taking : (most : ℕ) (tickets : List (Ticket CallbackState)) (old new : Seat) (p : IsSome old.setting) (q : IsSome new.setting) → IsAware old → EndsFinding maker means most tickets old new
      → EndsTaking most tickets (pass_of old p calls lost) (pass_of new q calls lost)
  ends_taking most tickets old new p q aware (inl full) = inl (full.0, same_pass old new p q calls lost full.1)
  ends_taking most tickets old new p q aware (inr none) = inr (none.0, one_taken None old new p q aware none.1)

  pub takes_of_turns : (most : ℕ) (tickets : List (Ticket CallbackState)) (old new : Seat) (p : IsSome old.setting) (q : IsSome new.setting) (was : PassView) → pass_of old p calls lost ≡ was → IsAware old
      → AreSeatTurns maker means most old tickets new → TakesUpTo most was tickets (pass_of new q calls lost)
  takes_of_turns most tickets old new p q was is aware turns =
      let each = each_taken tickets old turns.middle p aware turns.each in
      subst (λ (b : PassView). TakesUpTo most b tickets (pass_of new q calls lost)) is
      (record { middle = pass_of turns.middle each.0 calls lost; each = each.2; ending = ends_taking most tickets turns.middle new each.0 q each.1 turns.ending })

-- turns with a take leave a seat aware
aware_end : (most : ℕ) (tickets : List (Ticket CallbackState)) (old new : Seat) → IsAware old → EndsFinding maker means most tickets old new → IsAware new
aware_end most tickets old new aware (inl full) = subst IsAware (sym full.1) aware
aware_end most tickets old new aware (inr none) = still_aware None old new none.1

pub aware_of_turns : (most : ℕ) (tickets : List (Ticket CallbackState)) (old new : Seat) → IsSome old.setting → IsAware old → AreSeatTurns maker means most old tickets new → IsAware new
aware_of_turns most tickets old new p aware turns = aware_end most tickets turns.middle new (each_taken [] 0 tickets old turns.middle p aware turns.each).1 turns.ending
