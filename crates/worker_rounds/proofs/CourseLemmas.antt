-- What the owner does, one thing after the other; and which of the tickets that it takes it sends.
use Rattle.std.proofs.Common.{◌≡◌, ◌∙◌, List, [], ◌∷◌, ◌++◌, Option, Some, None, map, refl, ap, sym, subst, append_assoc, inl}
use Rattle.std.proofs.lemmas.List.{append-nil, map-append}
use Rattle.std.proofs.lemmas.List.Elements.{filter_map-append}
use Rattle.std.proofs.lemmas.List.Sorted.{IsPermutation-append, IsPermutation-append_comm, IsPermutation-append_left, IsPermutation-append_right, IsPermutation-refl, IsPermutation-trans}
use Rattle.std.specs.List.{AllByRecursion}
use Rattle.std.specs.List.Sorted.{IsPermutation}
use Rattle.std.specs.Prelude.{replicate, suc, zero, ℕ}
use mathlib.Core.List.{IsPrefix}
use Rattle.chan_types.specs.declared.answer.Answer.{Answer}
use Rattle.chan_types.specs.declared.journal.Entry.{Entry}
use Rattle.chan_types.specs.declared.orders.Orders.{Orders}
use Rattle.channel_model.specs.Completion.{fate, taken_by}
use Rattle.channel_model.specs.Journal.{past_of}
use Rattle.channel_model.specs.Known.{Calls, Known}
use Rattle.channel_model.specs.Meanings.{Takes}
use Rattle.channel_model.specs.Seen.{entries_of}
use Rattle.channel_model.proofs.Theorems.{each-append}
use Rattle.completion_ticket.specs.States.{CalledState}
use Rattle.delivery_pool.specs.Pools.{after_stops, messages_of, tickets_in}
use Rattle.delivery_pool.specs.declared.message.Message.{Message}
use Rattle.delivery_pool.specs.declared.message.Message.TheVariants.{Stop, Ticket as Sent}
use Rattle.pooled_places.specs.Delivery.{SpendsTicket, answers_of}
use Rattle.pooled_places.specs.Tickets.{TicketState}
use Rattle.pooled_places.proofs.Theorems.{same_pass}
use Rattle.shared_channel.specs.Passes.{PassView, desk_of}
use Rattle.shared_channel.specs.Settling.{IsFateSeen, taken_in}
use Rattle.shared_channel.specs.Spending.{Spends}
use Rattle.shared_channel.specs.Under.{plan_of}
use Rattle.shared_channel.proofs.Theorems.{fate_later}
use Rattle.ticket_queue.specs.Passes.{PassState, after_send}
use Rattle.worker_rounds.specs.Course.{Deed, DoesEach, DoesOne, Draws, MakesStep, Shares, delivering, finding_none, stepping, taking, tickets_spent, tickets_taken}
use Rattle.worker_rounds.specs.Going.{GoesAs, GoesFreely, IsOwners}
use Rattle.worker_rounds.proofs.GoingLemmas.{as_owner, desk_same, free_goes, free_takes, looks_freely, number_of, owner_more, owner_none, spend_goes, worker_takes}

-- the tickets among messages go on at the end
pub tickets_in-append : {T : Type 0} (xs ys : List (Message T)) → tickets_in (xs ++ ys) ≡ tickets_in xs ++ tickets_in ys
tickets_in-append [] ys = refl
tickets_in-append (Stop ∷ xs) ys = tickets_in-append xs ys
tickets_in-append (Sent ticket ∷ xs) ys = ap (λ l. ticket ∷ l) (tickets_in-append xs ys)

pub tickets_in-messages_of : {T : Type 0} (tickets : List T) → tickets_in (messages_of tickets) ≡ tickets
tickets_in-messages_of [] = refl
tickets_in-messages_of (ticket ∷ tickets) = ap (λ l. ticket ∷ l) (tickets_in-messages_of tickets)

tickets_in-stops : {T : Type 0} (count : ℕ) → tickets_in {T = T} (replicate count Stop) ≡ []
tickets_in-stops zero = refl
tickets_in-stops (suc count) = tickets_in-stops count

-- deeds behind deeds
taken_more : (first more : List Deed) → tickets_taken (first ++ more) ≡ tickets_taken first ++ tickets_taken more
taken_more [] more = refl
taken_more (taking its ∷ deeds) more = ap (λ l. its ∷ l) (taken_more deeds more)
taken_more (delivering its ∷ deeds) more = ap (λ l. its ∷ l) (taken_more deeds more)
taken_more (finding_none ∷ deeds) more = taken_more deeds more
taken_more (stepping ∷ deeds) more = taken_more deeds more

spent_more : (first more : List Deed) → tickets_spent (first ++ more) ≡ tickets_spent first ++ tickets_spent more
spent_more [] more = refl
spent_more (taking its ∷ deeds) more = spent_more deeds more
spent_more (delivering its ∷ deeds) more = ap (λ l. its ∷ l) (spent_more deeds more)
spent_more (finding_none ∷ deeds) more = spent_more deeds more
spent_more (stepping ∷ deeds) more = spent_more deeds more

-- four lists, of which the two in the middle change places
pub crossed : {X : Type 0} (ws xs ys zs : List X) → IsPermutation ((ws ++ xs) ++ (ys ++ zs)) ((ws ++ ys) ++ (xs ++ zs))
crossed ws xs ys zs =
    let inner : IsPermutation (xs ++ (ys ++ zs)) (ys ++ (xs ++ zs)) =
    subst (λ l. IsPermutation l (ys ++ (xs ++ zs))) (append_assoc xs ys zs) (subst (IsPermutation ((xs ++ ys) ++ zs)) (append_assoc ys xs zs) (IsPermutation-append_left zs (xs ++ ys) (ys ++ xs) (IsPermutation-append_comm xs ys))) in
    subst (λ l. IsPermutation l ((ws ++ ys) ++ (xs ++ zs))) (sym (append_assoc ws xs (ys ++ zs)))
    (subst (IsPermutation (ws ++ (xs ++ (ys ++ zs)))) (sym (append_assoc ws ys (xs ++ zs))) (IsPermutation-append_right ws (xs ++ (ys ++ zs)) (ys ++ (xs ++ zs)) inner))

-- a pass that only sent
pub sent_alone : (old new : PassState (Message TicketState)) (sent : List (Message TicketState)) → new ≡ record old { sent = sent } → new ≡ record old { sent = new.sent }
sent_alone old new sent is = is ∙ (λ i. record old { sent = sym (ap (λ (p : PassState (Message TicketState)). p.sent) is) i })

-- what a pass saw as fates it still does
pub fates_stay : (old new : PassView) → IsPrefix old.seen new.seen → new.setting ≡ old.setting → (answers : List Answer) → AllByRecursion (IsFateSeen old) answers → AllByRecursion (IsFateSeen new) answers
fates_stay old new p same [] each = tt
fates_stay old new p same (a ∷ bs) each =
    (subst (λ s. fate s a.number (past_of new.seen) ≡ Some a) (sym same) (fate_later old.setting a.number a old.seen new.seen p each.0), fates_stay old new p same bs each.1)

module _ {P : Type 0} (steps : P → Known → P → Known → Type 0) where
  does_more : (orders : Orders) (first more : List Deed) (old middle new : PassView × P) → DoesEach steps orders first old middle → DoesEach steps orders more middle new → DoesEach steps orders (first ++ more) old new
  does_more orders [] more old middle new same each = subst (λ s. DoesEach steps orders more s new) same each
  does_more orders (d ∷ ds) more old middle new first each = (first.0, first.1, does_more orders ds more first.0 middle new first.2 each)

  -- the place stays at its channel
  pub drawing_lock : (place seeing new : PassView) (pump next : P) → Calls (Takes plan_of None) 0 (desk_of place) (desk_of seeing) → MakesStep steps (seeing, pump) (new, next) → new.lock ≡ place.lock
  drawing_lock place seeing new pump next untaken step = ap (λ (p : PassView). p.lock) (same_pass seeing new step.0.goes_on.desk) ∙ ap (λ (p : PassView). p.lock) (same_pass place seeing untaken.desk)

  -- so far nothing was taken
  pub drawn_none : (place : PassView) (pump : P) → Draws steps place pump None place pump
  drawn_none place pump = record { deeds = []; waiting = place; course = λ orders. refl; taken_are = refl; spent_are = refl; takes = refl }

  module _ (place_old : PassView) (pump_old : P) (place : PassView) (pump : P) where
    drawn_course : (so_far : Draws steps place_old pump_old None place pump) (orders : Orders) → DoesEach steps orders so_far.deeds (place_old, pump_old) (place, pump)
    drawn_course so_far orders = subst (λ p. DoesEach steps orders so_far.deeds (place_old, pump_old) (p, pump)) (sym so_far.takes) (so_far.course orders)

    -- and once more a request isn't ready, and a step is made
    pub drawn_more : (seeing new : PassView) (next : P) → Draws steps place_old pump_old None place pump → Calls (Takes plan_of None) 0 (desk_of place) (desk_of seeing) → MakesStep steps (seeing, pump) (new, next) → Draws steps place_old pump_old None new next
    drawn_more seeing new next so_far untaken step =
        record {
          deeds = so_far.deeds ++ (finding_none ∷ stepping ∷ []);
          waiting = new;
          course = λ orders. does_more orders so_far.deeds (finding_none ∷ stepping ∷ []) (place_old, pump_old) (place, pump) (new, next) (drawn_course so_far orders) ((seeing, pump), (untaken, refl), ((new, next), step, refl));
          taken_are = taken_more so_far.deeds (finding_none ∷ stepping ∷ []) ∙ append-nil (tickets_taken so_far.deeds) ∙ so_far.taken_are;
          spent_are = spent_more so_far.deeds (finding_none ∷ stepping ∷ []) ∙ append-nil (tickets_spent so_far.deeds) ∙ so_far.spent_are;
          takes = refl;
        }

    -- and then one is taken
    pub drawn_one : (its : TicketState) (new : PassView) → Draws steps place_old pump_old None place pump → Calls (Takes plan_of (Some its.ticket)) 0 (desk_of place) (desk_of new) → its.channel ≡ place.lock → Draws steps place_old pump_old (Some its) new pump
    drawn_one its new so_far taken here = record { deeds = so_far.deeds; waiting = place; course = drawn_course so_far; taken_are = so_far.taken_are; spent_are = so_far.spent_are; takes = (taken, here) }

  module _ (orders : Orders) where
    pub shares_none : (state : PassView × P) (right : PassState (Message TicketState)) → Shares steps orders state right state right
    shares_none state right = record { deeds = []; course = refl; sent = []; sends = sym (append-nil (tickets_in right.sent)); shared = IsPermutation-refl []; right_is = refl }

    pub shares_more : (old middle new : PassView × P) (right0 right1 right2 : PassState (Message TicketState)) → Shares steps orders old right0 middle right1 → Shares steps orders middle right1 new right2 → Shares steps orders old right0 new right2
    shares_more old middle new right0 right1 right2 first more = record {
      deeds = first.deeds ++ more.deeds;
      course = does_more orders first.deeds more.deeds old middle new first.course more.course;
      sent = first.sent ++ more.sent;
      sends = more.sends ∙ ap (λ l. l ++ more.sent) first.sends ∙ append_assoc (tickets_in right0.sent) first.sent more.sent;
      shared = subst (λ l. IsPermutation l ((first.sent ++ more.sent) ++ tickets_spent (first.deeds ++ more.deeds))) (sym (taken_more first.deeds more.deeds))
          (subst (λ l. IsPermutation (tickets_taken first.deeds ++ tickets_taken more.deeds) ((first.sent ++ more.sent) ++ l)) (sym (spent_more first.deeds more.deeds))
          (IsPermutation-trans (tickets_taken first.deeds ++ tickets_taken more.deeds) ((first.sent ++ tickets_spent first.deeds) ++ (more.sent ++ tickets_spent more.deeds)) ((first.sent ++ more.sent) ++ (tickets_spent first.deeds ++ tickets_spent more.deeds))
          (IsPermutation-append (tickets_taken first.deeds) (first.sent ++ tickets_spent first.deeds) (tickets_taken more.deeds) (more.sent ++ tickets_spent more.deeds) first.shared more.shared)
          (crossed first.sent (tickets_spent first.deeds) more.sent (tickets_spent more.deeds))));
      right_is = more.right_is ∙ ap (λ (p : PassState (Message TicketState)). record p { sent = right2.sent }) first.right_is;
    }

    -- of the same lists, both ways of a ticket
    settles : (deeds : List Deed) (sent taken spent : List TicketState) → tickets_taken deeds ≡ taken → tickets_spent deeds ≡ spent → taken ≡ sent ++ spent → IsPermutation (tickets_taken deeds) (sent ++ tickets_spent deeds)
    settles deeds sent taken spent taken_is spent_is same =
        subst (IsPermutation (tickets_taken deeds)) (taken_is ∙ same ∙ ap (λ l. sent ++ l) (sym spent_is)) (IsPermutation-refl (tickets_taken deeds))

    module _ (place_old : PassView) (pump_old : P) (place : PassView) (pump : P) (right new : PassState (Message TicketState)) where
      -- a ticket that is drawn is sent
      pub shares_sent : (its : TicketState) → Draws steps place_old pump_old (Some its) place pump → new ≡ after_send right (Sent its) → Shares steps orders (place_old, pump_old) right (place, pump) new
      shares_sent its draw is = record {
        deeds = draw.deeds ++ taking its ∷ [];
        course = does_more orders draw.deeds (taking its ∷ []) (place_old, pump_old) (draw.waiting, pump) (place, pump) (draw.course orders) ((place, pump), (draw.takes, refl), refl);
        sent = its ∷ [];
        sends = ap (λ (p : PassState (Message TicketState)). tickets_in p.sent) is ∙ tickets_in-append right.sent (Sent its ∷ []);
        shared = settles (draw.deeds ++ taking its ∷ []) (its ∷ []) (its ∷ []) [] (taken_more draw.deeds (taking its ∷ []) ∙ ap (λ l. l ++ its ∷ []) draw.taken_are) (spent_more draw.deeds (taking its ∷ []) ∙ append-nil (tickets_spent draw.deeds) ∙ draw.spent_are) refl;
        right_is = sent_alone right new (right.sent ++ Sent its ∷ []) is;
      }

      -- or it is spent
      pub shares_spent : (its : TicketState) (given behind : Orders) (after : PassView) (next : P) → Draws steps place_old pump_old (Some its) place pump → given ≡ orders → new ≡ right → SpendsTicket (given, place) its (behind, after) → next ≡ pump → Shares steps orders (place_old, pump_old) right (after, next) new
      shares_spent its given behind after next draw same is spends stays = record {
        deeds = draw.deeds ++ delivering its ∷ [];
        course = does_more orders draw.deeds (delivering its ∷ []) (place_old, pump_old) (draw.waiting, pump) (after, next) (draw.course orders)
            ((after, next), (place, spends.1, draw.takes, subst (λ o. Spends o its.ticket place spends.1 after) same spends.2, stays), refl);
        sent = [];
        sends = ap (λ (p : PassState (Message TicketState)). tickets_in p.sent) is ∙ sym (append-nil (tickets_in right.sent));
        shared = settles (draw.deeds ++ delivering its ∷ []) [] (its ∷ []) (its ∷ []) (taken_more draw.deeds (delivering its ∷ []) ∙ ap (λ l. l ++ its ∷ []) draw.taken_are) (spent_more draw.deeds (delivering its ∷ []) ∙ ap (λ l. l ++ its ∷ []) draw.spent_are) refl;
        right_is = is ∙ (λ i. record right { sent = sym (ap (λ (p : PassState (Message TicketState)). p.sent) is) i });
      }

      -- none is drawn, and each worker is told to stop
      pub shares_stops : (count : ℕ) → Draws steps place_old pump_old None place pump → new ≡ after_stops count right → Shares steps orders (place_old, pump_old) right (place, pump) new
      shares_stops count draw is = record {
        deeds = draw.deeds;
        course = drawn_course place_old pump_old place pump draw orders;
        sent = [];
        sends = ap (λ (p : PassState (Message TicketState)). tickets_in p.sent) is ∙ tickets_in-append right.sent (replicate count Stop) ∙ ap (λ l. tickets_in right.sent ++ l) (tickets_in-stops count);
        shared = settles draw.deeds [] [] [] draw.taken_are draw.spent_are refl;
        right_is = sent_alone right new (right.sent ++ replicate count Stop) is;
      }

    -- a step that a pump makes
    pub shares_step : (old new : PassView × P) (right : PassState (Message TicketState)) → MakesStep steps old new → Shares steps orders old right new right
    shares_step old new right step = record { deeds = stepping ∷ []; course = (new, step, refl); sent = []; sends = sym (append-nil (tickets_in right.sent)); shared = IsPermutation-refl []; right_is = refl }

  -- what a course comes to, by the place alone: who made what through it; the answers that it told, and those of the requests that it took, as their fates
  pub record ComesTo (deeds : List Deed) (old new : PassView) : Type 0 where
    pub goes : GoesAs IsOwners old new
    pub calls : new.calls ≡ old.calls ++ answers_of (tickets_spent deeds)
    pub taken : taken_in new.own ≡ taken_in old.own ++ map number_of (answers_of (tickets_taken deeds))
    pub fates : AllByRecursion (IsFateSeen new) (answers_of (tickets_taken deeds))

  comes_none : (old new : PassView) → new ≡ old → ComesTo [] old new
  comes_none old new same = record {
    goes = owner_none old new same;
    calls = ap (λ (p : PassView). p.calls) same ∙ sym (append-nil old.calls);
    taken = ap (λ (p : PassView). taken_in p.own) same ∙ sym (append-nil (taken_in old.own));
    fates = tt;
  }

  -- one thing, and then others
  comes_more : (deed : Deed) (deeds : List Deed) (old middle new : PassView) → ComesTo (deed ∷ []) old middle → ComesTo deeds middle new → ComesTo (deed ∷ deeds) old new
  comes_more deed deeds old middle new first more = record {
    goes = owner_more old middle new first.goes more.goes;
    calls = more.calls ∙ ap (λ l. l ++ answers_of (tickets_spent deeds)) first.calls ∙ append_assoc old.calls (answers_of (tickets_spent (deed ∷ []))) (answers_of (tickets_spent deeds))
        ∙ ap (λ l. old.calls ++ l) (sym (map-append (λ (its : TicketState). its.ticket.call) (tickets_spent (deed ∷ [])) (tickets_spent deeds)) ∙ ap answers_of (sym (spent_more (deed ∷ []) deeds)));
    taken = more.taken ∙ ap (λ l. l ++ map number_of (answers_of (tickets_taken deeds))) first.taken ∙ append_assoc (taken_in old.own) (map number_of (answers_of (tickets_taken (deed ∷ [])))) (map number_of (answers_of (tickets_taken deeds)))
        ∙ ap (λ l. taken_in old.own ++ l) (sym (map-append number_of (answers_of (tickets_taken (deed ∷ []))) (answers_of (tickets_taken deeds))) ∙ ap (map number_of) answers_are);
    fates = subst (AllByRecursion (IsFateSeen new)) answers_are
        (each-append (IsFateSeen new) (answers_of (tickets_taken (deed ∷ []))) (answers_of (tickets_taken deeds)) (fates_stay middle new more.goes.seen (ap (λ (p : PassView). p.setting) more.goes.same) (answers_of (tickets_taken (deed ∷ []))) first.fates) more.fates);
  }
    where
      answers_are : answers_of (tickets_taken (deed ∷ [])) ++ answers_of (tickets_taken deeds) ≡ answers_of (tickets_taken (deed ∷ deeds))
      answers_are = sym (map-append (λ (its : TicketState). its.ticket.call) (tickets_taken (deed ∷ [])) (tickets_taken deeds)) ∙ ap answers_of (sym (taken_more (deed ∷ []) deeds))

  -- one thing alone
  take_comes : (its : TicketState) (old new : PassView) → Calls (Takes plan_of (Some its.ticket)) 0 (desk_of old) (desk_of new) → ComesTo (taking its ∷ []) old new
  take_comes its old new call =
      let added : List Entry = entries_of old.number 0 call.added in
      let calls_are : new.calls ≡ old.calls = ap (λ (p : PassView). p.calls) (same_pass old new call.desk) in
      let setting_is : new.setting ≡ old.setting = call.desk.setting in
      record {
        goes = record {
          same = desk_same old new call.desk;
          told = [];
          calls = calls_are ∙ sym (append-nil old.calls);
          made = added;
          own = call.own;
          seen = (call.stands.others ++ added, sym (append_assoc old.seen call.stands.others added) ∙ ap (λ h. h ++ added) (sym call.stands.parts) ∙ sym call.seen);
          each = subst (λ a. AllByRecursion (IsOwners new.calls) (entries_of old.number 0 a)) (sym call.meant.0) (inl refl, tt);
        };
        calls = calls_are ∙ sym (append-nil old.calls);
        taken = ap taken_in call.own ∙ filter_map-append (λ (entry : Entry). taken_by entry.what) old.own added ∙ ap (λ a. taken_in old.own ++ taken_in (entries_of old.number 0 a)) call.meant.0;
        fates = (subst (λ s. fate s its.ticket.call.number (past_of new.seen) ≡ Some its.ticket.call) (sym setting_is) (fate_later old.setting its.ticket.call.number its.ticket.call call.here new.seen (added, sym call.seen) call.meant.2), tt);
      }

  free_comes : (deed : Deed) (old new : PassView) → tickets_taken (deed ∷ []) ≡ [] → tickets_spent (deed ∷ []) ≡ [] → GoesFreely (desk_of old) (desk_of new) → ComesTo (deed ∷ []) old new
  free_comes deed old new none_taken none_spent by = record {
    goes = free_goes old new by;
    calls = ap (λ (p : PassView). p.calls) (same_pass old new by.goes_on.desk) ∙ sym (append-nil old.calls) ∙ ap (λ l. old.calls ++ answers_of l) (sym none_spent);
    taken = free_takes old new by ∙ sym (append-nil (taken_in old.own)) ∙ ap (λ l. taken_in old.own ++ map number_of (answers_of l)) (sym none_taken);
    fates = subst (λ l. AllByRecursion (IsFateSeen new) (answers_of l)) (sym none_taken) tt;
  }

  deliver_comes : (orders : Orders) (its : TicketState) (called : CalledState) (old middle new : PassView) → Calls (Takes plan_of (Some its.ticket)) 0 (desk_of old) (desk_of middle) → Spends orders its.ticket middle called new → ComesTo (delivering its ∷ []) old new
  deliver_comes orders its called old middle new call spends =
      let taken = take_comes its old middle call in
      let goes = spend_goes orders its.ticket called middle new spends in
      record {
        goes = owner_more old middle new taken.goes (as_owner middle new goes);
        calls = spends.calls ∙ ap (λ (p : PassView). p.calls ++ its.ticket.call ∷ []) (same_pass old middle call.desk);
        taken = worker_takes middle new goes ∙ taken.taken;
        fates = fates_stay middle new goes.seen (ap (λ (p : PassView). p.setting) goes.same) (its.ticket.call ∷ []) taken.fates;
      }

  one_comes : (orders : Orders) (deed : Deed) (old new : PassView × P) → DoesOne steps orders deed old new → ComesTo (deed ∷ []) old.0 new.0
  one_comes orders (taking its) old new does = take_comes its old.0 new.0 does.0.0
  one_comes orders (delivering its) old new does = deliver_comes orders its does.1 old.0 does.0 new.0 does.2.0 does.3
  one_comes orders finding_none old new does = free_comes finding_none old.0 new.0 refl refl (looks_freely (Takes plan_of None) (desk_of old.0) (desk_of new.0) does.0 does.0.meant.0)
  one_comes orders stepping old new does = free_comes stepping old.0 new.0 refl refl does.0

  pub course_comes : (orders : Orders) (deeds : List Deed) (old new : PassView × P) → DoesEach steps orders deeds old new → ComesTo deeds old.0 new.0
  course_comes orders [] old new same = comes_none old.0 new.0 (ap (λ (s : PassView × P). s.0) same)
  course_comes orders (d ∷ ds) old new each = comes_more d ds old.0 each.0.0 new.0 (one_comes orders d old each.0 each.1) (course_comes orders ds each.0 new each.2)
