-- How a channel's tickets go from hand to hand, so that behind a pool's end none is outside.
use Rattle.std.proofs.Common.{◌≡◌, ◌∙◌, ℕ, List, [], ◌∷◌, ◌++◌, Some, map, refl, ap, ap₂, sym, subst, append_assoc, inl, arith}
use Rattle.std.proofs.lemmas.List.{append-nil, map-append}
use Rattle.std.proofs.lemmas.List.Concat.{flat_map-cons}
use Rattle.std.proofs.lemmas.List.Elements.{All-from_recursion, filter_map-append, recursion_from_All}
use Rattle.std.proofs.lemmas.List.Sorted.{All-permutation, IsPermutation-append_comm, IsPermutation-append_left, IsPermutation-append_right, IsPermutation-cons, IsPermutation-map, IsPermutation-middle, IsPermutation-refl, IsPermutation-sym, IsPermutation-to_front, IsPermutation-trans}
use Rattle.std.specs.List.{AllByRecursion, range_with_len}
use Rattle.std.specs.List.Sorted.{IsPermutation}
use Rattle.std.specs.Prelude.{length, replicate, suc, zero, ◌<◌}
use mathlib.Core.List.{IsPrefix}
use Rattle.atomic_table.specs.Seated.{TableId}
use Rattle.chan_types.specs.declared.answer.Answer.{Answer}
use Rattle.chan_types.specs.declared.journal.Entry.{Entry}
use Rattle.chan_types.specs.declared.journal.What.{What}
use Rattle.chan_types.specs.declared.journal.What.TheVariants.{Accept, Arrive, Cancel, Destroy, Expire, Fault, Servers, Start, Take}
use Rattle.chan_types.specs.declared.orders.Orders.{Orders}
use Rattle.chan_types.specs.declared.ticket.Ticket.{Ticket}
use Rattle.channel_model.specs.Completion.{fate, taken_by}
use Rattle.channel_model.specs.Journal.{own_entries, past_of}
use Rattle.channel_model.specs.Known.{Calls, IsSameDesk}
use Rattle.channel_model.specs.Meanings.{Takes}
use Rattle.channel_model.specs.Seen.{entries_of}
use Rattle.channel_model.specs.Setting.{Setting}
use Rattle.channel_model.proofs.Theorems.{each-append}
use Rattle.channel_table.specs.Commanded.{IsOfCommand}
use Rattle.completion_ticket.specs.States.{CallbackState, CalledState}
use Rattle.delivery_pool.specs.Pools.{after_stops, messages_of, tickets_got, tickets_in, tickets_sent}
use Rattle.delivery_pool.specs.Spending.{SpendsEach, Works}
use Rattle.delivery_pool.specs.Parts.{EachDoes}
use Rattle.delivery_pool.specs.Rounds.{WorkersPart}
use Rattle.delivery_pool.specs.declared.working.Worker.{Worker}
use Rattle.delivery_pool.proofs.Theorems.{each_keeps}
use Rattle.delivery_pool.specs.declared.message.Message.{Message}
use Rattle.delivery_pool.specs.declared.message.Message.TheVariants.{Stop, Ticket as Sent}
use Rattle.shared_channel.specs.Passes.{PassView, belongings_code, belongings_of, desk_of}
use Rattle.shared_channel.specs.Settling.{AreSettled, IsFateSeen, IsSeenByOne, IsSettled, taken_in, taken_through, told_through}
use Rattle.shared_channel.specs.Finishing.{AreAllPasses, IsOneOf}
use Rattle.shared_channel.specs.Making.{IsNewChannel}
use Rattle.shared_channel.proofs.Theorems.{all_stay_none, fate_later, may_finish}
use Rattle.shared_channel.specs.Spending.{Spends}
use Rattle.shared_channel.specs.Under.{plan_of}
use Rattle.ticket_queue.specs.Passes.{PassState, after_send}
use Rattle.pooled_places.specs.Delivery.{SpendsTicket, answers_of}
use Rattle.pooled_places.specs.Standing.{AreStill, SenderStands, StaysQuiet, WorkerStands}
use Rattle.pooled_places.proofs.DeliveryLemmas.{stays_each, told_each}
use Rattle.pooled_places.specs.Tickets.{TicketState}

-- the number of an answer
abbrev number_of : Answer → ℕ
number_of answer = answer.number

-- the tickets among messages, and the answers of tickets, go on at the end
tickets_in-append : {T : Type 0} (xs ys : List (Message T)) → tickets_in (xs ++ ys) ≡ tickets_in xs ++ tickets_in ys
tickets_in-append [] ys = refl
tickets_in-append (Stop ∷ xs) ys = tickets_in-append xs ys
tickets_in-append (Sent ticket ∷ xs) ys = ap (λ l. ticket ∷ l) (tickets_in-append xs ys)

tickets_in-messages_of : {T : Type 0} (tickets : List T) → tickets_in (messages_of tickets) ≡ tickets
tickets_in-messages_of [] = refl
tickets_in-messages_of (ticket ∷ tickets) = ap (λ l. ticket ∷ l) (tickets_in-messages_of tickets)

tickets_in-stops : {T : Type 0} (count : ℕ) → tickets_in {T = T} (replicate count Stop) ≡ []
tickets_in-stops zero = refl
tickets_in-stops (suc count) = tickets_in-stops count

answers-append : (xs ys : List TicketState) → answers_of (xs ++ ys) ≡ answers_of xs ++ answers_of ys
answers-append = map-append (λ (its : TicketState). its.ticket.call)

-- what entries take goes on at the end, and entries of commands take nothing
taken_in-append : (xs ys : List Entry) → taken_in (xs ++ ys) ≡ taken_in xs ++ taken_in ys
taken_in-append = filter_map-append (λ (entry : Entry). taken_by entry.what)

none_taken : (by : ℕ) (entries : List Entry) → AllByRecursion (λ (entry : Entry). (entry.by ≡ by) × IsOfCommand entry.what) entries → taken_in entries ≡ []
none_taken by [] each = refl
none_taken by (e ∷ es) each = by_what e.what refl each.0.1 ∙ none_taken by es each.1
  where
    by_what : (what : What) → e.what ≡ what → IsOfCommand what → taken_in (e ∷ es) ≡ taken_in es
    by_what (Accept number spec script) is of_command = rw is refl
    by_what Cancel is of_command = rw is refl
    by_what Destroy is of_command = rw is refl
    by_what (Take number) is of_command = absurd of_command
    by_what (Start number leg server link id mix moment) is of_command = absurd of_command
    by_what (Arrive server link bytes) is of_command = absurd of_command
    by_what (Expire number leg moment) is of_command = absurd of_command
    by_what (Fault server link moment) is of_command = absurd of_command
    by_what (Servers list) is of_command = absurd of_command

spends_untaken : (orders : Orders) (ticket : Ticket CallbackState) (called : CalledState) (old new : PassView) → Spends orders ticket old called new → taken_in new.own ≡ taken_in old.own
spends_untaken orders ticket called old new spends =
    let done = spends.performed in
    ap taken_in done.own ∙ taken_in-append old.own (own_entries old.number done.since)
    ∙ ap (λ l. taken_in old.own ++ l) (none_taken ticket.call.number (own_entries old.number done.since) done.commanded) ∙ append-nil (taken_in old.own)

-- what a pass saw as fates it still does
fates_stay : (old new : PassView) → IsPrefix old.seen new.seen → new.setting ≡ old.setting → (answers : List Answer) → AllByRecursion (IsFateSeen old) answers → AllByRecursion (IsFateSeen new) answers
fates_stay old new p same [] each = tt
fates_stay old new p same (a ∷ bs) each =
    (subst (λ s. fate s a.number (past_of new.seen) ≡ Some a) (sym same) (fate_later old.setting a.number a old.seen new.seen p each.0), fates_stay old new p same bs each.1)

-- an item at the front of all, in the middle, and at the end
to_middle : {X : Type 0} (x : X) (xs ys zs : List X) → IsPermutation (x ∷ (xs ++ (ys ++ zs))) (xs ++ ((ys ++ x ∷ []) ++ zs))
to_middle x xs ys zs =
    let front : xs ++ (ys ++ zs) ≡ (xs ++ ys) ++ zs = sym (append_assoc xs ys zs) in
    let back : (xs ++ ys) ++ x ∷ zs ≡ xs ++ ((ys ++ x ∷ []) ++ zs) = append_assoc xs ys (x ∷ zs) ∙ ap (λ l. xs ++ l) (sym (append_assoc ys (x ∷ []) zs)) in
    subst (IsPermutation (x ∷ (xs ++ (ys ++ zs)))) back (subst (λ l. IsPermutation (x ∷ l) ((xs ++ ys) ++ x ∷ zs)) (sym front) (IsPermutation-sym ((xs ++ ys) ++ x ∷ zs) (x ∷ ((xs ++ ys) ++ zs)) (IsPermutation-middle (xs ++ ys) x zs)))

to_end : {X : Type 0} (x : X) (xs ys zs : List X) → IsPermutation (x ∷ (xs ++ (ys ++ zs))) (xs ++ (ys ++ (zs ++ x ∷ [])))
to_end x xs ys zs =
    let back : (xs ++ (ys ++ zs)) ++ x ∷ [] ≡ xs ++ (ys ++ (zs ++ x ∷ [])) = append_assoc xs (ys ++ zs) (x ∷ []) ∙ ap (λ l. xs ++ l) (append_assoc ys zs (x ∷ [])) in
    subst (IsPermutation (x ∷ (xs ++ (ys ++ zs)))) back (IsPermutation-sym ((xs ++ (ys ++ zs)) ++ x ∷ []) (x ∷ (xs ++ (ys ++ zs))) (IsPermutation-to_front (xs ++ (ys ++ zs)) x))

-- a settled place with a pass through which nothing was sent or received yet
pub sender_new : (place : PassView) (pass : PassState (Message TicketState)) → IsSettled place → pass.sent ≡ [] → pass.got ≡ [] → SenderStands [] place pass
sender_new place pass settled unsent unreceived = record {
  taken = place.calls;
  numbers = settled.numbers;
  fates = settled.fates;
  shared = subst (λ (messages : List (Message TicketState)). IsPermutation place.calls (answers_of (tickets_in messages) ++ place.calls)) (sym unsent) (IsPermutation-refl place.calls);
  unreceived = ap tickets_in unreceived;
}

-- where nothing is taken or told, all is as it was
pub sender_quiet : (hand : List Answer) (old new : PassView) (pass : PassState (Message TicketState)) → StaysQuiet old new → SenderStands hand old pass → SenderStands hand new pass
sender_quiet hand old new pass quiet stands = record {
  taken = stands.taken;
  numbers = subst (λ ns. IsPermutation ns (map number_of stands.taken)) (sym quiet.untaken) stands.numbers;
  fates = fates_stay old new quiet.seen (ap (λ (p : PassView). p.setting) quiet.same) stands.taken stands.fates;
  shared = subst (λ told. IsPermutation stands.taken (hand ++ (answers_of (tickets_in pass.sent) ++ told))) (sym (ap (λ (p : PassView). p.calls) quiet.same)) stands.shared;
  unreceived = stands.unreceived;
}

-- a desk's call leaves the pass the same
pub same_pass : (old new : PassView) → IsSameDesk (desk_of old) (desk_of new) → new ≡ record old { own = new.own; seen = new.seen }
same_pass old new same =
    let has : belongings_of new ≡ belongings_of old = belongings_code.inj (belongings_of new) (belongings_of old) same.home in
    λ i. record { lock = (has i).lock; seats = (has i).seats; number = same.seat i; setting = same.setting i; own = new.own; seen = new.seen; joined = (has i).joined; calls = (has i).calls; lost = (has i).lost }

-- a request is taken: its ticket is in hand
pub sender_takes : (hand : List Answer) (ticket : Ticket CallbackState) (old new : PassView) (pass : PassState (Message TicketState)) → Calls (Takes plan_of (Some ticket)) 0 (desk_of old) (desk_of new) → SenderStands hand old pass → SenderStands (ticket.call ∷ hand) new pass
sender_takes hand ticket old new pass call stands =
    let added : List Entry = entries_of old.number 0 call.added in
    let same = same_pass old new call.desk in
    let setting_is : new.setting ≡ old.setting = ap (λ (p : PassView). p.setting) same in
    let calls_are : new.calls ≡ old.calls = ap (λ (p : PassView). p.calls) same in
    let taken_is : taken_in new.own ≡ taken_in old.own ++ ticket.call.number ∷ [] =
    ap taken_in call.own ∙ taken_in-append old.own added ∙ ap (λ a. taken_in old.own ++ taken_in (entries_of old.number 0 a)) call.meant.0 in
    let goes_on : IsPrefix old.seen new.seen = (call.stands.others ++ added, sym (append_assoc old.seen call.stands.others added) ∙ ap (λ h. h ++ added) (sym call.stands.parts) ∙ sym call.seen) in
    let told : IsPermutation (stands.taken ++ ticket.call ∷ []) ((ticket.call ∷ hand) ++ (answers_of (tickets_in pass.sent) ++ old.calls)) =
    IsPermutation-trans (stands.taken ++ ticket.call ∷ []) (ticket.call ∷ stands.taken) (ticket.call ∷ (hand ++ (answers_of (tickets_in pass.sent) ++ old.calls)))
    (IsPermutation-to_front stands.taken ticket.call) (IsPermutation-cons ticket.call stands.taken (hand ++ (answers_of (tickets_in pass.sent) ++ old.calls)) stands.shared) in
    record {
      taken = stands.taken ++ ticket.call ∷ [];
      numbers = subst (λ ns. IsPermutation ns (map number_of (stands.taken ++ ticket.call ∷ []))) (sym taken_is)
          (subst (IsPermutation (taken_in old.own ++ ticket.call.number ∷ [])) (sym (map-append number_of stands.taken (ticket.call ∷ [])))
          (IsPermutation-append_left (ticket.call.number ∷ []) (taken_in old.own) (map number_of stands.taken) stands.numbers));
      fates = each-append (IsFateSeen new) stands.taken (ticket.call ∷ []) (fates_stay old new goes_on setting_is stands.taken stands.fates)
          (subst (λ s. fate s ticket.call.number (past_of new.seen) ≡ Some ticket.call) (sym setting_is) (fate_later old.setting ticket.call.number ticket.call call.here new.seen (added, sym call.seen) call.meant.2), tt);
      shared = subst (λ calls. IsPermutation (stands.taken ++ ticket.call ∷ []) ((ticket.call ∷ hand) ++ (answers_of (tickets_in pass.sent) ++ calls))) (sym calls_are) told;
      unreceived = stands.unreceived;
    }

-- a ticket in hand is sent
pub sender_sends : (hand : List Answer) (its : TicketState) (place : PassView) (old new : PassState (Message TicketState)) → new ≡ after_send old (Sent its) → SenderStands (its.ticket.call ∷ hand) place old → SenderStands hand place new
sender_sends hand its place old new sent stands =
    let answers : answers_of (tickets_in new.sent) ≡ answers_of (tickets_in old.sent) ++ its.ticket.call ∷ [] =
    ap (λ (p : PassState (Message TicketState)). answers_of (tickets_in p.sent)) sent ∙ ap answers_of (tickets_in-append old.sent (Sent its ∷ [])) ∙ answers-append (tickets_in old.sent) (its ∷ []) in
    record {
      taken = stands.taken;
      numbers = stands.numbers;
      fates = stands.fates;
      shared = subst (λ l. IsPermutation stands.taken (hand ++ (l ++ place.calls))) (sym answers)
          (IsPermutation-trans stands.taken (its.ticket.call ∷ (hand ++ (answers_of (tickets_in old.sent) ++ place.calls))) (hand ++ ((answers_of (tickets_in old.sent) ++ its.ticket.call ∷ []) ++ place.calls))
          stands.shared (to_middle its.ticket.call hand (answers_of (tickets_in old.sent)) place.calls));
      unreceived = ap (λ (p : PassState (Message TicketState)). tickets_in p.got) sent ∙ stands.unreceived;
    }

-- a ticket in hand is spent
pub sender_spends : (hand : List Answer) (orders : Orders) (ticket : Ticket CallbackState) (called : CalledState) (old new : PassView) (pass : PassState (Message TicketState)) → Spends orders ticket old called new → SenderStands (ticket.call ∷ hand) old pass → SenderStands hand new pass
sender_spends hand orders ticket called old new pass spends stands =
    let done = spends.performed in
    let taken_is = spends_untaken orders ticket called old new spends in
    record {
      taken = stands.taken;
      numbers = subst (λ ns. IsPermutation ns (map number_of stands.taken)) (sym taken_is) stands.numbers;
      fates = fates_stay old new (done.since, sym done.seen) done.setting stands.taken stands.fates;
      shared = subst (λ calls. IsPermutation stands.taken (hand ++ (answers_of (tickets_in pass.sent) ++ calls))) (sym spends.calls)
          (IsPermutation-trans stands.taken (ticket.call ∷ (hand ++ (answers_of (tickets_in pass.sent) ++ old.calls))) (hand ++ (answers_of (tickets_in pass.sent) ++ (old.calls ++ ticket.call ∷ [])))
          stands.shared (to_end ticket.call hand (answers_of (tickets_in pass.sent)) old.calls));
      unreceived = stands.unreceived;
    }

-- stops are no tickets
pub sender_stops : (hand : List Answer) (count : ℕ) (place : PassView) (old new : PassState (Message TicketState)) → new ≡ after_stops count old → SenderStands hand place old → SenderStands hand place new
sender_stops hand count place old new stops stands =
    let tickets : tickets_in new.sent ≡ tickets_in old.sent =
    ap (λ (p : PassState (Message TicketState)). tickets_in p.sent) stops ∙ tickets_in-append old.sent (replicate count Stop) ∙ ap (λ l. tickets_in old.sent ++ l) (tickets_in-stops count) ∙ append-nil (tickets_in old.sent) in
    record {
      taken = stands.taken;
      numbers = stands.numbers;
      fates = stands.fates;
      shared = subst (λ l. IsPermutation stands.taken (hand ++ (answers_of l ++ place.calls))) (sym tickets) stands.shared;
      unreceived = ap (λ (p : PassState (Message TicketState)). tickets_in p.got) stops ∙ stands.unreceived;
    }

-- behind tickets that were spent through a place: it took nothing, and has seen what it had
untaken_each : (tickets : List TicketState) (old new : Orders × PassView) → SpendsEach SpendsTicket old tickets new → taken_in new.1.own ≡ taken_in old.1.own
untaken_each [] old new same = ap (λ (s : Orders × PassView). taken_in s.1.own) same
untaken_each (t ∷ ts) old new each = untaken_each ts each.0 new each.2 ∙ spends_untaken old.0 t.ticket each.1.1 old.1 each.0.1 each.1.2

seen_each : (tickets : List TicketState) (old new : Orders × PassView) → SpendsEach SpendsTicket old tickets new → IsPrefix old.1.seen new.1.seen
seen_each [] old new same = ([], append-nil old.1.seen ∙ sym (ap (λ (s : Orders × PassView). s.1.seen) same))
seen_each (t ∷ ts) old new each =
    let rest = seen_each ts each.0 new each.2 in
    let done = each.1.2.performed in
    (done.since ++ rest.0, sym (append_assoc old.1.seen done.since rest.0) ∙ ap (λ l. l ++ rest.0) (sym done.seen) ∙ rest.1)

-- a worker's place before anything happened
pub worker_new : (place : PassView) (pass : PassState (Message TicketState)) → place.own ≡ [] → place.calls ≡ [] → pass.sent ≡ [] → pass.got ≡ [] → WorkerStands place pass
worker_new place pass own calls unsent unreceived = record { untaken = ap taken_in own; told = calls ∙ sym (ap (λ l. answers_of (tickets_in l)) unreceived); unsent = ap tickets_in unsent }

-- a worker spends what it receives until a stop comes
pub worker_works : (count : ℕ) (old : PassState (Message TicketState)) (before : Orders × PassView) (new : PassState (Message TicketState)) (after : Orders × PassView) → Works SpendsTicket count old before new after → WorkerStands before.1 old → WorkerStands after.1 new
worker_works count old before new after works stands =
    let received : tickets_in new.got ≡ tickets_in old.got ++ works.tickets =
    ap (λ (p : PassState (Message TicketState)). tickets_in p.got) works.received ∙ tickets_in-append old.got (messages_of works.tickets ++ Stop ∷ [])
    ∙ ap (λ l. tickets_in old.got ++ l) (tickets_in-append (messages_of works.tickets) (Stop ∷ []) ∙ append-nil (tickets_in (messages_of works.tickets)) ∙ tickets_in-messages_of works.tickets) in
    record {
      untaken = untaken_each works.tickets before after works.spent ∙ stands.untaken;
      told = told_each works.tickets before after works.spent ∙ ap (λ l. l ++ answers_of works.tickets) stands.told ∙ sym (ap answers_of received ∙ answers-append (tickets_in old.got) works.tickets);
      unsent = ap (λ (p : PassState (Message TicketState)). tickets_in p.sent) works.received ∙ stands.unsent;
    }

module _ {W : Type 0} (place : W → PassView) (pass : W → PassState (Message TicketState)) where
  abbrev Stands : W → Type 0
  Stands worker = WorkerStands (place worker) (pass worker)

  none_sent : (crew : List W) → AllByRecursion Stands crew → tickets_sent (map pass crew) ≡ []
  none_sent [] each = refl
  none_sent (w ∷ ws) each = flat_map-cons (λ (p : PassState (Message TicketState)). tickets_in p.sent) (pass w) (map pass ws) ∙ ap (λ l. l ++ tickets_sent (map pass ws)) each.0.unsent ∙ none_sent ws each.1

  crew_untaken : (crew : List W) → AllByRecursion Stands crew → taken_through (map place crew) ≡ []
  crew_untaken [] each = refl
  crew_untaken (w ∷ ws) each = flat_map-cons (λ (p : PassView). taken_in p.own) (place w) (map place ws) ∙ ap (λ l. l ++ taken_through (map place ws)) each.0.untaken ∙ crew_untaken ws each.1

  crew_told : (crew : List W) → AllByRecursion Stands crew → told_through (map place crew) ≡ answers_of (tickets_got (map pass crew))
  crew_told [] each = refl
  crew_told (w ∷ ws) each =
      flat_map-cons (λ (p : PassView). p.calls) (place w) (map place ws) ∙ ap (λ l. l ++ told_through (map place ws)) each.0.told ∙ ap (λ l. answers_of (tickets_in (pass w).got) ++ l) (crew_told ws each.1)
      ∙ sym (answers-append (tickets_in (pass w).got) (tickets_got (map pass ws))) ∙ ap answers_of (sym (flat_map-cons (λ (p : PassState (Message TicketState)). tickets_in p.got) (pass w) (map pass ws)))

  -- the sender has no ticket in hand, the workers have stopped, and what nobody had received was spent through the sender's place: no ticket is outside
  pub none_outside : (sender : Orders × PassView) (right : PassState (Message TicketState)) (crew : List W) (rest : List TicketState) (last : Orders × PassView) → SenderStands [] sender.1 right → AllByRecursion Stands crew
      → IsPermutation (tickets_sent (right ∷ map pass crew)) (tickets_got (right ∷ map pass crew) ++ rest) → SpendsEach SpendsTicket sender rest last → AreSettled (last.1 ∷ map place crew)
  none_outside sender right crew rest last stands each all spent = record { numbers = numbers; fates = fates }
    where
      received : List TicketState
      received = tickets_got (map pass crew)

      told : List Answer
      told = told_through (last.1 ∷ map place crew)

      sent_is : tickets_sent (right ∷ map pass crew) ≡ tickets_in right.sent
      sent_is = flat_map-cons (λ (p : PassState (Message TicketState)). tickets_in p.sent) right (map pass crew) ∙ ap (λ l. tickets_in right.sent ++ l) (none_sent crew each) ∙ append-nil (tickets_in right.sent)

      got_is : tickets_got (right ∷ map pass crew) ≡ received
      got_is = flat_map-cons (λ (p : PassState (Message TicketState)). tickets_in p.got) right (map pass crew) ∙ ap (λ l. l ++ received) stands.unreceived

      told_is : told ≡ (sender.1.calls ++ answers_of rest) ++ answers_of received
      told_is = flat_map-cons (λ (p : PassView). p.calls) last.1 (map place crew) ∙ ap (λ l. l ++ told_through (map place crew)) (told_each rest sender last spent) ∙ ap (λ l. (sender.1.calls ++ answers_of rest) ++ l) (crew_told crew each)

      taken_is : taken_through (last.1 ∷ map place crew) ≡ taken_in sender.1.own
      taken_is = flat_map-cons (λ (p : PassView). taken_in p.own) last.1 (map place crew) ∙ ap (λ l. taken_in last.1.own ++ l) (crew_untaken crew each) ∙ append-nil (taken_in last.1.own) ∙ untaken_each rest sender last spent

      shared_out : IsPermutation (answers_of (tickets_in right.sent)) (answers_of received ++ answers_of rest)
      shared_out = subst (IsPermutation (answers_of (tickets_in right.sent))) (answers-append received rest)
          (IsPermutation-map (λ (its : TicketState). its.ticket.call) (tickets_in right.sent) (received ++ rest)
          (subst (λ l. IsPermutation l (received ++ rest)) sent_is (subst (λ l. IsPermutation (tickets_sent (right ∷ map pass crew)) (l ++ rest)) got_is all)))

      turned : (xs ys zs : List Answer) → IsPermutation ((xs ++ ys) ++ zs) ((zs ++ ys) ++ xs)
      turned xs ys zs =
          IsPermutation-trans ((xs ++ ys) ++ zs) (zs ++ (xs ++ ys)) ((zs ++ ys) ++ xs) (IsPermutation-append_comm (xs ++ ys) zs)
          (subst (IsPermutation (zs ++ (xs ++ ys))) (sym (append_assoc zs ys xs)) (IsPermutation-append_right zs (xs ++ ys) (ys ++ xs) (IsPermutation-append_comm xs ys)))

      all_told : IsPermutation stands.taken told
      all_told = subst (IsPermutation stands.taken) (sym told_is)
          (IsPermutation-trans stands.taken (answers_of (tickets_in right.sent) ++ sender.1.calls) ((sender.1.calls ++ answers_of rest) ++ answers_of received) stands.shared
          (IsPermutation-trans (answers_of (tickets_in right.sent) ++ sender.1.calls) ((answers_of received ++ answers_of rest) ++ sender.1.calls) ((sender.1.calls ++ answers_of rest) ++ answers_of received)
          (IsPermutation-append_left sender.1.calls (answers_of (tickets_in right.sent)) (answers_of received ++ answers_of rest) shared_out) (turned (answers_of received) (answers_of rest) sender.1.calls)))

      numbers : IsPermutation (taken_through (last.1 ∷ map place crew)) (map number_of told)
      numbers = subst (λ ns. IsPermutation ns (map number_of told)) (sym taken_is)
          (IsPermutation-trans (taken_in sender.1.own) (map number_of stands.taken) (map number_of told) stands.numbers (IsPermutation-map number_of stands.taken told all_told))

      seen_now : AllByRecursion (IsFateSeen last.1) stands.taken
      seen_now = fates_stay sender.1 last.1 (seen_each rest sender last spent) (ap (λ (p : PassView). p.setting) (stays_each rest sender last spent).1) stands.taken stands.fates

      each_is : (answers : List Answer) → AllByRecursion (IsFateSeen last.1) answers → AllByRecursion (IsSeenByOne (last.1 ∷ map place crew)) answers
      each_is [] fate = tt
      each_is (a ∷ bs) fate = (inl fate.0, each_is bs fate.1)

      fates : AllByRecursion (IsSeenByOne (last.1 ∷ map place crew)) told
      fates = each_is told (recursion_from_All (IsFateSeen last.1) told (All-permutation (IsFateSeen last.1) stands.taken told all_told (All-from_recursion (IsFateSeen last.1) stands.taken seen_now)))

-- the workers of a round
module _ {S : Type 0} (place : S → PassView) (orders : S → Orders) where
  abbrev Crew : Type 0
  Crew = List (Worker TicketState S)

  abbrev IsStanding : Worker TicketState S → Type 0
  IsStanding worker = WorkerStands (place worker.spender) worker.pass

  pub crew_stands : (olds news : Crew) → EachDoes (WorkersPart SpendsTicket (λ s. (orders s, place s))) olds news → AllByRecursion IsStanding olds → AllByRecursion IsStanding news
  crew_stands olds news each all = each_keeps (WorkersPart SpendsTicket (λ s. (orders s, place s))) IsStanding
      (λ old new works stands. worker_works new.count old.pass (orders old.spender, place old.spender) new.pass (orders new.spender, place new.spender) works stands) olds news each all

  pub crew_still : (olds news : Crew) → EachDoes (WorkersPart SpendsTicket (λ s. (orders s, place s))) olds news → AreStill (map (λ w. place w.spender) olds) (map (λ w. place w.spender) news)
  crew_still [] [] each = tt
  crew_still [] (n ∷ ns) each = absurd (omega (arith, each.0))
  crew_still (o ∷ os) [] each = absurd (omega (arith, each.0))
  crew_still (o ∷ os) (n ∷ ns) each =
      let works : Works SpendsTicket n.count o.pass (orders o.spender, place o.spender) n.pass (orders n.spender, place n.spender) = each.1 0 o (omega arith) in
      ((stays_each works.tickets (orders o.spender, place o.spender) (orders n.spender, place n.spender) works.spent).1, crew_still os ns (omega (arith, each.0), λ k d lt. each.1 (suc k) d (omega (arith, lt))))

-- the same passes still
pub still_none : (passes : List PassView) → AreStill passes passes
still_none [] = tt
still_none (p ∷ ps) = (refl, still_none ps)

pub still_more : (olds middles news : List PassView) → AreStill olds middles → AreStill middles news → AreStill olds news
still_more [] [] [] first more = tt
still_more [] [] (n ∷ ns) first more = absurd more
still_more [] (m ∷ ms) news first more = absurd first
still_more (o ∷ os) [] news first more = absurd first
still_more (o ∷ os) (m ∷ ms) [] first more = absurd more
still_more (o ∷ os) (m ∷ ms) (n ∷ ns) first more =
    (more.0 ∙ ap (λ (p : PassView). record p { own = n.own; seen = n.seen; calls = n.calls; lost = n.lost }) first.0, still_more os ms ns first.1 more.1)

-- the passes of a channel are all of its passes still
pub still_all : (lock : TableId) (olds news : List PassView) → AreStill olds news → AreAllPasses lock olds → AreAllPasses lock news
still_all lock olds news still all =
    let each = each_still all.setting (length olds) olds news still all.each in
    record {
      setting = all.setting;
      some = omega (arith, all.some, each.2);
      each = subst (λ n. AllByRecursion (IsOneOf lock all.setting n) news) (sym each.2) each.0;
      numbers = subst (λ n. IsPermutation (range_with_len 0 n) (map (λ (p : PassView). p.number) news)) (sym each.2) (subst (IsPermutation (range_with_len 0 (length olds))) (sym each.1) all.numbers);
    }
  where
    each_still : (setting : Setting) (count : ℕ) (os ns : List PassView) → AreStill os ns → AllByRecursion (IsOneOf lock setting count) os → AllByRecursion (IsOneOf lock setting count) ns × (map (λ (p : PassView). p.number) ns ≡ map (λ (p : PassView). p.number) os) × (length ns ≡ length os)
    each_still setting count [] [] same one = (tt, refl, refl)
    each_still setting count [] (n ∷ ns) same one = absurd same
    each_still setting count (o ∷ os) [] same one = absurd same
    each_still setting count (o ∷ os) (n ∷ ns) same one =
        let rest = each_still setting count os ns same.1 one.1 in (
          (
            record {
              lock_is = ap (λ (p : PassView). p.lock) same.0 ∙ one.0.lock_is;
              setting_is = ap (λ (p : PassView). p.setting) same.0 ∙ one.0.setting_is;
              seats_are = ap (λ (p : PassView). p.seats) same.0 ∙ one.0.seats_are;
              alone = ap (λ (p : PassView). p.joined) same.0 ∙ one.0.alone;
            },
            rest.0,
          ),
          ap₂ (λ n ms. n ∷ ms) (ap (λ (p : PassView). p.number) same.0) rest.1,
          omega (arith, rest.2),
        )

-- the passes of a new channel are all of its passes still
pub all_still : {lock : TableId} {setting : Setting} {count : ℕ} {olds : List PassView} (news : List PassView) → IsNewChannel lock setting count olds → 0 < count → AreStill olds news → AreAllPasses lock news
all_still {lock} {setting} {count} {olds} news made some still = still_all lock olds news still (may_finish olds made some (all_stay_none olds)).0
