-- What is done through the first pass as a channel is finished: the journal of all is seen, the channel is destroyed, and what is ready is delivered.
use Rattle.std.proofs.Common.{◌≡◌, ◌∙◌, ℕ, ◌-◌, ◌^◌, Bool, true, false, List, [], ◌∷◌, ◌++◌, Some, None, map, min, refl, sym, ap, subst, arith, append_assoc}
use Rattle.std.proofs.lemmas.List.{append-nil}
use Rattle.std.specs.List.{AllByRecursion, list_all}
use mathlib.Core.List.{IsPrefix}
use Rattle.chan_types.specs.Plans.{Plan}
use Rattle.chan_types.specs.declared.journal.Entry.{Entry}
use Rattle.chan_types.specs.declared.orders.Orders.{Orders}
use Rattle.chan_types.specs.declared.ticket.Ticket.{Ticket}
use Rattle.channel_model.proofs.Theorems.{past_of-prefix, script_of-later}
use Rattle.channel_model.specs.Completion.{fate}
use Rattle.channel_model.specs.Journal.{Past, followed_by, past_of, script_of}
use Rattle.channel_model.specs.Known.{Calls, IsSameDesk, Known}
use Rattle.channel_model.specs.Meanings.{Destroys, Takes}
use Rattle.channel_model.specs.Seen.{entries_of}
use Rattle.channel_model.specs.Setting.{Setting}
use Rattle.completion_ticket.specs.States.{CallbackState, CalledState}
use Rattle.seat_laws.proofs.ShiftLemmas.{GoesBy}
use Rattle.seat_laws.specs.Shifts.{DoesWork, DoesWorks, IsOfRequest, Telling, Work, called_for, delivering, freely, handed_over, is_free, requests_told, tellings}
use Rattle.shared_channel.specs.Finishing.{DeliversSome}
use Rattle.shared_channel.specs.Passes.{PassView, belongings_code, belongings_of, desk_of}
use Rattle.shared_channel.specs.Spending.{Spends}
use Rattle.shared_channel.specs.Under.{plan_of}
use Rattle.ticket_delivery.proofs.Theorems.{fate_behind}
use Rattle.pass_laws.specs.Courses.{DoesThrough}
use Rattle.pass_laws.proofs.CourseLemmas.{makes_call, makes_nothing, makes_taking, telling_of, through_delivering, through_more, through_none, went_along}

-- what a desk tells of its pass stays where it stays the same
pub calls_kept : (old new : PassView) → IsSameDesk (desk_of old) (desk_of new) → new.calls ≡ old.calls
calls_kept old new same = ap (λ b. b.calls) (belongings_code.inj (belongings_of new) (belongings_of old) same.home)

pub lost_kept : (old new : PassView) → IsSameDesk (desk_of old) (desk_of new) → new.lost ≡ old.lost
lost_kept old new same = ap (λ b. b.lost) (belongings_code.inj (belongings_of new) (belongings_of old) same.home)

-- ---- what stays behind further entries

script_behind : (request : ℕ) (past : Past) (es : List Entry) (script : Plan) → script_of request past ≡ Some script → script_of request (followed_by past es) ≡ Some script
script_behind request past [] script is = is
script_behind request past (e ∷ es) script is = script_behind request (e.what ∷ past) es script (script_of-later request e.what past script is)

prefix_on : {A : Type 0} (xs ys zs : List A) → IsPrefix xs ys → IsPrefix ys zs → IsPrefix xs zs
prefix_on xs ys zs p q = (p.0 ++ q.0, sym (append_assoc xs p.0 q.0) ∙ (ap (λ l. l ++ q.0) p.1 ∙ q.1))

-- a ticket that was taken is of its request in each later journal
pub ticket_of_request : (setting : Setting) (journal : List Entry) (ticket : Ticket CallbackState) (old new : Known) (count : ℕ) → old.setting ≡ setting → Calls (Takes plan_of (Some ticket)) 0 old new → IsPrefix new.seen journal →
    IsOfRequest setting journal (telling_of ticket count)
ticket_of_request setting journal ticket old new count setting_is call p =
    let here : IsPrefix call.here journal = prefix_on call.here new.seen journal (entries_of old.seat 0 call.added, sym call.seen) p in
    let past : past_of journal ≡ followed_by (past_of call.here) here.0 = past_of-prefix call.here journal here in
    record {
      fated = ap (fate setting ticket.call.number) past
          ∙ fate_behind setting ticket.call.number (past_of call.here) here.0 ticket.call (subst (λ k. fate k ticket.call.number (past_of call.here) ≡ Some ticket.call) setting_is call.meant.2);
      scripted = ap (script_of ticket.call.number) past ∙ script_behind ticket.call.number (past_of call.here) here.0 (plan_of ticket.token) call.meant.3;
    }

-- ---- deliveries

module _ (orders : Orders) (setting : Setting) (journal : List Entry) where
  -- what some deliveries did
  pub record Delivered (old new : PassView) (calleds : List CalledState) : Type 0 where
    pub works : List Work
    pub through : DoesThrough orders works old new
    pub handed : handed_over works ≡ []
    pub for_none : called_for works ≡ []
    pub numbers : requests_told works ≡ map (λ (c : CalledState). c.number) calleds
    pub of_requests : AllByRecursion (IsOfRequest setting journal) (tellings works)

  pub delivered_some : (calleds : List CalledState) (old new : PassView) → old.setting ≡ setting → DeliversSome orders old calleds new → IsPrefix new.seen journal → Delivered old new calleds
  delivered_some [] old new setting_is same p = record { works = []; through = through_none orders old new same; handed = refl; for_none = refl; numbers = refl; of_requests = tt }
  delivered_some (c ∷ cs) old new setting_is some p =
      let middle : PassView = some.0 in
      let ticket : Ticket CallbackState = some.1.0 in
      let took : PassView = some.1.1 in
      let call : Calls (Takes plan_of (Some ticket)) 0 (desk_of old) (desk_of took) = some.1.2 in
      let spends : Spends orders ticket took c middle = some.1.3 in
      let telling : Telling = telling_of ticket spends.count in
      let one : DoesThrough orders (delivering telling ∷ []) old middle = through_delivering orders ticket c old took middle call (calls_kept old took call.desk) (lost_kept old took call.desk) spends in
      let along : GoesBy (λ e. true) (desk_of old) (desk_of middle) = went_along orders (delivering telling ∷ []) (desk_of old) (desk_of middle) one.does in
      let rest = delivered_some cs middle new (along.setting ∙ setting_is) some.2 p in
      let behind : GoesBy (λ e. true) (desk_of middle) (desk_of new) = went_along orders rest.works (desk_of middle) (desk_of new) rest.through.does in
      let seen : IsPrefix took.seen journal =
      prefix_on took.seen middle.seen journal (spends.performed.since, sym spends.performed.seen) (prefix_on middle.seen new.seen journal (behind.since, sym behind.seen) p) in
      record {
        works = delivering telling ∷ rest.works;
        through = through_more orders (delivering telling ∷ []) rest.works old middle new one rest.through;
        handed = rest.handed;
        for_none = rest.for_none;
        numbers = numbered ticket c spends.count (requests_told rest.works) (map (λ (x : CalledState). x.number) cs) (ap (λ (x : CalledState). x.number) spends.is_called) rest.numbers;
        of_requests = (ticket_of_request setting journal ticket (desk_of old) (desk_of took) spends.count setting_is call seen, rest.of_requests);
      }
    where
      numbered : (ticket : Ticket CallbackState) (c : CalledState) (count : ℕ) (ms ns : List ℕ) → c.number ≡ ticket.call.number → ms ≡ ns → (telling_of ticket count).answer.number ∷ ms ≡ c.number ∷ ns
      numbered ticket c count ms ns same rest = ap (λ k. k ∷ ms) (sym same) ∙ ap (λ l. c.number ∷ l) rest

-- whatever journal they came to
pub delivered_any : (orders : Orders) (calleds : List CalledState) (old new : PassView) → DeliversSome orders old calleds new → (works : List Work) × DoesWorks orders works (desk_of old) (desk_of new)
delivered_any orders [] old new same = ([], ap desk_of same)
delivered_any orders (c ∷ cs) old new some =
    let spends = some.1.3 in
    let rest = delivered_any orders cs some.0 new some.2 in
    (delivering (telling_of some.1.0 spends.count) ∷ rest.0, (desk_of some.0, (desk_of some.1.1, makes_taking some.1.0 (desk_of old) (desk_of some.1.1) some.1.2, spends.performed), rest.1))

-- ---- the other steps of the end

-- a destroy on nobody's command makes no other entry
pub destroys_freely : (orders : Orders) (is_first : Bool) (old new : PassView) → Calls (Destroys is_first) 0 (desk_of old) (desk_of new) → DoesWork orders freely (desk_of old) (desk_of new)
destroys_freely orders true old new call =
    (entries_of old.number 0 call.added, makes_call (Destroys true) 0 (desk_of old) (desk_of new) call, ap (λ a. list_all is_free (entries_of old.number 0 a)) call.meant.entry)
destroys_freely orders false old new call =
    (entries_of old.number 0 call.added, makes_call (Destroys false) 0 (desk_of old) (desk_of new) call, ap (λ a. list_all is_free (entries_of old.number 0 a)) call.meant.entry)

-- nothing ready makes none
pub finds_freely : (orders : Orders) (old new : PassView) → Calls (Takes plan_of None) 0 (desk_of old) (desk_of new) → DoesWork orders freely (desk_of old) (desk_of new)
finds_freely orders old new call = ([], makes_nothing (desk_of old) (desk_of new) call, refl)

pub through_finding : (orders : Orders) (old new : PassView) → Calls (Takes plan_of None) 0 (desk_of old) (desk_of new) → DoesThrough orders (freely ∷ []) old new
through_finding orders old new call = record {
  does = (desk_of new, finds_freely orders old new call, refl);
  calls = calls_kept old new call.desk ∙ sym (append-nil old.calls);
  lost = ap (λ n. min n (2 ^ 64 - 1)) (lost_kept old new call.desk) ∙ omega arith;
}
