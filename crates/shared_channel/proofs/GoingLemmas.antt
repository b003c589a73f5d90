-- How a pass goes on by calls and deliveries: what it saw, made, took and told.
use Rattle.std.proofs.Common.{◌≡◌, ◌∙◌, ℕ, ◌==◌, List, [], ◌∷◌, ◌++◌, Some, None, map, refl, ap, ap₂, sym, subst, append_assoc}
use Rattle.std.proofs.lemmas.List.{append-nil, map-append}
use Rattle.std.proofs.lemmas.List.Elements.{filter-append}
use Rattle.std.specs.List.{AllByRecursion}
use Rattle.std.specs.Prelude.{Bool, true, false}
use mathlib.Core.List.{IsPrefix}
use Rattle.chan_types.specs.declared.answer.Answer.{Answer}
use Rattle.chan_types.specs.declared.journal.Entry.{Entry}
use Rattle.chan_types.specs.declared.orders.Orders.{Orders}
use Rattle.chan_types.specs.declared.ticket.Ticket.{Ticket}
use Rattle.channel_model.specs.Completion.{fate}
use Rattle.channel_model.specs.Journal.{own_entries, past_of}
use Rattle.channel_model.specs.Known.{Calls}
use Rattle.channel_model.specs.Lawful.{IsLawful}
use Rattle.channel_model.specs.Meanings.{Destroys, Meaning, Takes}
use Rattle.channel_model.specs.Seen.{entries_of}
use Rattle.channel_model.specs.Setting.{Setting}
use Rattle.channel_model.proofs.Theorems.{calls_stretch, own-others, own_added, past_of-prefix}
use Rattle.completion_ticket.specs.States.{CallbackState, CalledState}
use Rattle.shared_channel.specs.Finishing.{DeliversAll, DeliversSome}
use Rattle.shared_channel.specs.Passes.{PassView, desk_of}
use Rattle.shared_channel.specs.Settling.{IsFateSeen, taken_in}
use Rattle.shared_channel.specs.Spending.{DeliversOne, Spends}
use Rattle.shared_channel.specs.Under.{plan_of}
use Rattle.ticket_delivery.specs.Performing.{IsBy}
use Rattle.ticket_delivery.proofs.Theorems.{command_takes, fate_behind}
use Rattle.shared_channel.proofs.CountingLemmas.{taken_in-append}
use Rattle.shared_channel.proofs.PassLemmas.{rest_of}

-- a fate stays in a longer journal
pub fate_later : (setting : Setting) (request : ℕ) (answer : Answer) (journal longer : List Entry) → IsPrefix journal longer → fate setting request (past_of journal) ≡ Some answer → fate setting request (past_of longer) ≡ Some answer
fate_later setting request answer journal longer p is = subst (λ past. fate setting request past ≡ Some answer) (sym (past_of-prefix journal longer p)) (fate_behind setting request (past_of journal) p.0 answer is)

-- from one moment to another a pass saw more, made entries, and told the answers of exactly what it took
pub record WentOn (old new : PassView) : Type 0 where
  pub since : List Entry
  pub seen : new.seen ≡ old.seen ++ since
  pub own : new.own ≡ old.own ++ own_entries old.number since
  pub told : List Answer
  pub calls : new.calls ≡ old.calls ++ told
  pub numbers : map (λ (answer : Answer). answer.number) told ≡ taken_in (own_entries old.number since)
  pub fates : AllByRecursion (IsFateSeen new) told
  pub lawful : IsLawful old.setting old.seen → IsLawful new.setting new.seen
  pub rest : new ≡ record old { own = new.own; seen = new.seen; calls = new.calls; lost = new.lost }

-- from one moment to another a pass saw more and made entries, took the requests of some answers, and told these or others
pub record Moved (taken told : List Answer) (old new : PassView) : Type 0 where
  pub since : List Entry
  pub seen : new.seen ≡ old.seen ++ since
  pub own : new.own ≡ old.own ++ own_entries old.number since
  pub calls : new.calls ≡ old.calls ++ told
  pub numbers : map (λ (answer : Answer). answer.number) taken ≡ taken_in (own_entries old.number since)
  pub fates : AllByRecursion (IsFateSeen new) taken
  pub lawful : IsLawful old.setting old.seen → IsLawful new.setting new.seen
  pub rest : new ≡ record old { own = new.own; seen = new.seen; calls = new.calls; lost = new.lost }

pub moved_none : (pass : PassView) → Moved [] [] pass pass
moved_none pass = record {
  since = [];
  seen = sym (append-nil pass.seen);
  own = sym (append-nil pass.own);
  calls = sym (append-nil pass.calls);
  numbers = refl;
  fates = tt;
  lawful = λ was. was;
  rest = refl;
}

-- who told what it took went on, and the other way
pub went_moved : (told : List Answer) (old new : PassView) → Moved told told old new → WentOn old new
went_moved told old new moved = record { since = moved.since; seen = moved.seen; own = moved.own; told = told; calls = moved.calls; numbers = moved.numbers; fates = moved.fates; lawful = moved.lawful; rest = moved.rest }

moved_went : (old new : PassView) (went : WentOn old new) → Moved went.told went.told old new
moved_went old new went = record { since = went.since; seen = went.seen; own = went.own; calls = went.calls; numbers = went.numbers; fates = went.fates; lawful = went.lawful; rest = went.rest }

pub went_none : (pass : PassView) → WentOn pass pass
went_none pass = went_moved [] pass pass (moved_none pass)

-- what a pass saw as fates it still does
pub fates_later : (old new : PassView) → IsPrefix old.seen new.seen → new.setting ≡ old.setting → (answers : List Answer) → AllByRecursion (IsFateSeen old) answers → AllByRecursion (IsFateSeen new) answers
fates_later old new p same [] each = tt
fates_later old new p same (a ∷ bs) each =
    (subst (λ s. fate s a.number (past_of new.seen) ≡ Some a) (sym same) (fate_later old.setting a.number a old.seen new.seen p each.0), fates_later old new p same bs each.1)

pub each_append : {A : Type 0} (P : A → Type 0) (xs ys : List A) → AllByRecursion P xs → AllByRecursion P ys → AllByRecursion P (xs ++ ys)
each_append P [] ys each more = more
each_append P (x ∷ xs) ys each more = (each.0, each_append P xs ys each.1 more)

-- by one move after another
pub moved_on : (taken told taken_more told_more : List Answer) (old middle new : PassView) → Moved taken told old middle → Moved taken_more told_more middle new → Moved (taken ++ taken_more) (told ++ told_more) old new
moved_on taken told taken_more told_more old middle new first more =
    let number_is : middle.number ≡ old.number = ap (λ p. p.number) first.rest in
    let setting_is : new.setting ≡ middle.setting = ap (λ p. p.setting) more.rest in
    let seat_more : own_entries middle.number more.since ≡ own_entries old.number more.since = ap (λ n. own_entries n more.since) number_is in
    let own_more : own_entries old.number (first.since ++ more.since) ≡ own_entries old.number first.since ++ own_entries old.number more.since =
    filter-append (λ (entry : Entry). entry.seat == old.number) first.since more.since in
    record {
      since = first.since ++ more.since;
      seen = more.seen ∙ ap (λ h. h ++ more.since) first.seen ∙ append_assoc old.seen first.since more.since;
      own = more.own ∙ ap (λ es. middle.own ++ es) seat_more ∙ ap (λ es. es ++ own_entries old.number more.since) first.own
          ∙ append_assoc old.own (own_entries old.number first.since) (own_entries old.number more.since) ∙ ap (λ es. old.own ++ es) (sym own_more);
      calls = more.calls ∙ ap (λ cs. cs ++ told_more) first.calls ∙ append_assoc old.calls told told_more;
      numbers = map-append (λ (answer : Answer). answer.number) taken taken_more ∙ ap₂ (λ xs ys. xs ++ ys) first.numbers (more.numbers ∙ ap taken_in seat_more)
          ∙ sym (ap taken_in own_more ∙ taken_in-append (own_entries old.number first.since) (own_entries old.number more.since));
      fates = each_append (IsFateSeen new) taken taken_more (fates_later middle new (more.since, sym more.seen) setting_is taken first.fates) more.fates;
      lawful = λ was. more.lawful (first.lawful was);
      rest = more.rest ∙ ap (λ (p : PassView). record p { own = new.own; seen = new.seen; calls = new.calls; lost = new.lost }) first.rest;
    }

pub went_on : (old middle new : PassView) → WentOn old middle → WentOn middle new → WentOn old new
went_on old middle new first more =
    went_moved (first.told ++ more.told) old new (moved_on first.told first.told more.told more.told old middle new (moved_went old middle first) (moved_went middle new more))

-- by a call, which tells nothing and takes the requests of these answers
moved_call : (meaning : Meaning) (by : ℕ) (taken : List Answer) (old new : PassView) (call : Calls meaning by (desk_of old) (desk_of new))
    → map (λ (answer : Answer). answer.number) taken ≡ taken_in (entries_of old.number by call.added) → AllByRecursion (IsFateSeen new) taken → Moved taken [] old new
moved_call meaning by taken old new call takes fates =
    let added : List Entry = entries_of old.number by call.added in
    let stretch = calls_stretch meaning by (desk_of old) (desk_of new) call in
    let rest = rest_of old new call.desk in
    let mine : own_entries old.number (call.stands.others ++ added) ≡ added =
    filter-append (λ (entry : Entry). entry.seat == old.number) call.stands.others added ∙ ap₂ (λ xs ys. xs ++ ys) (own-others old.number call.stands.others call.stands.by_others) (own_added old.number by call.added) in
    record {
      since = call.stands.others ++ added;
      seen = stretch.0;
      own = stretch.1;
      calls = ap (λ p. p.calls) rest ∙ sym (append-nil old.calls);
      numbers = takes ∙ sym (ap taken_in mine);
      fates = fates;
      lawful = λ _. call.lawful;
      rest = rest ∙ (λ i. record old { own = new.own; seen = new.seen; calls = sym (ap (λ p. p.calls) rest) i; lost = sym (ap (λ p. p.lost) rest) i });
    }

-- by a call that takes nothing
pub went_call : (meaning : Meaning) (by : ℕ) (old new : PassView) (call : Calls meaning by (desk_of old) (desk_of new)) → taken_in (entries_of old.number by call.added) ≡ [] → WentOn old new
went_call meaning by old new call none = went_moved [] old new (moved_call meaning by [] old new call (sym none) tt)

-- entries of commands take nothing
none_taken : (by : ℕ) (entries : List Entry) → AllByRecursion (IsBy by) entries → taken_in entries ≡ []
none_taken by [] each = refl
none_taken by (e ∷ es) each = rw (command_takes e.what each.0.1) (none_taken by es each.1)

-- by a request that is taken
pub moved_take : (ticket : Ticket CallbackState) (old new : PassView) → Calls (Takes plan_of (Some ticket)) 0 (desk_of old) (desk_of new) → Moved (ticket.call ∷ []) [] old new
moved_take ticket old new call =
    let added : List Entry = entries_of old.number 0 call.added in
    let setting_is : new.setting ≡ old.setting = ap (λ p. p.setting) (rest_of old new call.desk) in
    moved_call (Takes plan_of (Some ticket)) 0 (ticket.call ∷ []) old new call
    (sym (ap (λ a. taken_in (entries_of old.number 0 a)) call.meant.0))
    (subst (λ s. fate s ticket.call.number (past_of new.seen) ≡ Some ticket.call) (sym setting_is) (fate_later old.setting ticket.call.number ticket.call call.here new.seen (added, sym call.seen) call.meant.2), tt)

-- by one that finds nothing ready
pub moved_untaken : (old new : PassView) → Calls (Takes plan_of None) 0 (desk_of old) (desk_of new) → Moved [] [] old new
moved_untaken old new call = moved_call (Takes plan_of None) 0 [] old new call (sym (ap (λ a. taken_in (entries_of old.number 0 a)) call.meant.0)) tt

-- by a ticket that is spent
pub moved_spend : (orders : Orders) (ticket : Ticket CallbackState) (called : CalledState) (old new : PassView) → Spends orders ticket old called new → Moved [] (ticket.call ∷ []) old new
moved_spend orders ticket called old new spends =
    let done = spends.performed in
    record {
      since = done.since;
      seen = done.seen;
      own = done.own;
      calls = spends.calls;
      numbers = sym (none_taken ticket.call.number (own_entries old.number done.since) done.commanded);
      fates = tt;
      lawful = done.lawful;
      rest = spends.rest;
    }

-- by a delivery
pub went_delivery : (orders : Orders) (called : CalledState) (old new : PassView) → DeliversOne orders old (Some called) new → WentOn old new
went_delivery orders called old new delivers =
    let call : Answer = delivers.0.call in
    went_moved (call ∷ []) old new
    (moved_on (call ∷ []) [] [] (call ∷ []) old delivers.1 new (moved_take delivers.0 old delivers.1 delivers.2) (moved_spend orders delivers.0 called delivers.1 new delivers.3))

-- by several deliveries, and by one that finds nothing ready
pub went_deliveries : (orders : Orders) (calleds : List CalledState) (old new : PassView) → DeliversSome orders old calleds new → WentOn old new
went_deliveries orders [] old new same = subst (WentOn old) (sym same) (went_none old)
went_deliveries orders (c ∷ cs) old new some = went_on old some.0 new (went_delivery orders c old some.0 some.1) (went_deliveries orders cs some.0 new some.2)

pub went_all : (orders : Orders) (old new : PassView) → DeliversAll orders old new → WentOn old new
went_all orders old new all =
    went_on old all.middle new (went_deliveries orders all.called old all.middle all.some)
    (went_moved [] all.middle new (moved_untaken all.middle new all.none))

pub went_destroy : (is_first : Bool) (old new : PassView) → Calls (Destroys is_first) 0 (desk_of old) (desk_of new) → WentOn old new
went_destroy true old new call = went_call (Destroys true) 0 old new call (ap (λ a. taken_in (entries_of old.number 0 a)) call.meant.entry)
went_destroy false old new call = went_call (Destroys false) 0 old new call (ap (λ a. taken_in (entries_of old.number 0 a)) call.meant.entry)

-- one more delivery behind several
pub delivers_more : (orders : Orders) (calleds : List CalledState) (called : CalledState) (old middle new : PassView) → DeliversSome orders old calleds middle → DeliversOne orders middle (Some called) new → DeliversSome orders old (calleds ++ called ∷ []) new
delivers_more orders [] called old middle new same one = (new, subst (λ p. DeliversOne orders p (Some called) new) same one, refl)
delivers_more orders (c ∷ cs) called old middle new some one = (some.0, some.1, delivers_more orders cs called some.0 middle new some.2 one)

-- so far these were delivered
pub record HasDelivered (orders : Orders) (old new : PassView) : Type 0 where
  pub called : List CalledState
  pub some : DeliversSome orders old called new

pub none_delivered : (orders : Orders) (pass : PassView) → HasDelivered orders pass pass
none_delivered orders pass = record { called = []; some = refl }

pub one_delivered : (orders : Orders) (called : CalledState) (old middle new : PassView) → HasDelivered orders old middle → DeliversOne orders middle (Some called) new → HasDelivered orders old new
one_delivered orders called old middle new has one = record { called = has.called ++ called ∷ []; some = delivers_more orders has.called called old middle new has.some one }
