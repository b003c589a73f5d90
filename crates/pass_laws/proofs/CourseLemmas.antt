-- What was done through a pass, step by step, and what it leaves as it was.
use Rattle.std.proofs.Common.{◌≡◌, ◌∙◌, ℕ, ◌+◌, ◌-◌, ◌^◌, true, List, [], ◌∷◌, ◌++◌, Some, None, map, min, sum_by, refl, sym, ap, ap₂, subst, arith, append_assoc}
use Rattle.std.proofs.lemmas.List.{append-nil, map-append}
use Rattle.std.proofs.lemmas.List.Sums.{sum_by-append, sum_by-cons}
use Rattle.std.specs.List.{list_all}
use Rattle.chan_types.specs.declared.orders.Orders.{Orders}
use Rattle.chan_types.specs.declared.ticket.Ticket.{Ticket}
use Rattle.channel_model.proofs.Theorems.{calls_stretch, own-append, own-others, own_added}
use Rattle.channel_model.specs.Journal.{own_entries}
use Rattle.channel_model.specs.Known.{Calls, GoesOn, Known}
use Rattle.channel_model.specs.Meanings.{Meaning, Takes}
use Rattle.channel_model.specs.Seen.{entries_of}
use Rattle.completion_ticket.specs.States.{CallbackState, CalledState}
use Rattle.seat_laws.proofs.ShiftLemmas.{GoesBy, goes_by}
use Rattle.seat_laws.specs.Shifts.{DoesWorks, Makes, Telling, Work, called_for, calling, delivering, freely, handed_over, is_free, taking, taking_entry, tellings}
use Rattle.shared_channel.specs.Passes.{PassView, desk_of}
use Rattle.shared_channel.specs.Spending.{Spends}
use Rattle.shared_channel.specs.Under.{plan_of}
use Rattle.pass_laws.specs.Courses.{DoesThrough, answers_told, lost_in}
use Rattle.pass_laws.proofs.ListLemmas.{capped_more}

-- ---- works, one behind the other

pub works_more : (orders : Orders) (xs ys : List Work) (old middle new : Known) → DoesWorks orders xs old middle → DoesWorks orders ys middle new → DoesWorks orders (xs ++ ys) old new
works_more orders [] ys old middle new same more = subst (λ k. DoesWorks orders ys k new) same more
works_more orders (x ∷ xs) ys old middle new does more = (does.0, does.1, works_more orders xs ys does.0 middle new does.2 more)

pub tellings-append : (xs ys : List Work) → tellings (xs ++ ys) ≡ tellings xs ++ tellings ys
tellings-append [] ys = refl
tellings-append (freely ∷ xs) ys = tellings-append xs ys
tellings-append (taking n ∷ xs) ys = tellings-append xs ys
tellings-append (calling t ∷ xs) ys = ap (λ l. t ∷ l) (tellings-append xs ys)
tellings-append (delivering t ∷ xs) ys = ap (λ l. t ∷ l) (tellings-append xs ys)

pub handed_over-append : (xs ys : List Work) → handed_over (xs ++ ys) ≡ handed_over xs ++ handed_over ys
handed_over-append [] ys = refl
handed_over-append (freely ∷ xs) ys = handed_over-append xs ys
handed_over-append (taking n ∷ xs) ys = ap (λ l. n ∷ l) (handed_over-append xs ys)
handed_over-append (calling t ∷ xs) ys = handed_over-append xs ys
handed_over-append (delivering t ∷ xs) ys = handed_over-append xs ys

pub called_for-append : (xs ys : List Work) → called_for (xs ++ ys) ≡ called_for xs ++ called_for ys
called_for-append [] ys = refl
called_for-append (freely ∷ xs) ys = called_for-append xs ys
called_for-append (taking n ∷ xs) ys = called_for-append xs ys
called_for-append (calling t ∷ xs) ys = ap (λ l. t.answer.number ∷ l) (called_for-append xs ys)
called_for-append (delivering t ∷ xs) ys = called_for-append xs ys

-- what a desk does leaves its seat and the setting
pub went_along : (orders : Orders) (works : List Work) (old new : Known) → DoesWorks orders works old new → GoesBy (λ e. true) old new
went_along orders works old new does = goes_by orders (λ e. true) works old new does (λ e free. refl) (λ s n some. refl) (λ s n some. refl) (λ n some e c. refl)

-- ---- calls

-- a call makes what it adds
pub makes_call : (meaning : Meaning) (by : ℕ) (old new : Known) (call : Calls meaning by old new) → Makes (entries_of old.seat by call.added) old new
makes_call meaning by old new call =
    let stretch = calls_stretch meaning by old new call in
    record {
      since = call.stands.others ++ entries_of old.seat by call.added;
      seen = stretch.0;
      own = own-append old.seat call.stands.others (entries_of old.seat by call.added)
          ∙ ap₂ (λ xs ys. xs ++ ys) (own-others old.seat call.stands.others call.stands.by_others) (own_added old.seat by call.added);
      setting = call.desk.setting;
      seat = call.desk.seat;
    }

-- a request that was taken
pub makes_taking : (ticket : Ticket CallbackState) (old new : Known) → Calls (Takes plan_of (Some ticket)) 0 old new → Makes (taking_entry old.seat ticket.call.number ∷ []) old new
makes_taking ticket old new call = subst (λ es. Makes es old new) (ap (entries_of old.seat 0) call.meant.0) (makes_call (Takes plan_of (Some ticket)) 0 old new call)

-- none that was ready
pub makes_nothing : (old new : Known) → Calls (Takes plan_of None) 0 old new → Makes [] old new
makes_nothing old new call = subst (λ es. Makes es old new) (ap (entries_of old.seat 0) call.meant.0) (makes_call (Takes plan_of None) 0 old new call)

-- ---- through a pass

abbrev pub telling_of : (ticket : Ticket CallbackState) → ℕ → Telling
telling_of ticket lost = record { answer = ticket.call; script = ticket.token.plan; lost = lost }

module _ (orders : Orders) where
  pub through_none : (old new : PassView) → new ≡ old → DoesThrough orders [] old new
  through_none old new same = record {
    does = ap desk_of same;
    calls = ap (λ (p : PassView). p.calls) same ∙ sym (append-nil old.calls);
    lost = ap (λ (p : PassView). min p.lost (2 ^ 64 - 1)) same ∙ omega arith;
  }

  pub through_more : (xs ys : List Work) (old middle new : PassView) → DoesThrough orders xs old middle → DoesThrough orders ys middle new → DoesThrough orders (xs ++ ys) old new
  through_more xs ys old middle new first more = record {
    does = works_more orders xs ys (desk_of old) (desk_of middle) (desk_of new) first.does more.does;
    calls = more.calls ∙ ap (λ l. l ++ answers_told ys) first.calls ∙ append_assoc old.calls (answers_told xs) (answers_told ys)
        ∙ ap (λ l. old.calls ++ l) (sym (ap (map (λ (t : Telling). t.answer)) (tellings-append xs ys) ∙ map-append (λ (t : Telling). t.answer) (tellings xs) (tellings ys)));
    lost = capped_more old.lost middle.lost new.lost (lost_in xs) (lost_in ys) (2 ^ 64 - 1) first.lost more.lost
        ∙ ap (λ n. min (old.lost + n) (2 ^ 64 - 1)) (sym (ap (sum_by (λ (t : Telling). t.lost)) (tellings-append xs ys) ∙ sum_by-append (λ (t : Telling). t.lost) (tellings xs) (tellings ys)));
  }

  -- a desk that went on, and made entries on nobody's command by which it took nothing
  pub through_freely : (old new : PassView) (goes : GoesOn (desk_of old) (desk_of new)) → new.calls ≡ old.calls → new.lost ≡ old.lost → list_all is_free (own_entries old.number goes.since) ≡ true → DoesThrough orders (freely ∷ []) old new
  through_freely old new goes calls lost free = record {
    does = (desk_of new, (own_entries old.number goes.since, record { since = goes.since; seen = goes.seen; own = refl; setting = goes.desk.setting; seat = goes.desk.seat }, free), refl);
    calls = calls ∙ sym (append-nil old.calls);
    lost = ap (λ n. min n (2 ^ 64 - 1)) lost ∙ omega arith;
  }

  -- a ticket whose request another pass took
  pub through_calling : (ticket : Ticket CallbackState) (called : CalledState) (old new : PassView) (spends : Spends orders ticket old called new) → DoesThrough orders (calling (telling_of ticket spends.count) ∷ []) old new
  through_calling ticket called old new spends = record {
    does = (desk_of new, spends.performed, refl);
    calls = spends.calls;
    lost = capped spends.count (sum_by (λ (t : Telling). t.lost) (telling_of ticket spends.count ∷ [])) spends.lost (sum_by-cons (λ (t : Telling). t.lost) (telling_of ticket spends.count) []);
  }
    where
      capped : (n total : ℕ) → new.lost ≡ min (old.lost + n) (2 ^ 64 - 1) → total ≡ n + 0 → min new.lost (2 ^ 64 - 1) ≡ min (old.lost + total) (2 ^ 64 - 1)
      capped n total is sum = omega (arith, is, sum)

  -- one that was taken right before
  pub through_delivering : (ticket : Ticket CallbackState) (called : CalledState) (old middle new : PassView) → Calls (Takes plan_of (Some ticket)) 0 (desk_of old) (desk_of middle) → middle.calls ≡ old.calls → middle.lost ≡ old.lost →
      (spends : Spends orders ticket middle called new) → DoesThrough orders (delivering (telling_of ticket spends.count) ∷ []) old new
  through_delivering ticket called old middle new call calls lost spends =
      let behind : DoesThrough orders (calling (telling_of ticket spends.count) ∷ []) middle new = through_calling ticket called middle new spends in
      record {
        does = (desk_of new, (desk_of middle, makes_taking ticket (desk_of old) (desk_of middle) call, spends.performed), refl);
        calls = behind.calls ∙ ap (λ l. l ++ ticket.call ∷ []) calls;
        lost = behind.lost ∙ ap (λ n. min (n + sum_by (λ (t : Telling). t.lost) (telling_of ticket spends.count ∷ [])) (2 ^ 64 - 1)) lost;
      }

  -- one that is handed over
  pub through_taking : (ticket : Ticket CallbackState) (old new : PassView) → Calls (Takes plan_of (Some ticket)) 0 (desk_of old) (desk_of new) → new.calls ≡ old.calls → new.lost ≡ old.lost → DoesThrough orders (taking ticket.call.number ∷ []) old new
  through_taking ticket old new call calls lost = record {
    does = (desk_of new, makes_taking ticket (desk_of old) (desk_of new) call, refl);
    calls = calls ∙ sym (append-nil old.calls);
    lost = ap (λ n. min n (2 ^ 64 - 1)) lost ∙ omega arith;
  }
