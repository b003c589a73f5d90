-- How a channel that was finished was closed: where, and that it was destroyed once.
use Rattle.std.proofs.Common.{◌≡◌, ◌≢◌, ◌∙◌, ℕ, ◌+◌, Bool, true, false, not, cond, List, [], ◌∷◌, ◌++◌, Some, None, length, map, take, refl, sym, ap, subst, inl, inr, arith, append_assoc}
use Rattle.std.proofs.lemmas.Bool.{and_parts}
use Rattle.std.proofs.lemmas.List.{append-nil, append_cancel_left}
use Rattle.std.specs.List.{AllByRecursion, list_all}
use Rattle.std.specs.Prelude.{filter, is_some, ◌⊎◌}
use Rattle.atomic_table.specs.Seated.{TableId}
use Rattle.chan_types.specs.declared.journal.Entry.{Entry}
use Rattle.chan_types.specs.declared.journal.What.TheVariants.{Destroy}
use Rattle.chan_types.specs.declared.orders.Orders.{Orders}
use Rattle.chan_types.specs.declared.ticket.Ticket.{Ticket}
use Rattle.channel_model.proofs.Theorems.{followed_by-append, past_of-push, ready-behind}
use Rattle.channel_model.specs.Commands.{closing_from, closing_position, past_at}
use Rattle.channel_model.specs.Completion.{completed_by, pending, ready}
use Rattle.channel_model.specs.Journal.{Past, followed_by, is_destroyed, past_of}
use Rattle.channel_model.specs.Known.{Calls}
use Rattle.channel_model.specs.Lawful.{first}
use Rattle.channel_model.specs.Meanings.{Destroys, Takes}
use Rattle.channel_model.specs.Seen.{entries_of}
use Rattle.channel_model.specs.Setting.{Setting}
use Rattle.completion_ticket.specs.States.{CallbackState, CalledState}
use Rattle.seat_laws.proofs.DestroyLemmas.{destroyed_once, destroys_counted}
use Rattle.seat_laws.proofs.ShiftLemmas.{GoesBy}
use Rattle.shared_channel.specs.Finishing.{DeliversSome, Finishes}
use Rattle.shared_channel.specs.Passes.{PassView, desk_of}
use Rattle.shared_channel.specs.Under.{plan_of}
use Rattle.shared_channel.specs.declared.finishing.Finished.{Finished}
use Rattle.ticket_delivery.proofs.Theorems.{destroyed_later}
use Rattle.pass_laws.specs.Courses.{AreObeyedUpTo, Course, EndsBehind, EndsInTime, IsDestroyedOnce, IsQuiet, is_closing}
use Rattle.pass_laws.proofs.EndLemmas.{are_obeyed, setting_of_all, went_behind, went_took}
use Rattle.pass_laws.proofs.ListLemmas.{each_parts}

-- ---- tests and lists

denies : (b : Bool) → not b ≡ true → b ≡ false
denies true is = absurd (cc is)
denies false is = refl

undenied : (x : Bool) → not x ≡ false → x ≡ true
undenied true is = refl
undenied false is = absurd (cc is)

take_front : {A : Type 0} (xs ys : List A) → take (length xs) (xs ++ ys) ≡ xs
take_front [] ys = refl
take_front (x ∷ xs) ys = ap (λ l. x ∷ l) (take_front xs ys)

-- entries of one seat and of others are none
nobodys : (n : ℕ) (es : List Entry) → AllByRecursion (λ (e : Entry). e.seat ≡ n) es → AllByRecursion (λ (e : Entry). e.seat ≢ n) es → es ≡ []
nobodys n [] mine others = refl
nobodys n (e ∷ es) mine others = absurd (others.0 mine.0)

-- ---- the closing position

closing_none : (k : ℕ) (es : List Entry) → list_all (λ e. not (is_closing e)) es ≡ true → closing_from k es ≡ k + length es
closing_none k [] h = omega arith
closing_none k (e ∷ es) h =
    let now = and_parts (not (is_closing e)) (list_all (λ x. not (is_closing x)) es) h in
    rw (denies (is_closing e) now.0) (omega (arith, closing_none (k + 1) es now.1))

closing_there : (k : ℕ) (es rest : List Entry) (closing : Entry) → is_closing closing ≡ true → list_all (λ e. not (is_closing e)) es ≡ true → closing_from k (es ++ closing ∷ rest) ≡ k + length es
closing_there k [] rest closing is h = rw is (omega arith)
closing_there k (e ∷ es) rest closing is h =
    let now = and_parts (not (is_closing e)) (list_all (λ x. not (is_closing x)) es) h in
    rw (denies (is_closing e) now.0) (omega (arith, closing_there (k + 1) es rest closing is now.1))

-- what makes nothing of a list that is empty
filter_none : (test : ℕ → Bool) (ns : List ℕ) → ns ≡ [] → filter test ns ≡ []
filter_none test ns none = ap (filter test) none

-- behind a Destroy nothing is ready, where nothing was, and nothing pending
ready_destroyed : (setting : Setting) (past : Past) → pending setting past ≡ [] → ready setting past ≡ [] → ready setting (Destroy ∷ past) ≡ []
ready_destroyed setting past none_pending none_ready =
    ready-behind setting Destroy past refl refl
    ∙ ap (λ l. l ++ filter (λ request. is_some (completed_by setting request Destroy past)) (pending setting past)) none_ready
    ∙ filter_none (λ request. is_some (completed_by setting request Destroy past)) (pending setting past) none_pending

-- ---- the channel

module _ {J : Type 0} (told : J → List Entry) (orders : Orders) (lock : TableId) (setting : Setting) (count : ℕ) (courses : List Course) (finished : Finished J) (ends : EndsBehind told orders lock setting count courses finished) where
  abbrev journal : List Entry
  journal = told finished.journal

  abbrev f : Finishes told orders (map (λ (x : Course). x.after) courses) finished
  f = ends.finishes

  abbrev all : PassView
  all = ends.finishes.all

  abbrev destroyed : PassView
  destroyed = ends.finishes.emptied.destroyed

  -- the journal goes on behind the Destroy
  behind : GoesBy (λ e. true) (desk_of destroyed) (desk_of f.last)
  behind = went_behind told orders lock setting count courses finished ends

  journal_is : journal ≡ destroyed.seen ++ behind.since
  journal_is = f.seen ∙ behind.seen

  -- what stands behind what all had seen is the first seat's
  made_mine : (others rest : List Entry) → journal ≡ all.seen ++ (others ++ rest) → AllByRecursion (λ (e : Entry). e.seat ≢ all.number) others → others ≡ []
  made_mine others rest parts apart =
      nobodys all.number others
      (each_parts (λ (e : Entry). e.seat ≡ all.number) others rest (subst (AllByRecursion (λ (e : Entry). e.seat ≡ all.number)) (append_cancel_left all.seen f.journal.made (others ++ rest) (sym f.journal.parts ∙ parts)) f.journal.made_by_first)).0
      apart

  -- the Destroy stands right there, or nothing does
  destroy_there : ((is_destroyed (past_of all.seen) ≡ false) × (destroyed.seen ≡ all.seen ++ record { seat = all.number; by = 0; what = Destroy } ∷ [])) ⊎ ((is_destroyed (past_of all.seen) ≡ true) × (destroyed.seen ≡ all.seen))
  destroy_there = by f.emptied.is_first f.emptied.destroys
    where
      at : (b : Bool) (c : Calls (Destroys b) 0 (desk_of all) (desk_of destroyed)) → c.here ≡ all.seen
      at b c =
          let none : c.stands.others ≡ [] =
          made_mine c.stands.others (entries_of all.number 0 c.added ++ behind.since)
          (journal_is ∙ ap (λ l. l ++ behind.since) (c.seen ∙ ap (λ l. l ++ entries_of all.number 0 c.added) c.stands.parts)
          ∙ append_assoc (all.seen ++ c.stands.others) (entries_of all.number 0 c.added) behind.since ∙ append_assoc all.seen c.stands.others (entries_of all.number 0 c.added ++ behind.since)) c.stands.by_others in
          c.stands.parts ∙ ap (λ l. all.seen ++ l) none ∙ append-nil all.seen

      by : (b : Bool) → Calls (Destroys b) 0 (desk_of all) (desk_of destroyed) →
          ((is_destroyed (past_of all.seen) ≡ false) × (destroyed.seen ≡ all.seen ++ record { seat = all.number; by = 0; what = Destroy } ∷ [])) ⊎ ((is_destroyed (past_of all.seen) ≡ true) × (destroyed.seen ≡ all.seen))
      by true c =
          let here : c.here ≡ all.seen = at true c in
          inl (
            ap (λ j. is_destroyed (past_of j)) (sym here) ∙ denies (is_destroyed (past_of c.here)) (sym c.meant.answer),
            c.seen ∙ ap (λ l. l ++ entries_of all.number 0 c.added) here ∙ ap (λ o. all.seen ++ entries_of all.number 0 o) c.meant.entry,
          )
      by false c =
          let here : c.here ≡ all.seen = at false c in
          inr (
            ap (λ j. is_destroyed (past_of j)) (sym here) ∙ undenied (is_destroyed (past_of c.here)) (sym c.meant.answer),
            c.seen ∙ ap (λ l. l ++ entries_of all.number 0 c.added) here ∙ ap (λ o. all.seen ++ entries_of all.number 0 o) c.meant.entry ∙ append-nil all.seen,
          )

  destroyed_there : is_destroyed (past_of destroyed.seen) ≡ true
  destroyed_there = by destroy_there
    where
      by : ((is_destroyed (past_of all.seen) ≡ false) × (destroyed.seen ≡ all.seen ++ record { seat = all.number; by = 0; what = Destroy } ∷ [])) ⊎ ((is_destroyed (past_of all.seen) ≡ true) × (destroyed.seen ≡ all.seen)) →
          is_destroyed (past_of destroyed.seen) ≡ true
      by (inl first_) = ap (λ j. is_destroyed (past_of j)) first_.1 ∙ ap is_destroyed (past_of-push all.seen (record { seat = all.number; by = 0; what = Destroy }))
      by (inr later) = ap (λ j. is_destroyed (past_of j)) later.1 ∙ later.0

  is_destroyed_once : IsDestroyedOnce told orders lock setting count courses finished
  is_destroyed_once =
      let past : past_of journal ≡ followed_by (past_of destroyed.seen) behind.since = ap past_of journal_is ∙ followed_by-append [] destroyed.seen behind.since in
      let is : is_destroyed (past_of journal) ≡ true = ap is_destroyed past ∙ destroyed_later (past_of destroyed.seen) behind.since destroyed_there in
      omega (arith, destroys_counted [] journal, destroyed_once all.setting (past_of journal) f.nothing.lawful.allowed ∙ ap (λ b. cond b 1 0) is)

  -- ---- where nothing was left to be done

  module _ (quiet : IsQuiet setting all.seen) (all_setting : all.setting ≡ setting) where
    none_ready : ready setting (past_of destroyed.seen) ≡ []
    none_ready = by destroy_there
      where
        by : ((is_destroyed (past_of all.seen) ≡ false) × (destroyed.seen ≡ all.seen ++ record { seat = all.number; by = 0; what = Destroy } ∷ [])) ⊎ ((is_destroyed (past_of all.seen) ≡ true) × (destroyed.seen ≡ all.seen)) →
            ready setting (past_of destroyed.seen) ≡ []
        by (inl first_) =
            ap (λ j. ready setting (past_of j)) first_.1 ∙ ap (ready setting) (past_of-push all.seen (record { seat = all.number; by = 0; what = Destroy }))
            ∙ ready_destroyed setting (past_of all.seen) quiet.none_pending quiet.none_ready
        by (inr later) = ap (λ j. ready setting (past_of j)) later.1 ∙ quiet.none_ready

    destroyed_setting : destroyed.setting ≡ setting
    destroyed_setting = f.emptied.destroys.desk.setting ∙ all_setting

    -- where a call stands right behind the Destroy, no other seat has made an entry
    stands_there : (others rest : List Entry) → journal ≡ destroyed.seen ++ (others ++ rest) → AllByRecursion (λ (e : Entry). e.seat ≢ destroyed.number) others → others ≡ []
    stands_there others rest parts apart = by destroy_there
      where
        mine : AllByRecursion (λ (e : Entry). e.seat ≢ all.number) others
        mine = subst (λ n. AllByRecursion (λ (e : Entry). e.seat ≢ n) others) f.emptied.destroys.desk.seat apart

        by : ((is_destroyed (past_of all.seen) ≡ false) × (destroyed.seen ≡ all.seen ++ record { seat = all.number; by = 0; what = Destroy } ∷ [])) ⊎ ((is_destroyed (past_of all.seen) ≡ true) × (destroyed.seen ≡ all.seen)) → others ≡ []
        by (inl first_) =
            nobodys all.number others
            (each_parts (λ (e : Entry). e.seat ≡ all.number) others rest
            ((each_parts (λ (e : Entry). e.seat ≡ all.number) (record { seat = all.number; by = 0; what = Destroy } ∷ []) (others ++ rest)
            (subst (AllByRecursion (λ (e : Entry). e.seat ≡ all.number))
            (append_cancel_left all.seen f.journal.made (record { seat = all.number; by = 0; what = Destroy } ∷ (others ++ rest))
            (sym f.journal.parts ∙ parts ∙ ap (λ l. l ++ (others ++ rest)) first_.1 ∙ append_assoc all.seen (record { seat = all.number; by = 0; what = Destroy } ∷ []) (others ++ rest)))
            f.journal.made_by_first)).1)).0 mine
        by (inr later) = made_mine others rest (parts ∙ ap (λ l. l ++ (others ++ rest)) later.1) mine

    -- so nothing was delivered
    none_called : f.emptied.delivered.called ≡ []
    none_called = by f.emptied.delivered.called refl f.emptied.delivered.some
      where
        by : (cs : List CalledState) → f.emptied.delivered.called ≡ cs → DeliversSome orders destroyed cs f.emptied.delivered.middle → f.emptied.delivered.called ≡ []
        by [] is some = is
        by (c ∷ cs) is some =
            let ticket : Ticket CallbackState = some.1.0 in
            let took : PassView = some.1.1 in
            let call : Calls (Takes plan_of (Some ticket)) 0 (desk_of destroyed) (desk_of took) = some.1.2 in
            let more : GoesBy (λ e. true) (desk_of took) (desk_of f.last) = went_took orders c cs destroyed f.emptied.delivered.middle f.last some f.emptied.delivered.none in
            let none : call.stands.others ≡ [] =
            stands_there call.stands.others (entries_of destroyed.number 0 call.added ++ more.since)
            (f.seen ∙ more.seen ∙ ap (λ l. l ++ more.since) (call.seen ∙ ap (λ l. l ++ entries_of destroyed.number 0 call.added) call.stands.parts)
            ∙ append_assoc (destroyed.seen ++ call.stands.others) (entries_of destroyed.number 0 call.added) more.since ∙ append_assoc destroyed.seen call.stands.others (entries_of destroyed.number 0 call.added ++ more.since))
            call.stands.by_others in
            let here : call.here ≡ destroyed.seen = call.stands.parts ∙ ap (λ l. destroyed.seen ++ l) none ∙ append-nil destroyed.seen in
            absurd (let clash : first [] ≡ Some ticket.call.number =
            ap first (sym none_ready) ∙ ap (λ j. first (ready setting (past_of j))) (sym here) ∙ subst (λ k. first (ready k (past_of call.here)) ≡ Some ticket.call.number) destroyed_setting call.meant.1 in cc)

    -- and the journal ends there
    ends_there : journal ≡ destroyed.seen
    ends_there =
        let middle_is : f.emptied.delivered.middle ≡ destroyed = subst (λ l. DeliversSome orders destroyed l f.emptied.delivered.middle) none_called f.emptied.delivered.some in
        let call : Calls (Takes plan_of None) 0 (desk_of destroyed) (desk_of f.last) = subst (λ p. Calls (Takes plan_of None) 0 (desk_of p) (desk_of f.last)) middle_is f.emptied.delivered.none in
        let seen : f.last.seen ≡ destroyed.seen ++ call.stands.others =
        call.seen ∙ ap (λ o. call.here ++ entries_of destroyed.number 0 o) call.meant.0 ∙ append-nil call.here ∙ call.stands.parts in
        let none : call.stands.others ≡ [] =
        stands_there call.stands.others [] (f.seen ∙ seen ∙ ap (λ l. destroyed.seen ++ l) (sym (append-nil call.stands.others))) call.stands.by_others in
        f.seen ∙ seen ∙ ap (λ l. destroyed.seen ++ l) none ∙ append-nil destroyed.seen

    closed_there : (closing_position journal ≡ length all.seen) × (past_at journal (length all.seen) ≡ past_of all.seen)
    closed_there = by destroy_there
      where
        by : ((is_destroyed (past_of all.seen) ≡ false) × (destroyed.seen ≡ all.seen ++ record { seat = all.number; by = 0; what = Destroy } ∷ [])) ⊎ ((is_destroyed (past_of all.seen) ≡ true) × (destroyed.seen ≡ all.seen)) →
            (closing_position journal ≡ length all.seen) × (past_at journal (length all.seen) ≡ past_of all.seen)
        by (inl first_) = (
          ap closing_position (ends_there ∙ first_.1) ∙ closing_there 0 all.seen [] (record { seat = all.number; by = 0; what = Destroy }) refl quiet.unclosed ∙ omega arith,
          ap (λ j. past_at j (length all.seen)) (ends_there ∙ first_.1) ∙ ap past_of (take_front all.seen (record { seat = all.number; by = 0; what = Destroy } ∷ [])),
        )
        by (inr later) = (
          ap closing_position (ends_there ∙ later.1) ∙ closing_none 0 all.seen quiet.unclosed ∙ omega arith,
          ap (λ j. past_at j (length all.seen)) (ends_there ∙ later.1 ∙ sym (append-nil all.seen)) ∙ ap past_of (take_front all.seen []),
        )

    in_time : EndsInTime told orders lock setting count courses finished ends
    in_time = record {
      closing = closed_there.0;
      past = ap (past_at journal) closed_there.0 ∙ closed_there.1;
      obeyed = subst (AreObeyedUpTo told orders lock setting count courses finished) (sym closed_there.0) ((are_obeyed orders lock setting count courses finished ends).in_time none_called);
    }

pub ends_in_time : {J : Type 0} {told : J → List Entry} (orders : Orders) (lock : TableId) (setting : Setting) (count : ℕ) (courses : List Course) (finished : Finished J) → (ends : EndsBehind told orders lock setting count courses finished) →
    IsQuiet setting ends.finishes.all.seen → EndsInTime told orders lock setting count courses finished ends
ends_in_time {told = told} orders lock setting count courses finished ends quiet = in_time told orders lock setting count courses finished ends quiet (setting_of_all told orders lock setting count courses finished ends)

pub destroyed_once_in : {J : Type 0} {told : J → List Entry} (orders : Orders) (lock : TableId) (setting : Setting) (count : ℕ) (courses : List Course) (finished : Finished J) → EndsBehind told orders lock setting count courses finished →
    IsDestroyedOnce told orders lock setting count courses finished
destroyed_once_in {told = told} orders lock setting count courses finished ends = is_destroyed_once told orders lock setting count courses finished ends
