-- From what was done through each pass of a session, and its end, what holds of its journal.
use Rattle.std.proofs.Common.{◌≡◌, ◌≢◌, ◌∙◌, ◌<◌, ℕ, zero, suc, ◌+◌, ◌==◌, ◌&&◌, ◌||◌, Bool, true, false, not, List, [], ◌∷◌, ◌++◌, Some, None, is_some, length, map, refl, sym, ap, subst, inl, inr, arith, append_assoc, eq-eqb, ne_eqb}
use Rattle.std.proofs.lemmas.Bool.{and_from, and_parts}
use Rattle.std.proofs.lemmas.List.{append-nil, append_cancel_left}
use Rattle.std.proofs.lemmas.List.Folds.{list_all-append}
use Rattle.std.specs.List.{AllByRecursion, Contains, list_all}
use Rattle.std.specs.Prelude.{slice_index_or}
use Rattle.atomic_table.specs.Seated.{TableId}
use Rattle.chan_types.specs.declared.answer.Answer.{Answer}
use Rattle.chan_types.specs.declared.journal.Entry.{Entry}
use Rattle.chan_types.specs.declared.journal.What.TheVariants.{Destroy}
use Rattle.chan_types.specs.declared.orders.Orders.{Orders}
use Rattle.channel_model.proofs.Theorems.{own-append, requests_numbered, unasked_fate}
use Rattle.channel_model.specs.Commands.{accepted_for}
use Rattle.channel_model.specs.Completion.{fate, occurrences, pending, ready, taken_by}
use Rattle.channel_model.specs.Journal.{accepted, is_destroy, own_entries, past_of}
use Rattle.channel_model.specs.Known.{Calls, Known}
use Rattle.channel_model.specs.Lawful.{IsLawful}
use Rattle.channel_model.specs.Meanings.{Destroys}
use Rattle.channel_model.specs.Seen.{entries_of}
use Rattle.channel_model.specs.Setting.{Setting}
use Rattle.channel_table.specs.Commanded.{IsOfCommand}
use Rattle.completion_ticket.specs.States.{CalledState}
use Rattle.event_runner.specs.State.{IsTurnOwner}
use Rattle.pass_laws.proofs.CourseLemmas.{makes_call, makes_nothing, makes_taking, went_along}
use Rattle.pass_laws.specs.Courses.{Course, EndsBehind, IsCourseIn, IsQuiet, is_closing}
use Rattle.pass_laws.proofs.ListLemmas.{each_parts, same_front}
use Rattle.seat_laws.proofs.ListLemmas.{all_pass, each_passes, no_zero, or_left, or_right}
use Rattle.seat_laws.proofs.ShiftLemmas.{GoesBy}
use Rattle.seat_laws.specs.Shifts.{Makes, taking_entry}
use Rattle.shared_channel.specs.Finishing.{DeliversSome, Finishes, IsNumberOfOne}
use Rattle.shared_channel.specs.Making.{new_pass}
use Rattle.shared_channel.specs.Passes.{PassView, desk_of}
use Rattle.shared_channel.specs.Settling.{told_through}
use Rattle.shared_channel.specs.declared.finishing.Finished.{Finished}
use Rattle.ticket_delivery.specs.Performing.{IsBy}
use Rattle.turner_laws.specs.Traffic.{GoesOnBehind}
use Rattle.worker_session.specs.Setting.{SetsNone, has_set}
use Rattle.worker_session.specs.Turning.{Turning}
use Rattle.shared_session.specs.Giving.{IsGiven, OnlyGives}
use Rattle.shared_session.specs.Looking.{SeesNothing}
use Rattle.shared_session.proofs.AskedLemmas.{accepted_parts, asks_none, commanded_asks, first_asks, take_asks, unasked}
use Rattle.shared_session.proofs.SeatLemmas.{command_plain, each_kept, is_owned, is_plain, none_set, of_number, own_parts, own_seated, plain_owned, plain_turns, seated_owned, seats_pass, take_open, take_plain}

-- ---- a desk went on, and its own entries pass a test

record Passes (f : Entry → Bool) (old new : Known) : Type 0 where
  since : List Entry
  seen : new.seen ≡ old.seen ++ since
  passes : list_all f (own_entries old.seat since) ≡ true
  seat : new.seat ≡ old.seat

pass_none : (f : Entry → Bool) (old new : Known) → new ≡ old → Passes f old new
pass_none f old new same = record { since = []; seen = ap (λ (k : Known). k.seen) same ∙ sym (append-nil old.seen); passes = refl; seat = ap (λ (k : Known). k.seat) same }

pass_more : (f : Entry → Bool) (old middle new : Known) → Passes f old middle → Passes f middle new → Passes f old new
pass_more f old middle new first more = record {
  since = first.since ++ more.since;
  seen = more.seen ∙ ap (λ l. l ++ more.since) first.seen ∙ append_assoc old.seen first.since more.since;
  passes = ap (list_all f) (own-append old.seat first.since more.since) ∙ list_all-append f (own_entries old.seat first.since) (own_entries old.seat more.since)
      ∙ and_from (list_all f (own_entries old.seat first.since)) (list_all f (own_entries old.seat more.since)) first.passes (subst (λ s. list_all f (own_entries s more.since) ≡ true) first.seat more.passes);
  seat = more.seat ∙ first.seat;
}

pass_makes : (f : Entry → Bool) (made : List Entry) (old new : Known) → Makes made old new → list_all f made ≡ true → Passes f old new
pass_makes f made old new m all = record { since = m.since; seen = m.seen; passes = ap (list_all f) m.own ∙ all; seat = m.seat }

module _ (f : Entry → Bool) (takes : (seat request : ℕ) → f (taking_entry seat request) ≡ true) (commanded : (request : ℕ) (e : Entry) → request ≢ 0 → IsBy request e → f e ≡ true) (orders : Orders) where
  pass_some : (calleds : List CalledState) (old new : PassView) → AllByRecursion (λ (c : CalledState). c.number ≢ 0) calleds → DeliversSome orders old calleds new → Passes f (desk_of old) (desk_of new)
  pass_some [] old new numbered same = pass_none f (desk_of old) (desk_of new) (ap desk_of same)
  pass_some (c ∷ cs) old new numbered some =
      let middle : PassView = some.0 in
      let took : PassView = some.1.1 in
      let done = some.1.3.performed in
      let differs : some.1.0.call.number ≢ 0 = λ none. numbered.0 (ap (λ (x : CalledState). x.number) some.1.3.is_called ∙ none) in
      pass_more f (desk_of old) (desk_of middle) (desk_of new)
      (pass_more f (desk_of old) (desk_of took) (desk_of middle)
      (pass_makes f (taking_entry old.number some.1.0.call.number ∷ []) (desk_of old) (desk_of took) (makes_taking some.1.0 (desk_of old) (desk_of took) some.1.2) (and_from (f (taking_entry old.number some.1.0.call.number)) true (takes old.number some.1.0.call.number) refl))
      (record { since = done.since; seen = done.seen; passes = each_passes (IsBy some.1.0.call.number) f (λ e by. commanded some.1.0.call.number e differs by) (own_entries took.number done.since) done.commanded; seat = done.seat }))
      (pass_some cs middle new numbered.1 some.2)

  pass_destroy : (is_first : Bool) (old new : PassView) → ((seat : ℕ) → f (record { seat = seat; by = 0; what = Destroy }) ≡ true) → Calls (Destroys is_first) 0 (desk_of old) (desk_of new) → Passes f (desk_of old) (desk_of new)
  pass_destroy true old new destroys call =
      pass_makes f (entries_of old.number 0 call.added) (desk_of old) (desk_of new) (makes_call (Destroys true) 0 (desk_of old) (desk_of new) call)
      (ap (λ a. list_all f (entries_of old.number 0 a)) call.meant.entry ∙ and_from (f (record { seat = old.number; by = 0; what = Destroy })) true (destroys old.number) refl)
  pass_destroy false old new destroys call =
      pass_makes f (entries_of old.number 0 call.added) (desk_of old) (desk_of new) (makes_call (Destroys false) 0 (desk_of old) (desk_of new) call) (ap (λ a. list_all f (entries_of old.number 0 a)) call.meant.entry)

-- entries of one seat are its own
own_all : (n : ℕ) (es : List Entry) → AllByRecursion (λ (e : Entry). e.seat ≡ n) es → own_entries n es ≡ es
own_all n [] each = refl
own_all n (e ∷ es) each = rw (eq-eqb e.seat n each.0) (ap (λ l. e ∷ l) (own_all n es each.1))

-- ---- a session's passes

module _ {J : Type 0} (told : J → List Entry) (orders : Orders) (lock : TableId) (setting : Setting) (count : ℕ) (turner : Course) (others : List Course) (finished : Finished J) (ends : EndsBehind told orders lock setting count (turner ∷ others) finished)
    (gives : AllByRecursion OnlyGives (map (λ (c : Course). c.after) others)) where
  abbrev pub journal : List Entry
  journal = told finished.journal

  abbrev pub f : Finishes told orders (map (λ (c : Course). c.after) (turner ∷ others)) finished
  f = ends.finishes

  abbrev first : PassView
  first = turner.after

  abbrev all : PassView
  all = ends.finishes.all

  abbrev passes : List PassView
  passes = map (λ (c : Course). c.after) (turner ∷ others)

  abbrev behind : List PassView
  behind = map (λ (c : Course). c.after) others

  -- the turner's number and its setting
  made_first : turner.before ≡ new_pass lock setting count 0
  made_first = ends.made.each 0 turner.before (some count ends.made.all)
    where
      some : (n : ℕ) → suc (length (map (λ (c : Course). c.before) others)) ≡ n → 0 < n
      some n is = omega (arith, is)

  turner_along : GoesBy (λ e. true) (desk_of turner.before) (desk_of turner.after)
  turner_along = went_along orders turner.works (desk_of turner.before) (desk_of turner.after) ends.each.0.does.does

  pub first_number : first.number ≡ 0
  first_number = turner_along.seat ∙ ap (λ (p : PassView). p.number) made_first

  pub first_setting : first.setting ≡ setting
  first_setting = turner_along.setting ∙ ap (λ (p : PassView). p.setting) made_first

  all_number : all.number ≡ first.number
  all_number = ap (λ (p : PassView). p.number) f.joined.first

  all_own : all.own ≡ first.own
  all_own = ap (λ (p : PassView). p.own) f.joined.first

  made_mine : AllByRecursion (λ (e : Entry). e.seat ≡ first.number) f.journal.made
  made_mine = subst (λ k. AllByRecursion (λ (e : Entry). e.seat ≡ k) f.journal.made) all_number f.journal.made_by_first

  -- what stands behind what the turner's desk has seen
  abbrev pub more : List Entry
  more = f.joined.seen.0.0 ++ f.journal.made

  pub parts : journal ≡ first.seen ++ more
  parts = f.journal.parts ∙ ap (λ l. l ++ f.journal.made) (sym f.joined.seen.0.1) ∙ append_assoc first.seen f.joined.seen.0.0 f.journal.made

  -- what the first seat made is its pass's own, and what was made in the end
  pub first_owns : own_entries first.number journal ≡ first.own ++ f.journal.made
  first_owns = ap (λ k. own_entries k journal) (sym all_number) ∙ f.journal.first_owns ∙ ap (λ l. l ++ f.journal.made) all_own

  -- so behind what its desk has seen it made what was made in the end
  own_more : own_entries first.number more ≡ f.journal.made
  own_more =
      append_cancel_left first.own (own_entries first.number more) f.journal.made
      (ap (λ l. l ++ own_entries first.number more) f.joined.own.0 ∙ sym (own-append first.number first.seen more) ∙ ap (own_entries first.number) (sym parts) ∙ first_owns)

  -- ---- what was told

  abbrev pub IsFated : Answer → Type 0
  IsFated a = fate setting a.number (past_of journal) ≡ Some a

  all_setting : all.setting ≡ setting
  all_setting = ap (λ (p : PassView). p.setting) f.joined.first ∙ first_setting

  pub lawful : IsLawful setting journal
  lawful = subst (λ s. IsLawful s journal) all_setting f.nothing.lawful

  fates : AllByRecursion IsFated finished.calls
  fates = subst (λ s. AllByRecursion (λ (a : Answer). fate s a.number (past_of journal) ≡ Some a) finished.calls) all_setting f.answers.fates

  told_fates : AllByRecursion IsFated (first.calls ++ told_through behind)
  told_fates = (each_parts IsFated (told_through passes) f.tells.told (subst (AllByRecursion IsFated) f.tells.parts fates)).0

  pub behind_fates : AllByRecursion IsFated (told_through behind)
  behind_fates = (each_parts IsFated first.calls (told_through behind) told_fates).1

  zero_unfated : fate setting 0 (past_of journal) ≡ None
  zero_unfated = unasked_fate setting 0 (past_of journal) (ap (occurrences 0) (requests_numbered setting (past_of journal) lawful.allowed) ∙ no_zero 1 (length (accepted (past_of journal))) (omega arith))

  -- no request that was told has the number 0
  pub told_some : (answers : List Answer) → AllByRecursion IsFated answers → (n : ℕ) → Contains (map (λ (a : Answer). a.number) answers) n → n ≢ 0
  told_some answers fated n is none = by answers fated is.0 is.1 is.2
    where
      by : (as_ : List Answer) → AllByRecursion IsFated as_ → (k : ℕ) → k < length (map (λ (a : Answer). a.number) as_) → slice_index_or (map (λ (a : Answer). a.number) as_) k n ≡ n → ⊥
      by [] fated_ k lt same = omega (arith, lt)
      by (a ∷ as_) fated_ zero lt same = let clash : None ≡ Some a = sym zero_unfated ∙ ap (λ m. fate setting m (past_of journal)) (sym (same ∙ none)) ∙ fated_.0 in cc
      by (a ∷ as_) fated_ (suc k) lt same = by as_ fated_.1 k (omega (arith, lt)) same

  -- ---- tests, seat by seat

  module _ (test : Entry → Bool) where
    -- the entries of all seats but the first, where the given ones pass
    pub others_pass : ((e : Entry) → is_some (taken_by e.what) ≡ true → e.by ≡ 0 → test e ≡ true) → ((e : Entry) → IsOfCommand e.what → e.by ≢ 0 → test e ≡ true) →
        AllByRecursion (λ (p : PassView). list_all test (own_entries p.number journal) ≡ true) behind
    others_pass takes commands = each behind gives f.journal.owns behind_fates
      where
        one : (p : PassView) → OnlyGives p → AllByRecursion IsFated p.calls → list_all test p.own ≡ true
        one p given fated = each_passes (IsGiven p.calls) test follows p.own given
          where
            follows : (e : Entry) → IsGiven p.calls e → test e ≡ true
            follows e (inl took) = takes e took.0 took.1
            follows e (inr by) = commands e by.1 (told_some p.calls fated e.by by.0)

        each : (ps : List PassView) → AllByRecursion OnlyGives ps → AllByRecursion (λ (p : PassView). p.own ≡ own_entries p.number journal) ps → AllByRecursion IsFated (told_through ps) → AllByRecursion (λ (p : PassView). list_all test (own_entries p.number journal) ≡ true) ps
        each [] given owns fated = tt
        each (p ∷ ps) given owns fated =
            let split = each_parts IsFated p.calls (told_through ps) fated in
            (ap (list_all test) (sym owns.0) ∙ one p given.0 split.0, each ps given.1 owns.1 split.1)

    -- all entries of the journal
    journal_passes : list_all test (own_entries first.number journal) ≡ true → AllByRecursion (λ (p : PassView). list_all test (own_entries p.number journal) ≡ true) behind → list_all test journal ≡ true
    journal_passes mine theirs =
        seats_pass test (map (λ (p : PassView). p.number) passes) journal f.journal.makers
        (λ n is. of_number (λ k. list_all test (own_entries k journal) ≡ true) passes (mine, theirs) n is)

    -- and of one of its parts
    part_passes : (xs ys : List Entry) → journal ≡ xs ++ ys → list_all test (own_entries first.number ys) ≡ true → AllByRecursion (λ (p : PassView). list_all test (own_entries p.number journal) ≡ true) behind → list_all test ys ≡ true
    part_passes xs ys are mine theirs =
        seats_pass test (map (λ (p : PassView). p.number) passes) ys
        (each_kept (λ (e : Entry). IsNumberOfOne passes e.seat) xs ys (subst (AllByRecursion (λ (e : Entry). IsNumberOfOne passes e.seat)) are f.journal.makers)).1
        (λ n is. of_number (λ k. list_all test (own_entries k ys) ≡ true) passes (mine, each behind theirs) n is)
      where
        each : (ps : List PassView) → AllByRecursion (λ (p : PassView). list_all test (own_entries p.number journal) ≡ true) ps → AllByRecursion (λ (p : PassView). list_all test (own_entries p.number ys) ≡ true) ps
        each [] all_ = tt
        each (p ∷ ps) all_ = ((own_parts test p.number journal xs ys are all_.0).1, each ps all_.1)

    front_passes : (xs ys : List Entry) → journal ≡ xs ++ ys → list_all test (own_entries first.number xs) ≡ true → AllByRecursion (λ (p : PassView). list_all test (own_entries p.number journal) ≡ true) behind → list_all test xs ≡ true
    front_passes xs ys are mine theirs =
        seats_pass test (map (λ (p : PassView). p.number) passes) xs
        (each_kept (λ (e : Entry). IsNumberOfOne passes e.seat) xs ys (subst (AllByRecursion (λ (e : Entry). IsNumberOfOne passes e.seat)) are f.journal.makers)).0
        (λ n is. of_number (λ k. list_all test (own_entries k xs) ≡ true) passes (mine, each behind theirs) n is)
      where
        each : (ps : List PassView) → AllByRecursion (λ (p : PassView). list_all test (own_entries p.number journal) ≡ true) ps → AllByRecursion (λ (p : PassView). list_all test (own_entries p.number xs) ≡ true) ps
        each [] all_ = tt
        each (p ∷ ps) all_ = ((own_parts test p.number journal xs ys are all_.0).0, each ps all_.1)

  -- ---- turns

  others_plain : AllByRecursion (λ (p : PassView). list_all is_plain (own_entries p.number journal) ≡ true) behind
  others_plain = others_pass is_plain (λ e took none. take_plain e.seat e.by e.what took) (λ e by some. command_plain e.seat e.by e.what by)

  -- only the first seat makes entries of turns
  owned : list_all (is_owned first.number) journal ≡ true
  owned =
      journal_passes (is_owned first.number) (all_pass (λ e. e.seat == first.number) (is_owned first.number) (seated_owned first.number) (own_entries first.number journal) (own_seated first.number journal))
      (each behind others_plain)
    where
      each : (ps : List PassView) → AllByRecursion (λ (p : PassView). list_all is_plain (own_entries p.number journal) ≡ true) ps → AllByRecursion (λ (p : PassView). list_all (is_owned first.number) (own_entries p.number journal) ≡ true) ps
      each [] plain = tt
      each (p ∷ ps) plain = (all_pass is_plain (is_owned first.number) (plain_owned first.number) (own_entries p.number journal) plain.0, each ps plain.1)

  pub turn_owner : IsTurnOwner (desk_of first)
  turn_owner = (and_parts (list_all (is_owned first.number) first.seen) (list_all (is_owned first.number) more) (sym (list_all-append (is_owned first.number) first.seen more) ∙ ap (list_all (is_owned first.number)) (sym parts) ∙ owned)).0

  -- no callback that was called in the end is that of a request 0
  calleds_some : AllByRecursion (λ (c : CalledState). c.number ≢ 0) f.emptied.delivered.called
  calleds_some = each f.tells.told f.emptied.delivered.called end_fates f.tells.numbers
    where
      end_fates : AllByRecursion IsFated f.tells.told
      end_fates = (each_parts IsFated (told_through passes) f.tells.told (subst (AllByRecursion IsFated) f.tells.parts fates)).1

      each : (answers : List Answer) (cs : List CalledState) → AllByRecursion IsFated answers → map (λ (a : Answer). a.number) answers ≡ map (λ (c : CalledState). c.number) cs → AllByRecursion (λ (c : CalledState). c.number ≢ 0) cs
      each answers [] fated same = tt
      each [] (c ∷ cs) fated same = absurd (cc same)
      each (a ∷ as_) (c ∷ cs) fated same =
          let here : a.number ≡ c.number = cc same in
          let others_ : map (λ (x : Answer). x.number) as_ ≡ map (λ (x : CalledState). x.number) cs = cc same in
          (λ none. told_some (a ∷ []) (fated.0, tt) 0 (0, omega arith, here ∙ none) refl, each as_ cs fated.1 others_)

  -- in the end the first seat destroys the channel, takes what is left, and does what callbacks command
  module _ (test : Entry → Bool) (destroys : (seat : ℕ) → test (record { seat = seat; by = 0; what = Destroy }) ≡ true) (takes : (seat request : ℕ) → test (taking_entry seat request) ≡ true) (commanded : (request : ℕ) (e : Entry) → request ≢ 0 → IsBy request e → test e ≡ true) where
    ending : Passes test (desk_of all) (desk_of f.last)
    ending =
        pass_more test (desk_of all) (desk_of f.emptied.destroyed) (desk_of f.last)
        (pass_destroy test takes commanded orders f.emptied.is_first all f.emptied.destroyed destroys f.emptied.destroys)
        (pass_more test (desk_of f.emptied.destroyed) (desk_of f.emptied.delivered.middle) (desk_of f.last)
        (pass_some test takes commanded orders f.emptied.delivered.called f.emptied.destroyed f.emptied.delivered.middle calleds_some f.emptied.delivered.some)
        (pass_makes test [] (desk_of f.emptied.delivered.middle) (desk_of f.last) (makes_nothing (desk_of f.emptied.delivered.middle) (desk_of f.last) f.emptied.delivered.none) refl))

    made_since : f.journal.made ≡ ending.since
    made_since = append_cancel_left all.seen f.journal.made ending.since (sym f.journal.parts ∙ f.seen ∙ ending.seen)

    pub made_passes : list_all test f.journal.made ≡ true
    made_passes =
        ap (list_all test) (sym (own_all first.number f.journal.made made_mine)) ∙ ap (λ k. list_all test (own_entries k f.journal.made)) (sym all_number)
        ∙ ap (λ es. list_all test (own_entries all.number es)) made_since ∙ ending.passes

  made_plain : list_all is_plain f.journal.made ≡ true
  made_plain = made_passes is_plain (λ seat. refl) (λ seat request. refl) (λ request e differs by. command_plain e.seat e.by e.what by.1)

  more_plain : list_all is_plain more ≡ true
  more_plain = part_passes is_plain first.seen more parts (ap (list_all is_plain) own_more ∙ made_plain) others_plain

  -- so the journal goes on behind the turner without turns
  pub goes_on_behind : (t : Turning) → t.known ≡ desk_of first → GoesOnBehind t more
  goes_on_behind t is = record {
    owner = subst IsTurnOwner (sym is) turn_owner;
    no_turn = plain_turns more more_plain;
    sets_none = subst (λ (k : Known). SetsNone k.seat more) (sym is) (ap has_set own_more ∙ none_set f.journal.made made_plain);
  }

  -- ---- where nothing is left

  -- the first seat made what its pass has, until all were joined
  own_seen : own_entries first.number all.seen ≡ first.own
  own_seen = same_front (own_entries first.number all.seen) first.own f.journal.made
      (ap (λ l. own_entries first.number all.seen ++ l) (sym (own_all first.number f.journal.made made_mine)) ∙ sym (own-append first.number all.seen f.journal.made) ∙ ap (own_entries first.number) (sym f.journal.parts) ∙ first_owns)

  -- nobody but a callback destroyed the channel before that
  unclosed : list_all (λ e. not (is_closing e)) first.own ≡ true → list_all (λ e. not (is_closing e)) all.seen ≡ true
  unclosed own =
      front_passes (λ e. not (is_closing e)) all.seen f.journal.made f.journal.parts (ap (list_all (λ e. not (is_closing e))) own_seen ∙ own)
      (others_pass (λ e. not (is_closing e)) (λ e took none. take_open e.what (e.by == 0) took) (λ e by some. ap (λ b. not (is_destroy e.what && b)) (ne_eqb e.by 0 some) ∙ never (is_destroy e.what)))
    where
      never : (b : Bool) → not (b && false) ≡ true
      never true = refl
      never false = refl

  -- each pass has the channel's setting
  settings : AllByRecursion (λ (p : PassView). p.setting ≡ setting) passes
  settings = by (turner ∷ others) 0 (λ k d lt. let same : k ≡ 0 + k = omega arith in ends.made.each k d (omega (arith, lt, ends.made.all)) ∙ ap (new_pass lock setting count) same) ends.each
    where
      by : (cs : List Course) (from : ℕ) → ((k : ℕ) (d : PassView) → k < length (map (λ (c : Course). c.before) cs) → slice_index_or (map (λ (c : Course). c.before) cs) k d ≡ new_pass lock setting count (from + k)) → AllByRecursion (IsCourseIn orders setting journal) cs →
          AllByRecursion (λ (p : PassView). p.setting ≡ setting) (map (λ (c : Course). c.after) cs)
      by [] from new each = tt
      by (c ∷ cs) from new each =
          let along : GoesBy (λ e. true) (desk_of c.before) (desk_of c.after) = went_along orders c.works (desk_of c.before) (desk_of c.after) each.0.does.does in
          let next : (k : ℕ) → from + suc k ≡ from + 1 + k = (λ k. omega arith) in
          (along.setting ∙ ap (λ (p : PassView). p.setting) (new 0 c.before (omega arith)), by cs (from + 1) (λ k d lt. new (suc k) d (omega (arith, lt)) ∙ ap (new_pass lock setting count) (next k)) each.1)

  -- what each pass sees, all of them together see
  pub quiet : AllByRecursion SeesNothing passes → list_all (λ e. not (is_closing e)) first.own ≡ true → IsQuiet setting all.seen
  quiet sees own =
      let one = by passes settings sees f.journal.seen_by_one.0 f.journal.seen_by_one.1 f.journal.seen_by_one.2 in
      record { none_pending = one.0; none_ready = one.1; unclosed = unclosed own }
    where
      by : (ps : List PassView) → AllByRecursion (λ (p : PassView). p.setting ≡ setting) ps → AllByRecursion SeesNothing ps → (k : ℕ) → k < length (map (λ (p : PassView). p.seen) ps) → slice_index_or (map (λ (p : PassView). p.seen) ps) k all.seen ≡ all.seen →
          (pending setting (past_of all.seen) ≡ []) × (ready setting (past_of all.seen) ≡ [])
      by [] same sees_ k lt is = absurd (omega (arith, lt))
      by (p ∷ ps) same sees_ zero lt is =
          (ap (λ j. pending setting (past_of j)) (sym is) ∙ ap (λ s. pending s (past_of p.seen)) (sym same.0) ∙ sees_.0.none_pending, ap (λ j. ready setting (past_of j)) (sym is) ∙ ap (λ s. ready s (past_of p.seen)) (sym same.0) ∙ sees_.0.none_ready)
      by (p ∷ ps) same sees_ (suc k) lt is = by ps same.1 sees_.1 k (omega (arith, lt)) is

  -- ---- requests on nobody's command

  -- what was made in the end accepts none
  pub made_unasked : accepted_for 0 f.journal.made ≡ []
  made_unasked = unasked f.journal.made (made_passes asks_none (λ seat. refl) (λ seat request. refl) (λ request e differs by. commanded_asks e.what e.by (λ none. differs (sym by.0 ∙ none))))

  -- the first seat alone accepted requests on nobody's command: those that its pass did
  pub accepts_are : accepted_for 0 journal ≡ accepted_for 0 first.own
  accepts_are =
      first_asks first.number journal owned_asks ∙ ap (accepted_for 0) first_owns ∙ accepted_parts first.own f.journal.made
      ∙ ap (λ l. accepted_for 0 first.own ++ l) made_unasked
      ∙ append-nil (accepted_for 0 first.own)
    where
      others_ask : AllByRecursion (λ (p : PassView). list_all asks_none (own_entries p.number journal) ≡ true) behind
      others_ask = others_pass asks_none (λ e took none. take_asks e.what (e.by == 0) took) (λ e by some. commanded_asks e.what e.by some)

      either : Entry → Bool
      either e = asks_none e || (e.seat == first.number)

      owned_asks : list_all either journal ≡ true
      owned_asks =
          journal_passes either (all_pass (λ e. e.seat == first.number) either (λ e is. or_right (asks_none e) (e.seat == first.number) is) (own_entries first.number journal) (own_seated first.number journal))
          (each behind others_ask)
        where
          each : (ps : List PassView) → AllByRecursion (λ (p : PassView). list_all asks_none (own_entries p.number journal) ≡ true) ps → AllByRecursion (λ (p : PassView). list_all either (own_entries p.number journal) ≡ true) ps
          each [] ask = tt
          each (p ∷ ps) ask = (all_pass asks_none either (λ e is. or_left (asks_none e) (e.seat == first.number) is) (own_entries p.number journal) ask.0, each ps ask.1)
