-- Each part of a session: a call of its desk, a pause, and a turn.
use Rattle.std.proofs.Common.{◌≡◌, ◌≢◌, ◌∙◌, ℕ, ◌+◌, ◌-◌, ◌==◌, ◌&&◌, not, cond, Bool, true, false, List, [], ◌∷◌, ◌++◌, refl, ap, ap₂, sym, subst, inl, inr, arith}
use Rattle.std.specs.Prelude.{Err, None, Ok, Option, Result, Some, IsTrue, filter_map, is_err, min, ◌^◌, ⊤}
use Rattle.std.specs.List.{list_all}
use Rattle.std.proofs.lemmas.List.{append-nil, append_cancel_left}
use Rattle.item_list.specs.declared.no_memory.NoMemory.{NoMemory}
use Rattle.chan_types.specs.declared.journal.Entry.{Entry}
use Rattle.chan_types.specs.declared.journal.What.TheVariants.{Take}
use Rattle.chan_types.specs.declared.script.Script.{Script}
use Rattle.chan_types.specs.declared.ticket.Ticket.{Ticket}
use Rattle.net_world.specs.declared.answers.Waited.{Waited}
use Rattle.net_world.specs.declared.answers.Waited.TheVariants.{Failed as NotWaited, Woken as WasWoken}
use Rattle.net_world.specs.declared.log.WorldCall.{WorldCall}
use Rattle.net_world.specs.declared.log.WorldCall.TheVariants.{Wait}
use Rattle.channel_model.specs.Completion.{taken_by}
use Rattle.channel_model.proofs.Theorems.{own-append, own-others, own_added}
use Rattle.channel_model.specs.Course.{has_no_turn, has_none_of, skips}
use Rattle.channel_model.specs.Journal.{own_entries, past_of}
use Rattle.channel_model.specs.Known.{Calls, Known}
use Rattle.channel_model.specs.Meanings.{Meaning, Takes}
use Rattle.channel_model.specs.Seen.{entries_of}
use Rattle.channel_model.specs.Setting.{Setting}
use Rattle.event_runner.proofs.Theorems.{MayStand, ran_at_most, runs_behind, runs_cut, runs_delivered, runs_following, runs_paused, runs_turned, runs_unpaused, told_as, told_by}
use Rattle.event_runner.proofs.RunLemmas.{way_broken}
use Rattle.event_runner.proofs.TrailLemmas.{goes_of, trail_call, trail_of, trail_trans}
use Rattle.event_runner.specs.declared.answers.Paused.{Paused}
use Rattle.event_runner.specs.declared.answers.Paused.TheVariants.{Skipped, WaitFault, Woken}
use Rattle.event_runner.specs.declared.answers.Turned.{Turned}
use Rattle.event_runner.specs.Goes.{Ends, Goes, Leads, Leaves, Stops}
use Rattle.event_runner.specs.Running.{HasLooked, HasWaited, PausesBy, Running, run_of, wakes_by}
use Rattle.event_runner.specs.State.{IsTurnOwner}
use Rattle.event_runner.specs.Turning.{IsCutShort, MakesTurn}
use Rattle.event_runner.specs.UnderWay.{IsUnderWay, Reach, RunsSince, rested, turned}
use Rattle.channel_session.specs.Advancing.{Advances, ComesToRest, IsCutOff, LogGrows, is_of_session}
use Rattle.channel_session.specs.Beginning.{BegunSince}
use Rattle.channel_session.specs.Left.{pending_of, ready_of}
use Rattle.channel_session.specs.Sitting.{IsCount, Moment, Sitting, longest_pause, moment_of, reach_of}
use Rattle.channel_session.specs.Stepping.{Rests, Turns, WaitsOnPending}
use Rattle.channel_session.proofs.BegunLemmas.{begun_behind, begun_on, begun_turned}
use Rattle.channel_session.proofs.AdvanceLemmas.{Moves, advances_none, as_many, grows_by, grows_none, grows_same, grows_then, moves_then, rest_moves, turns_are, turns_take}

abbrev pub sitting_of : Running → Bool → ℕ → Sitting
sitting_of running behind_turn reading = record { running = running; behind_turn = behind_turn; reading = reading }

-- right behind a turn, or before the first, entries of the desk's own may stand
own_may : (behind : Bool) (turns seat : ℕ) (es : List Entry) → IsCount behind turns → MayStand turns (reach_of behind) seat es
own_may true turns seat es count = inr (inl refl)
own_may false turns seat es count = inl count

-- ---- calls of the desk

-- a call added what it added to the desk's own
own_called : (meaning : Meaning) (by : ℕ) (old new : Known) (call : Calls meaning by old new) →
    own_entries old.seat (call.stands.others ++ entries_of old.seat by call.added) ≡ entries_of old.seat by call.added
own_called meaning by old new call =
    own-append old.seat call.stands.others (entries_of old.seat by call.added)
    ∙ ap₂ (λ xs ys. xs ++ ys) (own-others old.seat call.stands.others call.stands.by_others) (own_added old.seat by call.added)

-- the desk went on by what a session makes, but for a turn
advances_moved : (taken : List ℕ) (old new : Known) (sitting : Sitting) (log : Option (List WorldCall)) (moved : Moves taken old new) → IsTrue (has_no_turn (own_entries old.seat moved.goes_on.since)) →
    Advances 0 taken (moment_of old sitting log) (moment_of new sitting log)
advances_moved taken old new sitting log moved none = record {
  goes_on = moved.goes_on;
  own = moved.own;
  takes = moved.takes;
  grows = grows_none log;
  stands = λ began turns asides here. as_many turns (turns + 0) asides began (moment_of new sitting log) (omega arith) (record {
    count = here.count;
    reading = here.reading;
    runs = runs_behind longest_pause turns asides began log (reach_of sitting.behind_turn) old new sitting.running moved.goes_on none
        (own_may sitting.behind_turn turns old.seat moved.goes_on.since here.count) here.runs;
    begun = begun_behind longest_pause turns old new moved.goes_on began log here.begun;
  });
}

-- a call that makes no entry of a turn
advances_call : (taken : List ℕ) (meaning : Meaning) (old new : Known) (sitting : Sitting) (log : Option (List WorldCall)) (call : Calls meaning 0 old new) →
    IsTrue (has_no_turn (entries_of old.seat 0 call.added)) → IsTrue (list_all is_of_session (entries_of old.seat 0 call.added)) →
    filter_map (λ entry. taken_by entry.what) (entries_of old.seat 0 call.added) ≡ taken → Advances 0 taken (moment_of old sitting log) (moment_of new sitting log)
advances_call taken meaning old new sitting log call none all takes =
    let es : List Entry = call.stands.others ++ entries_of old.seat 0 call.added in
    let own : own_entries old.seat es ≡ entries_of old.seat 0 call.added = own_called meaning 0 old new call in
    advances_moved taken old new sitting log
    (record {
      goes_on = goes_of old new es (trail_call meaning 0 old new call);
      own = ap (list_all is_of_session) own ∙ all;
      takes = ap (filter_map (λ entry. taken_by entry.what)) own ∙ takes;
    })
    (ap has_no_turn own ∙ none)

-- a request was taken
pub took : {T : Type 0} (plan : T → Script) (ticket : Ticket T) (old new : Known) (sitting : Sitting) (log : Option (List WorldCall)) → Calls (Takes plan (Some ticket)) 0 old new →
    Advances 0 (ticket.call.number ∷ []) (moment_of old sitting log) (moment_of new sitting log)
took plan ticket old new sitting log call =
    let entry : entries_of old.seat 0 call.added ≡ record { seat = old.seat; by = 0; what = Take ticket.call.number } ∷ [] = ap (entries_of old.seat 0) call.meant.0 in
    advances_call (ticket.call.number ∷ []) (Takes plan (Some ticket)) old new sitting log call (ap has_no_turn entry) (ap (list_all is_of_session) entry)
    (ap (filter_map (λ e. taken_by e.what)) entry)

-- none was ready
pub took_none : {T : Type 0} (plan : T → Script) (old new : Known) (sitting : Sitting) (log : Option (List WorldCall)) → Calls (Takes {T = T} plan None) 0 old new →
    Advances 0 [] (moment_of old sitting log) (moment_of new sitting log)
took_none {T} plan old new sitting log call =
    let nothing : entries_of old.seat 0 call.added ≡ [] = ap (entries_of old.seat 0) call.meant.0 in
    advances_call [] (Takes {T = T} plan None) old new sitting log call (ap has_no_turn nothing) (ap (list_all is_of_session) nothing)
    (ap (filter_map (λ e. taken_by e.what)) nothing)

-- ---- looks

-- a look made no entry of its own
looked_own : (old new : Known) (looked : HasLooked old new) → own_entries old.seat looked.goes_on.since ≡ []
looked_own old new looked =
    sym (append_cancel_left old.own [] (own_entries old.seat looked.goes_on.since) (append-nil old.own ∙ sym looked.own ∙ looked.goes_on.own))

none_own : (seat : ℕ) (es : List Entry) → own_entries seat es ≡ [] → has_none_of seat es ≡ true
none_own seat [] own = refl
none_own seat (e ∷ es) own = by_seat (e.seat == seat) own (none_own seat es)
  where
    by_seat : (b : Bool) → cond b (e ∷ own_entries seat es) (own_entries seat es) ≡ [] → (own_entries seat es ≡ [] → has_none_of seat es ≡ true) → (not b && has_none_of seat es) ≡ true
    by_seat true is rest = absurd (cc is)
    by_seat false is rest = rest is

looked_stands : (turns : ℕ) (reach : Reach) (old new : Known) (looked : HasLooked old new) → MayStand turns reach old.seat looked.goes_on.since
looked_stands turns reach old new looked = inr (inr (none_own old.seat looked.goes_on.since (looked_own old new looked)))

abbrev looked_moves : (old new : Known) → HasLooked old new → Moves [] old new
looked_moves old new looked = record {
  goes_on = looked.goes_on;
  own = ap (list_all is_of_session) (looked_own old new looked);
  takes = ap (filter_map (λ e. taken_by e.what)) (looked_own old new looked);
}

pub advances_looked : (old new : Known) (sitting : Sitting) (log : Option (List WorldCall)) → HasLooked old new → Advances 0 [] (moment_of old sitting log) (moment_of new sitting log)
advances_looked old new sitting log looked = advances_moved [] old new sitting log (looked_moves old new looked) (ap has_no_turn (looked_own old new looked))

-- a look behind a rest
pub rests_looked : (m : ℕ) (a : Moment) (old new : Known) (sitting after : Sitting) (log : Option (List WorldCall)) → sitting.running ≡ after.running → HasLooked old new →
    ComesToRest m a (moment_of old sitting log) → ComesToRest m a (moment_of new after log)
rests_looked m a old new sitting after log same looked x =
    let moved = moves_then [] a.known old new (rest_moves m a (moment_of old sitting log) x) (looked_moves old new looked) in
    record {
      goes_on = moved.goes_on;
      own = moved.own;
      takes = moved.takes;
      grows = x.grows;
      rests = λ began turns asides here.
          subst (λ running. RunsSince longest_pause (turns + m) asides rested new running began log) same
          (runs_behind longest_pause (turns + m) asides began log rested old new sitting.running looked.goes_on (ap has_no_turn (looked_own old new looked))
          (looked_stands (turns + m) rested old new looked) (x.rests began turns asides here));
      begun = λ began turns asides here. begun_behind longest_pause (turns + m) old new looked.goes_on began log (x.begun began turns asides here);
    }

-- one look and then another
pub looked_then : (a b c : Known) → HasLooked a b → HasLooked b c → HasLooked a c
looked_then a b c x y = record {
  goes_on = goes_of a c (x.goes_on.since ++ y.goes_on.since) (trail_trans a b c x.goes_on.since y.goes_on.since (trail_of a b x.goes_on) (trail_of b c y.goes_on));
  own = y.own ∙ x.own;
  names = y.names ∙ x.names;
}

-- ---- turns

-- a turn behind a rest, where a request is pending, or one that was cut short
pub turns_behind : (result : Result Turned NoMemory) (from : Moment) (old new : Known) (sitting : Sitting) (after : Running) (log log_new : Option (List WorldCall)) →
    Ends MakesTurn IsCutShort result (run_of old sitting.running log) (run_of new after log_new) → pending_of old ≢ [] → ComesToRest 0 from (moment_of old sitting log) →
    Moves [] from.known new
turns_behind (Ok answer) from old new sitting after log log_new goes some x =
    moves_then [] from.known old new (rest_moves 0 from (moment_of old sitting log) x)
    (record { goes_on = goes.goes_on; own = turns_are old.seat goes.goes_on.since goes.made; takes = turns_take old.seat goes.goes_on.since goes.made })
turns_behind (Err fault) from old new sitting after log log_new stops some x =
    moves_then [] from.known old new (rest_moves 0 from (moment_of old sitting log) x)
    (record { goes_on = stops.goes_on; own = turns_are old.seat stops.goes_on.since stops.made; takes = turns_take old.seat stops.goes_on.since stops.made })

pub turned_then : (answer : Turned) (from : Moment) (old new : Known) (sitting : Sitting) (after : Running) (log log_new : Option (List WorldCall)) →
    Goes (MakesTurn answer) (run_of old sitting.running log) (run_of new after log_new) → after.reading ≡ answer.reading → pending_of old ≢ [] → ComesToRest 0 from (moment_of old sitting log) →
    Advances 1 [] from (moment_of new (sitting_of after true answer.reading) log_new)
turned_then answer from old new sitting after log log_new goes read some x =
    let moved = turns_behind (Ok answer) from old new sitting after log log_new goes some x in
    record {
      goes_on = moved.goes_on;
      own = moved.own;
      takes = moved.takes;
      grows = grows_then from.log log log_new x.grows
          (grows_by (λ calls. IsTurnOwner new → Leads (MakesTurn answer) (run_of old sitting.running log) (run_of new after log_new) goes.goes_on.since calls) log log_new goes.told);
      stands = λ began turns asides here.
          as_many (turns + 0 + 1) (turns + 1) asides began (moment_of new (sitting_of after true answer.reading) log_new) (omega arith) (record {
            count = omega arith;
            reading = sym read;
            runs = runs_turned longest_pause (turns + 0) asides began log old new sitting.running after log_new answer goes read
                (runs_following longest_pause (turns + 0) asides began log old sitting.running some (x.rests began turns asides here));
            begun = begun_turned longest_pause (turns + 0) asides old new sitting.running after began log log_new answer goes some
                (runs_following longest_pause (turns + 0) asides began log old sitting.running some (x.rests began turns asides here))
                (x.begun began turns asides here);
          });
    }

pub cut_behind : (from : Moment) (old new : Known) (sitting : Sitting) (after : Running) (behind : Sitting) (log log_new : Option (List WorldCall)) →
    Stops IsCutShort (run_of old sitting.running log) (run_of new after log_new) → pending_of old ≢ [] → ComesToRest 0 from (moment_of old sitting log) →
    IsCutOff 1 from (moment_of new behind log_new)
cut_behind from old new sitting after behind log log_new stops some x =
    let moved = turns_behind (Err _) from old new sitting after log log_new stops some x in
    record {
      goes_on = moved.goes_on;
      own = moved.own;
      takes = moved.takes;
      grows = grows_then from.log log log_new x.grows
          (grows_by (λ calls. IsTurnOwner new → Leaves IsCutShort (run_of old sitting.running log) stops.goes_on.since calls) log log_new stops.told);
      ran = λ began turns asides here.
          ran_at_most longest_pause (turns + 0 + 1) (turns + 1) asides new began log_new (omega arith)
          (runs_cut longest_pause (turns + 0) asides began log old new sitting.running after log_new stops
          (runs_following longest_pause (turns + 0) asides began log old sitting.running some (x.rests began turns asides here)));
    }

-- ---- pauses

-- where no turn was made since it last waited, it has no reason to
pub rests_at_once : (known : Known) (sitting after : Sitting) (log : Option (List WorldCall)) → sitting.behind_turn ≡ false → after ≡ sitting → Rests (Ok Skipped) (moment_of known sitting log) (moment_of known after log)
rests_at_once known sitting after log none same = subst (λ s. Rests (Ok Skipped) (moment_of known sitting log) (moment_of known s log)) (sym same) (
  record {
    goes_on = here.goes_on;
    own = here.own;
    takes = here.takes;
    grows = here.grows;
    rests = λ began turns asides stands.
        let same : turns ≡ turns + 0 = omega arith in
        subst (λ k. RunsSince longest_pause k asides rested known sitting.running began log) same
        (subst (λ behind. RunsSince longest_pause turns asides (reach_of behind) known sitting.running began log) none stands.runs);
    begun = λ began turns asides stands. let same : turns ≡ turns + 0 = omega arith in subst (λ k. BegunSince longest_pause k known began log) same stands.begun;
  },
  here,
  record { goes_on = here.goes_on; own = refl; names = refl },
)
  where
    here : Advances 0 [] (moment_of known sitting log) (moment_of known sitting log)
    here = advances_none (moment_of known sitting log)

-- what was waited for was pending
not_skipped_pending : (setting : Setting) (known : Known) → setting ≡ known.setting → skips setting (past_of known.seen) ≡ false → pending_of known ≢ []
not_skipped_pending setting known same not_skipped none =
    let says : skips known.setting (past_of known.seen) ≡ false = ap (λ s. skips s (past_of known.seen)) (sym same) ∙ not_skipped in
    let yes : skips known.setting (past_of known.seen) ≡ true = rw none refl in
    absurd (cc (sym says ∙ yes))

module _ (old new : Known) (running after : Running) (read : ℕ) (broken : Bool) (log log_new : Option (List WorldCall)) (kept : after ≡ record running { broken = broken }) (none : ready_of old ≡ []) where
  -- a pause behind a turn, where nothing is ready
  paused_rests : (answer : Paused) (behind : Bool) → PausesBy (min (running.reading + longest_pause) (2 ^ 64 - 1)) answer old new log log_new → Moves [] old new → LogGrows log log_new →
      ComesToRest 0 (moment_of old (sitting_of running true read) log) (moment_of new (sitting_of after behind read) log_new)
  paused_rests answer behind pauses moved grows = record {
    goes_on = moved.goes_on;
    own = moved.own;
    takes = moved.takes;
    grows = grows;
    rests = λ began turns asides here.
        let same : turns ≡ turns + 0 = omega arith in
        subst (λ k. RunsSince longest_pause k asides rested new after began log_new) same
        (runs_paused longest_pause turns asides began log old new running after broken log_new answer here.count pauses kept (runs_delivered longest_pause turns asides began log old running none here.runs));
    begun = λ began turns asides here.
        let same : turns ≡ turns + 0 = omega arith in
        subst (λ k. BegunSince longest_pause k new began log_new) same
        (begun_on longest_pause turns new began log log_new grows (begun_behind longest_pause turns old new moved.goes_on began log here.begun));
  }

  -- a pause that was skipped leaves the run right behind its turn
  skipped_stands : HasLooked old new → log_new ≡ log → Advances 0 [] (moment_of old (sitting_of running true read) log) (moment_of new (sitting_of after true read) log_new)
  skipped_stands looked no_call = record {
    goes_on = looked.goes_on;
    own = (looked_moves old new looked).own;
    takes = (looked_moves old new looked).takes;
    grows = grows_same log log_new no_call;
    stands = λ began turns asides here. as_many turns (turns + 0) asides began (moment_of new (sitting_of after true read) log_new) (omega arith) (record {
      count = here.count;
      reading = here.reading ∙ sym (ap (λ r. r.reading) kept);
      runs = subst (λ l. RunsSince longest_pause turns asides turned new after began l) (sym no_call)
          (subst (λ r. RunsSince longest_pause turns asides turned new r began log) (sym kept)
          (told_as (λ calls. IsTurnOwner new → IsUnderWay longest_pause turns asides turned new running calls) (λ calls. IsTurnOwner new → IsUnderWay longest_pause turns asides turned new (record running { broken = broken }) calls)
          (λ calls way owner. way_broken broken (way owner)) began log
          (runs_behind longest_pause turns asides began log turned old new running looked.goes_on (ap has_no_turn (looked_own old new looked)) (looked_stands turns turned old new looked) here.runs)));
      begun = subst (λ l. BegunSince longest_pause turns new began l) (sym no_call) (begun_behind longest_pause turns old new looked.goes_on began log here.begun);
    });
  }

  -- the log got the wait
  waited_grows : (outcome : Waited) → HasWaited (min (running.reading + longest_pause) (2 ^ 64 - 1)) outcome old new log log_new → LogGrows log log_new
  waited_grows outcome waited =
      told_by (λ calls. ⊤) (Wait (wakes_by old.setting (min (running.reading + longest_pause) (2 ^ 64 - 1)) (past_of new.seen)) outcome ∷ []) tt log log_new waited.waits

  waits_on : (middle : Known) (before : HasLooked old middle) → skips old.setting (past_of middle.seen) ≡ false → HasLooked middle new → WaitsOnPending old new
  waits_on middle before not_skipped again = record {
    middle = middle;
    looked = before;
    some_pending = not_skipped_pending old.setting middle (sym before.goes_on.desk.setting) not_skipped;
    looked_again = again;
  }

  -- by the answer, where a turn was made
  pub rests_skipped : (behind : Bool) → behind ≡ true → PausesBy (min (running.reading + longest_pause) (2 ^ 64 - 1)) Skipped old new log log_new →
      Rests (Ok Skipped) (moment_of old (sitting_of running behind read) log) (moment_of new (sitting_of after behind read) log_new)
  rests_skipped behind is skipped =
      subst (λ b. Rests (Ok Skipped) (moment_of old (sitting_of running b read) log) (moment_of new (sitting_of after b read) log_new)) (sym is)
      (paused_rests Skipped true skipped (looked_moves old new skipped.looked) (grows_same log log_new skipped.no_call), skipped_stands skipped.looked skipped.no_call, skipped.looked)

  pub rests_woken : (behind : Bool) → behind ≡ true → PausesBy (min (running.reading + longest_pause) (2 ^ 64 - 1)) Woken old new log log_new →
      Rests (Ok Woken) (moment_of old (sitting_of running behind read) log) (moment_of new (sitting_of after false read) log_new)
  rests_woken behind is waited =
      subst (λ b. Rests (Ok Woken) (moment_of old (sitting_of running b read) log) (moment_of new (sitting_of after false read) log_new)) (sym is) (
        paused_rests Woken false waited (looked_moves old new (looked_then old waited.middle new waited.looked waited.looked_again)) (waited_grows WasWoken waited),
        waits_on waited.middle waited.looked waited.not_skipped waited.looked_again,
      )

  pub rests_failed : (behind : Bool) → behind ≡ true → PausesBy (min (running.reading + longest_pause) (2 ^ 64 - 1)) WaitFault old new log log_new →
      Rests (Ok WaitFault) (moment_of old (sitting_of running behind read) log) (moment_of new (sitting_of after false read) log_new)
  rests_failed behind is waited =
      subst (λ b. Rests (Ok WaitFault) (moment_of old (sitting_of running b read) log) (moment_of new (sitting_of after false read) log_new)) (sym is) (
        paused_rests WaitFault false waited (looked_moves old new (looked_then old waited.middle new waited.looked waited.looked_again)) (waited_grows NotWaited waited),
        told_by (λ calls. (earlier : List WorldCall) × (until : ℕ) × (calls ≡ earlier ++ Wait until NotWaited ∷ []))
            (Wait (wakes_by old.setting (min (running.reading + longest_pause) (2 ^ 64 - 1)) (past_of new.seen)) NotWaited ∷ [])
            ([], wakes_by old.setting (min (running.reading + longest_pause) (2 ^ 64 - 1)) (past_of new.seen), refl) log log_new waited.waits,
      )

-- want of memory came to a pause
pub pause_cut_off : (old new : Known) (sitting behind : Sitting) (log log_new : Option (List WorldCall)) → sitting.behind_turn ≡ true → HasLooked old new × (log_new ≡ log) → ready_of old ≡ [] →
    IsCutOff 0 (moment_of old sitting log) (moment_of new behind log_new)
pause_cut_off old new sitting behind log log_new is looked none = record {
  goes_on = looked.0.goes_on;
  own = (looked_moves old new looked.0).own;
  takes = (looked_moves old new looked.0).takes;
  grows = grows_same log log_new looked.1;
  ran = λ began turns asides here.
      ran_at_most longest_pause turns (turns + 0) asides new began log_new (omega arith)
      (runs_unpaused longest_pause turns asides began log old new sitting.running log_new looked
      (runs_delivered longest_pause turns asides began log old sitting.running none
      (subst (λ b. RunsSince longest_pause turns asides (reach_of b) old sitting.running began log) is here.runs)));
}

-- want of memory is handed on
pub rests_err : (result : Result Paused NoMemory) → is_err result ≡ true → (a b : Moment) → IsCutOff 0 a b → Rests result a b
rests_err (Ok paused) err a b cut = absurd (cc err)
rests_err (Err fault) err a b cut = cut

pub turns_err : (result : Result (Unit {0}) NoMemory) → is_err result ≡ true → (a b : Moment) → IsCutOff 1 a b → Turns result a b
turns_err (Ok made) err a b cut = absurd (cc err)
turns_err (Err fault) err a b cut = cut

-- the session as its value has it
pub rests_viewed : (result : Result Paused NoMemory) (old new : Known) (inside viewed after : Sitting) (log log_new : Option (List WorldCall)) → inside ≡ viewed →
    Rests result (moment_of old inside log) (moment_of new after log_new) → Rests result (moment_of old viewed log) (moment_of new after log_new)
rests_viewed result old new inside viewed after log log_new is = subst (λ s. Rests result (moment_of old s log) (moment_of new after log_new)) is

pub rests_inside : (from : Moment) (old : Known) (inside viewed : Sitting) (log : Option (List WorldCall)) → inside ≡ viewed → ComesToRest 0 from (moment_of old viewed log) → ComesToRest 0 from (moment_of old inside log)
rests_inside from old inside viewed log is = subst (λ s. ComesToRest 0 from (moment_of old s log)) (sym is)
