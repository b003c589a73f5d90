-- Each step of a run whose turns are made through a desk of their own: looks, pauses, turns, and servers that are set.
use Rattle.std.proofs.Common.{◌≡◌, ◌≢◌, ◌∙◌, ℕ, ◌+◌, ◌-◌, ◌≤◌, ◌==◌, ◌&&◌, ◌||◌, Bool, true, false, not, cond, List, [], ◌∷◌, ◌++◌, Option, Some, None, Ok, Err, refl, ap, ap₂, sym, subst, inl, inr, arith}
use Rattle.std.specs.Prelude.{is_some, min, option_map, ◌^◌, ◌⊎◌, ⊤}
use Rattle.std.specs.List.{list_all}
use Rattle.std.proofs.lemmas.Bool.{and_from, and_parts}
use Rattle.std.proofs.lemmas.List.{append-nil, append_cancel_left}
use Rattle.chan_types.specs.declared.journal.Entry.{Entry}
use Rattle.channel_model.proofs.Theorems.{own-append, own-others, own_added}
use Rattle.channel_model.specs.Course.{has_no_turn, has_none_of, is_of_turn, standing_after}
use Rattle.channel_model.specs.Journal.{own_entries, past_of}
use Rattle.channel_model.specs.Known.{Calls, GoesOn, Known}
use Rattle.channel_model.specs.Meanings.{Meaning, SetsServers}
use Rattle.channel_model.specs.Seen.{entries_of}
use Rattle.channel_model.specs.Servers.{servers_set_by}
use Rattle.channel_model.specs.Stretch.{beginning, behind}
use Rattle.channel_model.specs.declared.answers.SetFault.{SetFault}
use Rattle.channel_model.specs.declared.answers.SetFault.TheVariants.{Closed}
use Rattle.channel_progress.specs.Waking.{NoWaitFailed}
use Rattle.channel_session.proofs.PartLemmas.{looked_then}
use Rattle.channel_session.specs.Sitting.{reach_of}
use Rattle.event_runner.proofs.GoesLemmas.{owner_before}
use Rattle.event_runner.proofs.Theorems.{ran_so_far, runs_behind, runs_cut, runs_delivered, runs_following, runs_paused, runs_turned, runs_unpaused, told_as, told_both, told_by, told_trans}
use Rattle.event_runner.proofs.TrailLemmas.{goes_of, trail_call, trail_none, trail_of}
use Rattle.event_runner.specs.Goes.{Goes, Leads, Leaves, Stops, is_made_in_turn}
use Rattle.event_runner.specs.Running.{HasLooked, PausesBy, Running, run_of, wakes_by}
use Rattle.event_runner.specs.State.{IsTurnOwner}
use Rattle.event_runner.specs.Turning.{IsCutShort, MakesTurn}
use Rattle.event_runner.specs.UnderWay.{IsUnderWay, RunsSince, delivered, following, rested, turned}
use Rattle.event_runner.specs.declared.answers.Paused.{Paused}
use Rattle.event_runner.specs.declared.answers.Paused.TheVariants.{Skipped, WaitFault as HasFaulted, Woken}
use Rattle.event_runner.specs.declared.answers.Turned.{Turned}
use Rattle.net_addr.specs.declared.addr.ServerAddr.{ServerAddr}
use Rattle.net_world.specs.Cause.{Rose}
use Rattle.net_world.specs.Logs.{LogGets}
use Rattle.net_world.specs.declared.answers.Waited.TheVariants.{Failed as NotWaited, Woken as WasWoken}
use Rattle.net_world.specs.declared.log.WorldCall.{WorldCall}
use Rattle.net_world.specs.declared.log.WorldCall.TheVariants.{Wait}
use Rattle.owner_laws.proofs.Waits.{cut_short_waits, failed_last, failed_none, failed_woken, turn_waits}
use Rattle.owner_laws.specs.Sessions.{EndsWithFailedWait}
use Rattle.worker_session.proofs.SettingLemmas.{sets_none_both, sets_none_own, sets_none_turns, sets_turned}
use Rattle.worker_session.proofs.WayLemmas.{InWay, come_to, in_way, steps_same, way_in}
use Rattle.worker_session.specs.Setting.{AreNotSet, AreSet, IsBehindFirst, SetsBehindFirst, SetsNone, SetsSoFar, setting_entry}
use Rattle.worker_session.specs.Standing.{AreDone, AreLeft, HasSet, IsSome, Told}
use Rattle.worker_session.specs.Stepping.{StepsOn, is_of_run}
use Rattle.worker_session.specs.Turning.{Turning, longest_pause, pending_of, ready_of}
use Rattle.worker_session.specs.declared.coming.Coming.{Coming}
use Rattle.worker_session.specs.declared.coming.Coming.TheVariants.{OutOfMemory, Stalled, UnderWay, WaitFault}

-- ---- what was told, where the journal and the log go on

-- who owns the turns owned them before
owned : (a b : Known) → GoesOn a b → IsTurnOwner b → IsTurnOwner a
owned a b goes = owner_before a b goes.since (trail_of a b goes)

module _ (began : Option (List WorldCall)) (a b : Turning) (goes : GoesOn a.known b.known) where
  -- the log as it was
  told_still : (P Q : List WorldCall → Type 0) → ((cs : List WorldCall) → P cs → Q cs) → b.log ≡ a.log → Told P began a → Told Q began b
  told_still P Q more same told =
      subst (λ l. LogGets (λ cs. IsTurnOwner b.known → Q cs) began l) (sym same)
      (told_as (λ cs. IsTurnOwner a.known → P cs) (λ cs. IsTurnOwner b.known → Q cs) (λ cs was owner. more cs (was (owned a.known b.known goes owner))) began a.log told)

  -- the log with more calls
  told_more : (P Q R : List WorldCall → Type 0) → ((cs ds : List WorldCall) → P cs → R ds → Q (cs ++ ds)) → LogGets R a.log b.log → Told P began a → Told Q began b
  told_more P Q R more grows told =
      told_trans (λ cs. IsTurnOwner a.known → P cs) R (λ cs. IsTurnOwner b.known → Q cs) (λ cs ds was then_ owner. more cs ds (was (owned a.known b.known goes owner)) then_)
      began a.log b.log told grows

-- ---- servers, where nothing is set

module _ (a b : Turning) (goes : GoesOn a.known b.known) (none : SetsNone a.known.seat goes.since) where
  unset_on : SetsNone a.known.seat a.known.seen → SetsNone b.known.seat b.known.seen
  unset_on unset =
      subst (λ seat. SetsNone seat b.known.seen) (sym goes.desk.seat)
      (subst (SetsNone a.known.seat) (sym goes.seen) (sets_none_both a.known.seat a.known.seen goes.since unset none))

  -- what was set
  set_on : (later : Option (List ServerAddr)) (made again : ℕ) (cs ds : List WorldCall) → (made ≡ 0 → later ≡ None) → SetsBehindFirst a.known.setting a.known.seat later made a.known.seen cs →
      SetsBehindFirst b.known.setting b.known.seat later again b.known.seen (cs ++ ds)
  set_on later made again cs ds some sets =
      subst (λ s. SetsBehindFirst s b.known.seat later again b.known.seen (cs ++ ds)) (sym goes.desk.setting)
      (subst (λ seat. SetsBehindFirst a.known.setting seat later again b.known.seen (cs ++ ds)) (sym goes.desk.seat)
      (subst (λ seen. SetsBehindFirst a.known.setting a.known.seat later again seen (cs ++ ds)) (sym goes.seen)
      (sets_turned a.known.setting a.known.seat a.known.seen goes.since cs ds none later made again some sets)))

  module _ (began : Option (List WorldCall)) (later : Option (List ServerAddr)) (made again : ℕ) (more : made ≤ again) (grows : LogGets (λ cs. ⊤) a.log b.log) where
    done_on : AreDone later made began a → AreDone later again began b
    done_on done = (
      λ none_made. done.0 (omega (arith, more, none_made)),
      told_more began a b goes (SetsBehindFirst a.known.setting a.known.seat later made a.known.seen) (SetsBehindFirst b.known.setting b.known.seat later again b.known.seen) (λ ds. ⊤)
          (λ cs ds was any. set_on later made again cs ds done.0 was) grows done.1,
    )

    -- where memory was wanting
    so_far_done : AreDone later made began a → Told (SetsSoFar b.known.setting b.known.seat later again b.known.seen) began b
    so_far_done done =
        told_as (λ cs. IsTurnOwner b.known → SetsBehindFirst b.known.setting b.known.seat later again b.known.seen cs) (λ cs. IsTurnOwner b.known → SetsSoFar b.known.setting b.known.seat later again b.known.seen cs)
        (λ cs was owner. inl (was owner)) began b.log (done_on done).1

    so_far_left : (addresses : List ServerAddr) → again ≤ 1 → Told (λ cs. ⊤) began b → AreLeft addresses later made a → Told (SetsSoFar b.known.setting b.known.seat later again b.known.seen) began b
    so_far_left addresses few any left =
        told_as (λ cs. IsTurnOwner b.known → ⊤) (λ cs. IsTurnOwner b.known → SetsSoFar b.known.setting b.known.seat later again b.known.seen cs)
        (λ cs was owner. inr (few, unset_on left.none)) began b.log any

-- a log that stays, and one that gets a call
log_same : (l m : Option (List WorldCall)) → m ≡ l → LogGets (λ cs. ⊤) l m
log_same l m same = told_by (λ cs. ⊤) [] tt l m (same ∙ still l)
  where
    still : (l : Option (List WorldCall)) → l ≡ option_map (λ calls. calls ++ []) l
    still None = refl
    still (Some x) = ap Some (sym (append-nil x))

grown : (P : List WorldCall → Type 0) (l m : Option (List WorldCall)) → LogGets P l m → LogGets (λ cs. ⊤) l m
grown P l m = told_as P (λ cs. ⊤) (λ cs p. tt) l m

some_calls : (P : List WorldCall → Type 0) (began : Option (List WorldCall)) (t : Turning) → Told P began t → Told (λ cs. ⊤) began t
some_calls P began t = told_as (λ cs. IsTurnOwner t.known → P cs) (λ cs. IsTurnOwner t.known → ⊤) (λ cs was owner. tt) began t.log

-- ---- looks

-- a look made no entry of its own
pub looked_own : (old new : Known) (looked : HasLooked old new) → own_entries old.seat looked.goes_on.since ≡ []
looked_own old new looked = sym (append_cancel_left old.own [] (own_entries old.seat looked.goes_on.since) (append-nil old.own ∙ sym looked.own ∙ looked.goes_on.own))

none_own : (seat : ℕ) (es : List Entry) → own_entries seat es ≡ [] → has_none_of seat es ≡ true
none_own seat [] own = refl
none_own seat (e ∷ es) own = by_seat (e.seat == seat) own (none_own seat es)
  where
    by_seat : (b : Bool) → cond b (e ∷ own_entries seat es) (own_entries seat es) ≡ [] → (own_entries seat es ≡ [] → has_none_of seat es ≡ true) → (not b && has_none_of seat es) ≡ true
    by_seat true is rest = absurd (cc is)
    by_seat false is rest = rest is

module _ (t : Turning) (new : Known) (looked : HasLooked t.known new) (under_way : t.coming ≡ UnderWay) where
  abbrev looked_at : Turning
  looked_at = record t { known = new }

  none_since : own_entries t.known.seat looked.goes_on.since ≡ []
  none_since = looked_own t.known new looked

  pub way_looked : (turns : ℕ) (later : Option (List ServerAddr)) (began : Option (List WorldCall)) → InWay turns later began t → InWay turns later began looked_at
  way_looked turns later began w = record {
    made = w.made;
    counts = w.counts;
    some = w.some;
    runs = runs_behind longest_pause w.made 0 began t.log (reach_of t.behind_turn) t.known new t.running looked.goes_on (ap has_no_turn none_since) (inr (inr (none_own t.known.seat looked.goes_on.since none_since))) w.runs;
    waits = told_still began t looked_at looked.goes_on NoWaitFailed NoWaitFailed (λ cs h. h) refl w.waits;
    sets = by t.later w.sets;
  }
    where
      unset : SetsNone t.known.seat looked.goes_on.since
      unset = sets_none_own t.known.seat looked.goes_on.since none_since

      by : (left : Option (List ServerAddr)) → HasSet UnderWay left later w.made began t → HasSet UnderWay left later w.made began looked_at
      by None done = done_on t looked_at looked.goes_on unset began later w.made w.made (omega arith) (log_same t.log t.log refl) done
      by (Some addresses) left = record { same = left.same; none = unset_on t looked_at looked.goes_on unset left.none; few = left.few; behind = left.behind }

  pub steps_looked : StepsOn t looked_at
  steps_looked = record {
    goes_on = looked.goes_on;
    own = ap (list_all is_of_run) none_since;
    stands = λ turns later began s. in_way turns later began looked_at under_way (way_looked turns later began (way_in turns later began t under_way s));
    waits = omega arith;
    wait_fault = λ other is. absurd (other is);
    ended = λ over. absurd (over under_way);
  }

-- ---- pauses

-- what a pause did to the desk is a look
pause_looks : (latest : ℕ) (answer : Paused) (old new : Known) (l m : Option (List WorldCall)) → PausesBy latest answer old new l m → HasLooked old new
pause_looks latest Skipped old new l m pauses = pauses.looked
pause_looks latest Woken old new l m pauses = looked_then old pauses.middle new pauses.looked pauses.looked_again
pause_looks latest HasFaulted old new l m pauses = looked_then old pauses.middle new pauses.looked pauses.looked_again

pause_grows : (latest : ℕ) (answer : Paused) (old new : Known) (l m : Option (List WorldCall)) → PausesBy latest answer old new l m → LogGets (λ cs. ⊤) l m
pause_grows latest Skipped old new l m pauses = log_same l m pauses.no_call
pause_grows latest Woken old new l m pauses = told_by (λ cs. ⊤) (Wait (wakes_by old.setting latest (past_of new.seen)) WasWoken ∷ []) tt l m pauses.waits
pause_grows latest HasFaulted old new l m pauses = told_by (λ cs. ⊤) (Wait (wakes_by old.setting latest (past_of new.seen)) NotWaited ∷ []) tt l m pauses.waits

module _ (t : Turning) (new : Known) (after : Running) (log : Option (List WorldCall)) (faults : ℕ) (under_way : t.coming ≡ UnderWay) (behind_turn : t.behind_turn ≡ true) (none_left : t.later ≡ None)
    (none_ready : ready_of t.known ≡ []) (waits : t.wait_faults ≤ faults) where
  -- right behind a turn, where nothing is ready
  delivered_here : (turns : ℕ) (later : Option (List ServerAddr)) (began : Option (List WorldCall)) (w : InWay turns later began t) → RunsSince longest_pause w.made 0 delivered t.known t.running began t.log
  delivered_here turns later began w =
      runs_delivered longest_pause w.made 0 began t.log t.known t.running none_ready
      (subst (λ b. RunsSince longest_pause w.made 0 (reach_of b) t.known t.running began t.log) behind_turn w.runs)

  some_made : (turns : ℕ) (later : Option (List ServerAddr)) (began : Option (List WorldCall)) (w : InWay turns later began t) → 1 ≤ w.made
  some_made turns later began w = subst (λ b. IsSome b w.made) behind_turn w.some

  all_set : (turns : ℕ) (later : Option (List ServerAddr)) (began : Option (List WorldCall)) (w : InWay turns later began t) → AreDone later w.made began t
  all_set turns later began w = subst (λ left. HasSet UnderWay left later w.made began t) none_left w.sets

  -- by a pause in which no wait failed
  module _ (answer : Paused) (pauses : PausesBy (min (t.running.reading + longest_pause) (2 ^ 64 - 1)) answer t.known new t.log log) (broken : Bool) (kept : after ≡ record t.running { broken = broken }) where
    pause_look : HasLooked t.known new
    pause_look = pause_looks (min (t.running.reading + longest_pause) (2 ^ 64 - 1)) answer t.known new t.log log pauses

    pause_own : own_entries t.known.seat pause_look.goes_on.since ≡ []
    pause_own = looked_own t.known new pause_look

    abbrev paused_at : Coming → Turning
    paused_at coming = record t { known = new; running = after; behind_turn = false; coming = coming; log = log; wait_faults = faults }

    runs_rested : (turns : ℕ) (later : Option (List ServerAddr)) (began : Option (List WorldCall)) (w : InWay turns later began t) → RunsSince longest_pause w.made 0 rested new after began log
    runs_rested turns later began w =
        runs_paused longest_pause w.made 0 began t.log t.known new t.running after broken log answer (some_made turns later began w) pauses kept (delivered_here turns later began w)

    done_paused : (coming : Coming) (turns : ℕ) (later : Option (List ServerAddr)) (began : Option (List WorldCall)) (w : InWay turns later began t) → AreDone later w.made began (paused_at coming)
    done_paused coming turns later began w =
        done_on t (paused_at coming) pause_look.goes_on (sets_none_own t.known.seat pause_look.goes_on.since pause_own) began later w.made w.made (omega arith)
        (pause_grows (min (t.running.reading + longest_pause) (2 ^ 64 - 1)) answer t.known new t.log log pauses) (all_set turns later began w)

    none_failed : answer ≢ HasFaulted → (coming : Coming) (began : Option (List WorldCall)) → Told NoWaitFailed began t → Told NoWaitFailed began (paused_at coming)
    none_failed other coming began told = by answer pauses other
      where
        by : (answer : Paused) → PausesBy (min (t.running.reading + longest_pause) (2 ^ 64 - 1)) answer t.known new t.log log → answer ≢ HasFaulted → Told NoWaitFailed began (paused_at coming)
        by Skipped p other = told_still began t (paused_at coming) pause_look.goes_on NoWaitFailed NoWaitFailed (λ cs h. h) p.no_call told
        by Woken p other =
            let call : WorldCall = Wait (wakes_by t.known.setting (min (t.running.reading + longest_pause) (2 ^ 64 - 1)) (past_of new.seen)) WasWoken in
            told_more began t (paused_at coming) pause_look.goes_on NoWaitFailed NoWaitFailed (λ ds. ds ≡ call ∷ [])
            (λ cs ds h is. subst (λ l. NoWaitFailed (cs ++ l)) (sym is) (failed_woken cs h _)) (told_by (λ ds. ds ≡ call ∷ []) (call ∷ []) refl t.log log p.waits) told
        by HasFaulted p other = absurd (other refl)

    pub steps_rested : answer ≢ HasFaulted → StepsOn t (paused_at t.coming)
    steps_rested other = record {
      goes_on = pause_look.goes_on;
      own = ap (list_all is_of_run) pause_own;
      stands = λ turns later began s.
          let w = way_in turns later began t under_way s in
          in_way turns later began (paused_at t.coming) under_way (record {
            made = w.made;
            counts = w.counts;
            some = tt;
            runs = runs_rested turns later began w;
            waits = none_failed other t.coming began w.waits;
            sets = subst (λ left. HasSet UnderWay left later w.made began (paused_at t.coming)) (sym none_left) (done_paused t.coming turns later began w);
          });
      waits = waits;
      wait_fault = λ not_failed is. absurd (not_failed is);
      ended = λ over. absurd (over under_way);
    }

  -- a wait failed
  pub steps_failed : (pauses : PausesBy (min (t.running.reading + longest_pause) (2 ^ 64 - 1)) HasFaulted t.known new t.log log) (broken : Bool) → after ≡ record t.running { broken = broken } → Rose t.wait_faults faults →
      StepsOn t (record t { known = new; running = after; behind_turn = false; coming = WaitFault; log = log; wait_faults = faults })
  steps_failed pauses broken kept rose =
      let looked = pause_looks (min (t.running.reading + longest_pause) (2 ^ 64 - 1)) HasFaulted t.known new t.log log pauses in
      let call : WorldCall = Wait (wakes_by t.known.setting (min (t.running.reading + longest_pause) (2 ^ 64 - 1)) (past_of new.seen)) NotWaited in
      let to : Turning = record t { known = new; running = after; behind_turn = false; coming = WaitFault; log = log; wait_faults = faults } in
      record {
        goes_on = looked.goes_on;
        own = ap (list_all is_of_run) (looked_own t.known new looked);
        stands = λ turns later began s.
            let w = way_in turns later began t under_way s in
            come_to turns later began to WaitFault refl w.made w.counts (
              runs_rested HasFaulted pauses broken kept turns later began w,
              told_more began t to looked.goes_on NoWaitFailed EndsWithFailedWait (λ ds. ds ≡ call ∷ [])
                  (λ cs ds h is. subst (λ l. EndsWithFailedWait (cs ++ l)) (sym is) (failed_last cs h _)) (told_by (λ ds. ds ≡ call ∷ []) (call ∷ []) refl t.log log pauses.waits) w.waits,
            )
            (subst (λ left. HasSet WaitFault left later w.made began to) (sym none_left) (done_paused HasFaulted pauses broken kept WaitFault turns later began w));
        waits = waits;
        wait_fault = λ other is. rose;
        ended = λ over. absurd (over under_way);
      }

  -- memory was wanting
  pub steps_unpaused : (looked : HasLooked t.known new) → log ≡ t.log → StepsOn t (record t { known = new; running = after; coming = OutOfMemory; log = log; wait_faults = faults })
  steps_unpaused looked same =
      let to : Turning = record t { known = new; running = after; coming = OutOfMemory; log = log; wait_faults = faults } in
      let own = looked_own t.known new looked in
      record {
        goes_on = looked.goes_on;
        own = ap (list_all is_of_run) own;
        stands = λ turns later began s.
            let w = way_in turns later began t under_way s in
            let unfailed = told_still began t to looked.goes_on NoWaitFailed NoWaitFailed (λ cs h. h) same w.waits in
            come_to turns later began to OutOfMemory refl w.made w.counts
            (runs_unpaused longest_pause w.made 0 began t.log t.known new t.running log (looked, same) (delivered_here turns later began w), unfailed)
            (so_far_done t to looked.goes_on (sets_none_own t.known.seat looked.goes_on.since own) began later w.made w.made (omega arith) (log_same t.log log same) (all_set turns later began w));
        waits = waits;
        wait_fault = λ other is. absurd (cc is);
        ended = λ over. absurd (over under_way);
      }

-- ---- turns

-- what a turn made, a run makes
turns_of_run : (es : List Entry) → list_all is_made_in_turn es ≡ true → list_all is_of_run es ≡ true
turns_of_run [] all = refl
turns_of_run (e ∷ es) all =
    let parts = and_parts (is_made_in_turn e) (list_all is_made_in_turn es) all in
    let two = and_parts (is_of_turn e) (e.by == 0) parts.0 in
    and_from (is_of_run e) (list_all is_of_run es) (and_from (is_of_turn e || is_some (servers_set_by e.what)) (e.by == 0) (ap (λ b. b || is_some (servers_set_by e.what)) two.0) two.1) (turns_of_run es parts.1)

module _ (t : Turning) (new : Known) (after : Running) (log : Option (List WorldCall)) (faults left : ℕ) (under_way : t.coming ≡ UnderWay) (is_rested : t.behind_turn ≡ false) (some_pending : pending_of t.known ≢ [])
    (taken : left + 1 ≡ t.left) (same_faults : faults ≡ t.wait_faults) where
  follows_here : (turns : ℕ) (later : Option (List ServerAddr)) (began : Option (List WorldCall)) (w : InWay turns later began t) → RunsSince longest_pause w.made 0 following t.known t.running began t.log
  follows_here turns later began w =
      runs_following longest_pause w.made 0 began t.log t.known t.running some_pending
      (subst (λ b. RunsSince longest_pause w.made 0 (reach_of b) t.known t.running began t.log) is_rested w.runs)

  abbrev Under : ℕ → List WorldCall → Type 0
  Under made cs = IsTurnOwner t.known → IsUnderWay longest_pause made 0 following t.known t.running cs

  both : (turns : ℕ) (later : Option (List ServerAddr)) (began : Option (List WorldCall)) (w : InWay turns later began t) → LogGets (λ cs. Under w.made cs × (IsTurnOwner t.known → NoWaitFailed cs)) began t.log
  both turns later began w = told_both (Under w.made) (λ cs. IsTurnOwner t.known → NoWaitFailed cs) began t.log (follows_here turns later began w) w.waits

  -- no second turn is made before servers are set
  first_left : (turns : ℕ) (later : Option (List ServerAddr)) (began : Option (List WorldCall)) (w : InWay turns later began t) (addresses : List ServerAddr) → AreLeft addresses later w.made t → w.made ≡ 0
  first_left turns later began w addresses left =
      let not_one : w.made ≢ 1 = λ one. absurd (let clash : true ≡ false = sym (left.behind one) ∙ is_rested in cc clash) in
      omega (arith, left.few, not_one)

  pub steps_turned : (answer : Turned) → Goes (MakesTurn answer) (run_of t.known t.running t.log) (run_of new after log) → after.reading ≡ answer.reading →
      StepsOn t (record t { known = new; running = after; left = left; behind_turn = true; log = log; wait_faults = faults })
  steps_turned answer goes reads =
      let to : Turning = record t { known = new; running = after; left = left; behind_turn = true; log = log; wait_faults = faults } in
      record {
        goes_on = goes.goes_on;
        own = turns_of_run (own_entries t.known.seat goes.goes_on.since) goes.made;
        stands = λ turns later began s.
            let w = way_in turns later began t under_way s in
            in_way turns later began to under_way (record {
              made = w.made + 1;
              counts = omega (arith, w.counts, taken);
              some = omega arith;
              runs = runs_turned longest_pause w.made 0 began t.log t.known new t.running after log answer goes reads (follows_here turns later began w);
              waits = told_trans (λ cs. Under w.made cs × (IsTurnOwner t.known → NoWaitFailed cs)) (λ cs. IsTurnOwner new → Leads (MakesTurn answer) (run_of t.known t.running t.log) (run_of new after log) goes.goes_on.since cs)
                  (λ cs. IsTurnOwner new → NoWaitFailed cs)
                  (λ cs ds was leads owner.
                  let before = owned t.known new goes.goes_on owner in
                  let way = was.0 before in
                  let end = standing_after (behind beginning way.course.first) way.course.rounds in
                  let to_ = leads owner end (record { fits = way.holds.fits; mixes = way.holds.mixes; told = way.holds.told }) in
                  failed_none cs (was.1 before) ds (turn_waits t.known.setting t.known.seat answer.reading end goes.goes_on.since ds to_.0 to_.1.turn))
                  began t.log log (both turns later began w) goes.told;
              sets = by turns later began w t.later w.sets;
            });
        waits = omega (arith, same_faults);
        wait_fault = λ other is. absurd (other is);
        ended = λ over. absurd (over under_way);
      }
    where
      to : Turning
      to = record t { known = new; running = after; left = left; behind_turn = true; log = log; wait_faults = faults }

      none : SetsNone t.known.seat goes.goes_on.since
      none = sets_none_turns t.known.seat goes.goes_on.since goes.made

      by : (turns : ℕ) (later : Option (List ServerAddr)) (began : Option (List WorldCall)) (w : InWay turns later began t) (left : Option (List ServerAddr)) → HasSet UnderWay left later w.made began t → HasSet UnderWay left later (w.made + 1) began to
      by turns later began w None done =
          done_on t to goes.goes_on none began later w.made (w.made + 1) (omega arith)
          (grown (λ cs. IsTurnOwner new → Leads (MakesTurn answer) (run_of t.known t.running t.log) (run_of new after log) goes.goes_on.since cs) t.log log goes.told) done
      by turns later began w (Some addresses) left =
          let first = first_left turns later began w addresses left in
          record { same = left.same; none = unset_on t to goes.goes_on none left.none; few = omega (arith, first); behind = λ one. refl }

  pub steps_cut : Stops IsCutShort (run_of t.known t.running t.log) (run_of new after log) → StepsOn t (record t { known = new; running = after; left = left; coming = OutOfMemory; log = log; wait_faults = faults })
  steps_cut stops = record {
    goes_on = stops.goes_on;
    own = turns_of_run (own_entries t.known.seat stops.goes_on.since) stops.made;
    stands = λ turns later began s.
        let w = way_in turns later began t under_way s in
        let unfailed : Told NoWaitFailed began to =
        told_trans (λ cs. Under w.made cs × (IsTurnOwner t.known → NoWaitFailed cs)) (λ cs. IsTurnOwner new → Leaves IsCutShort (run_of t.known t.running t.log) stops.goes_on.since cs)
        (λ cs. IsTurnOwner new → NoWaitFailed cs)
        (λ cs ds was leaves owner.
        let before = owned t.known new stops.goes_on owner in
        let way = was.0 before in
        let end = standing_after (behind beginning way.course.first) way.course.rounds in
        failed_none cs (was.1 before) ds
        (cut_short_waits t.known.setting t.known.seat end stops.goes_on.since ds (leaves owner end (record { fits = way.holds.fits; mixes = way.holds.mixes; told = way.holds.told }))))
        began t.log log (both turns later began w) stops.told in
        come_to turns later began to OutOfMemory refl (w.made + 1) (omega (arith, w.counts, taken))
        (runs_cut longest_pause w.made 0 began t.log t.known new t.running after log stops (follows_here turns later began w), unfailed)
        (by turns later began w unfailed t.later w.sets);
    waits = omega (arith, same_faults);
    wait_fault = λ other is. absurd (cc is);
    ended = λ over. absurd (over under_way);
  }
    where
      to : Turning
      to = record t { known = new; running = after; left = left; coming = OutOfMemory; log = log; wait_faults = faults }

      none : SetsNone t.known.seat stops.goes_on.since
      none = sets_none_turns t.known.seat stops.goes_on.since stops.made

      grew : LogGets (λ cs. ⊤) t.log log
      grew = grown (λ cs. IsTurnOwner new → Leaves IsCutShort (run_of t.known t.running t.log) stops.goes_on.since cs) t.log log stops.told

      by : (turns : ℕ) (later : Option (List ServerAddr)) (began : Option (List WorldCall)) (w : InWay turns later began t) → Told NoWaitFailed began to → (left : Option (List ServerAddr)) → HasSet UnderWay left later w.made began t →
          Told (SetsSoFar new.setting new.seat later (w.made + 1) new.seen) began to
      by turns later began w unfailed None done = so_far_done t to stops.goes_on none began later w.made (w.made + 1) (omega arith) grew done
      by turns later began w unfailed (Some addresses) left =
          so_far_left t to stops.goes_on none began later w.made (w.made + 1) (omega arith) grew addresses (omega (arith, first_left turns later began w addresses left)) (some_calls NoWaitFailed began to unfailed) left

-- no turn is left
pub steps_stalled : (t : Turning) → t.coming ≡ UnderWay → t.behind_turn ≡ false → pending_of t.known ≢ [] → t.left ≡ 0 → StepsOn t (record t { coming = Stalled })
steps_stalled t under_way is_rested some_pending none = record {
  goes_on = goes_of t.known t.known [] (trail_none t.known);
  own = refl;
  stands = λ turns later began s.
      let w = way_in turns later began t under_way s in
      come_to turns later began (record t { coming = Stalled }) Stalled refl w.made w.counts
      (none, some_pending, subst (λ b. RunsSince longest_pause w.made 0 (reach_of b) t.known t.running began t.log) is_rested w.runs, w.waits)
      (by later began w.made t.later w.sets);
  waits = omega arith;
  wait_fault = λ other is. absurd (cc is);
  ended = λ over. absurd (over under_way);
}
  where
    by : (later : Option (List ServerAddr)) (began : Option (List WorldCall)) (made : ℕ) (left : Option (List ServerAddr)) → HasSet UnderWay left later made began t → HasSet Stalled left later made began (record t { coming = Stalled })
    by later began made None done = done
    by later began made (Some addresses) left = (record { same = left.same; none = left.none; few = left.few; behind = left.behind }, is_rested)

-- ---- servers that are set

-- a call added what it added to the desk's own
own_called : (meaning : Meaning) (by : ℕ) (old new : Known) (call : Calls meaning by old new) →
    own_entries old.seat (call.stands.others ++ entries_of old.seat by call.added) ≡ entries_of old.seat by call.added
own_called meaning by old new call =
    own-append old.seat call.stands.others (entries_of old.seat by call.added)
    ∙ ap₂ (λ xs ys. xs ++ ys) (own-others old.seat call.stands.others call.stands.by_others) (own_added old.seat by call.added)

module _ (t : Turning) (new : Known) (addresses : List ServerAddr) (under_way : t.coming ≡ UnderWay) (behind_turn : t.behind_turn ≡ true) (are_left : t.later ≡ Some addresses) where
  -- what a call that sets servers did, whatever it answered
  module _ (meaning : Meaning) (call : Calls meaning 0 t.known new) where
    abbrev goes : GoesOn t.known new
    goes = goes_of t.known new (call.stands.others ++ entries_of t.known.seat 0 call.added) (trail_call meaning 0 t.known new call)

    abbrev set_at : Coming → Turning
    set_at coming = record t { known = new; later = None; coming = coming }

    left_here : (turns : ℕ) (later : Option (List ServerAddr)) (began : Option (List WorldCall)) (w : InWay turns later began t) → AreLeft addresses later w.made t
    left_here turns later began w = subst (λ left. HasSet UnderWay left later w.made began t) are_left w.sets

    one_made : (turns : ℕ) (later : Option (List ServerAddr)) (began : Option (List WorldCall)) (w : InWay turns later began t) → w.made ≡ 1
    one_made turns later began w =
        let some : 1 ≤ w.made = subst (λ b. IsSome b w.made) behind_turn w.some in
        omega (arith, some, (left_here turns later began w).few)

    runs_here : (turns : ℕ) (later : Option (List ServerAddr)) (began : Option (List WorldCall)) (w : InWay turns later began t) → has_no_turn (entries_of t.known.seat 0 call.added) ≡ true →
        RunsSince longest_pause w.made 0 turned new t.running began t.log
    runs_here turns later began w none =
        runs_behind longest_pause w.made 0 began t.log turned t.known new t.running goes (ap has_no_turn (own_called meaning 0 t.known new call) ∙ none) (inr (inl refl))
        (subst (λ b. RunsSince longest_pause w.made 0 (reach_of b) t.known t.running began t.log) behind_turn w.runs)

    unfailed_here : (turns : ℕ) (later : Option (List ServerAddr)) (began : Option (List WorldCall)) (w : InWay turns later began t) (coming : Coming) → Told NoWaitFailed began (set_at coming)
    unfailed_here turns later began w coming = told_still began t (set_at coming) goes NoWaitFailed NoWaitFailed (λ cs h. h) refl w.waits

    -- the call took effect behind the first turn
    behind_first : (cs : List WorldCall) → IsUnderWay longest_pause 1 0 turned t.known t.running cs → IsBehindFirst t.known.setting t.known.seat call.here cs
    behind_first cs way = record {
      first = t.known.seen;
      others = call.stands.others;
      parts = call.stands.parts;
      by_others = own-others t.known.seat call.stands.others call.stands.by_others;
      turn = record { calls_earlier = cs; calls_behind = []; calls_are = sym (append-nil cs); course = way.course };
    }

    unset_here : SetsNone t.known.seat t.known.seen → SetsNone t.known.seat call.here
    unset_here none =
        subst (SetsNone t.known.seat) (sym call.stands.parts)
        (sets_none_both t.known.seat t.known.seen call.stands.others none (sets_none_own t.known.seat call.stands.others (own-others t.known.seat call.stands.others call.stands.by_others)))

    -- so servers were set behind the first turn, or the channel was destroyed there
    steps_set_by : has_no_turn (entries_of t.known.seat 0 call.added) ≡ true → list_all is_of_run (entries_of t.known.seat 0 call.added) ≡ true →
        ((cs : List WorldCall) → IsBehindFirst t.known.setting t.known.seat call.here cs → SetsNone t.known.seat call.here → AreSet t.known.setting t.known.seat addresses new.seen cs ⊎ AreNotSet t.known.setting t.known.seat new.seen cs) →
        StepsOn t (set_at t.coming)
    steps_set_by no_turn of_run sets = record {
      goes_on = goes;
      own = ap (list_all is_of_run) (own_called meaning 0 t.known new call) ∙ of_run;
      stands = λ turns later began s.
          let w = way_in turns later began t under_way s in
          let left = left_here turns later began w in
          let one = one_made turns later began w in
          in_way turns later began (set_at t.coming) under_way (record {
            made = w.made;
            counts = w.counts;
            some = w.some;
            runs = subst (λ b. RunsSince longest_pause w.made 0 (reach_of b) new t.running began t.log) (sym behind_turn) (runs_here turns later began w no_turn);
            waits = unfailed_here turns later began w t.coming;
            sets = (
              λ none. absurd (omega (arith, none, one)),
              told_as (λ cs. IsTurnOwner t.known → IsUnderWay longest_pause w.made 0 (reach_of t.behind_turn) t.known t.running cs)
                  (λ cs. IsTurnOwner new → SetsBehindFirst new.setting new.seat later w.made new.seen cs)
                  (λ cs way owner.
                  let way_one : IsUnderWay longest_pause 1 0 turned t.known t.running cs =
                  subst (λ b. IsUnderWay longest_pause 1 0 (reach_of b) t.known t.running cs) behind_turn
                  (subst (λ m. IsUnderWay longest_pause m 0 (reach_of t.behind_turn) t.known t.running cs) one (way (owned t.known new goes owner))) in
                  subst (λ s. SetsBehindFirst s new.seat later w.made new.seen cs) (sym goes.desk.setting)
                  (subst (λ seat. SetsBehindFirst t.known.setting seat later w.made new.seen cs) (sym goes.desk.seat)
                  (subst (λ l. SetsBehindFirst t.known.setting t.known.seat l w.made new.seen cs) (sym left.same)
                  (inr (sets cs (behind_first cs way_one) (unset_here left.none))))))
                  began t.log w.runs,
            );
          });
      waits = omega arith;
      wait_fault = λ other is. absurd (other is);
      ended = λ over. absurd (over under_way);
    }

  pub steps_set : (count : ℕ) → Calls (SetsServers addresses (Ok count)) 0 t.known new → StepsOn t (record t { known = new; later = None })
  steps_set count call =
      let entry : entries_of t.known.seat 0 call.added ≡ setting_entry t.known.setting t.known.seat addresses call.here ∷ [] = ap (entries_of t.known.seat 0) call.meant.0 in
      steps_set_by (SetsServers addresses (Ok count)) call (ap has_no_turn entry) (ap (list_all is_of_run) entry)
      (λ cs place none. inl (record {
        earlier = call.here;
        behind = [];
        parts = call.seen ∙ ap (λ es. call.here ++ es) entry;
        place = place;
        none_earlier = none;
        none_behind = refl;
      }))

  pub steps_closed : (fault : SetFault) → fault ≡ Closed → Calls (SetsServers addresses (Err fault)) 0 t.known new → StepsOn t (record t { known = new; later = None })
  steps_closed fault is call =
      let nothing : entries_of t.known.seat 0 call.added ≡ [] = ap (entries_of t.known.seat 0) call.meant.0 in
      let seen : new.seen ≡ call.here = call.seen ∙ ap (λ es. call.here ++ es) nothing ∙ append-nil call.here in
      steps_set_by (SetsServers addresses (Err fault)) call (ap has_no_turn nothing) (ap (list_all is_of_run) nothing)
      (λ cs place none. inr (record {
        earlier = call.here;
        behind = [];
        parts = seen ∙ sym (append-nil call.here);
        place = place;
        destroyed = call.meant.1.0 is;
        none = subst (SetsNone t.known.seat) (sym seen) none;
      }))

  -- memory was wanting
  pub steps_unset : (fault : SetFault) → Calls (SetsServers addresses (Err fault)) 0 t.known new → StepsOn t (record t { known = new; later = None; coming = OutOfMemory })
  steps_unset fault call =
      let meaning : Meaning = SetsServers addresses (Err fault) in
      let nothing : entries_of t.known.seat 0 call.added ≡ [] = ap (entries_of t.known.seat 0) call.meant.0 in
      let seen : new.seen ≡ call.here = call.seen ∙ ap (λ es. call.here ++ es) nothing ∙ append-nil call.here in
      let to : Turning = record t { known = new; later = None; coming = OutOfMemory } in
      record {
        goes_on = goes meaning call;
        own = ap (list_all is_of_run) (own_called meaning 0 t.known new call ∙ nothing);
        stands = λ turns later began s.
            let w = way_in turns later began t under_way s in
            let left = left_here meaning call turns later began w in
            let unfailed = unfailed_here meaning call turns later began w OutOfMemory in
            come_to turns later began to OutOfMemory refl w.made w.counts
            (ran_so_far longest_pause w.made 0 began t.log turned new t.running (runs_here meaning call turns later began w (ap has_no_turn nothing)), unfailed)
            (told_as (λ cs. IsTurnOwner new → NoWaitFailed cs) (λ cs. IsTurnOwner new → SetsSoFar new.setting new.seat later w.made new.seen cs)
            (λ cs was owner. inr (
              left.few,
              subst (λ seat. SetsNone seat new.seen) (sym call.desk.seat) (subst (SetsNone t.known.seat) (sym seen) (unset_here meaning call left.none)),
            )) began t.log unfailed);
        waits = omega arith;
        wait_fault = λ other is. absurd (cc is);
        ended = λ over. absurd (over under_way);
      }

-- ---- as the code has it

-- no servers were left to be set
pub later_none : (t : Turning) (now : Option (List ServerAddr)) → now ≡ None → t.later ≡ None → StepsOn t (record t { later = now })
later_none t now none was = steps_same t (record t { later = now }) (ap (λ l. record t { later = l }) (none ∙ sym was))

-- a pause in which no wait failed, by its answer
skipped_not : (answer : Paused) → answer ≡ Skipped → answer ≢ HasFaulted
skipped_not answer is failed = let clash : Skipped ≡ HasFaulted = sym is ∙ failed in absurd (cc clash)

woken_not : (answer : Paused) → answer ≡ Woken → answer ≢ HasFaulted
woken_not answer is failed = let clash : Woken ≡ HasFaulted = sym is ∙ failed in absurd (cc clash)

module _ (t : Turning) (new : Known) (after : Running) (log : Option (List WorldCall)) (faults : ℕ) (under_way : t.coming ≡ UnderWay) (behind_turn : t.behind_turn ≡ true) (none_left : t.later ≡ None)
    (none_ready : ready_of t.known ≡ []) (waits : t.wait_faults ≤ faults) (answer : Paused) (pauses : PausesBy (min (t.running.reading + longest_pause) (2 ^ 64 - 1)) answer t.known new t.log log) (broken : Bool) (kept : after ≡ record t.running { broken = broken }) where
  pub steps_skipped : answer ≡ Skipped → StepsOn t (record t { known = new; running = after; behind_turn = false; log = log; wait_faults = faults })
  steps_skipped is = steps_rested t new after log faults under_way behind_turn none_left none_ready waits answer pauses broken kept (skipped_not answer is)

  pub steps_woken : answer ≡ Woken → StepsOn t (record t { known = new; running = after; behind_turn = false; log = log; wait_faults = faults })
  steps_woken is = steps_rested t new after log faults under_way behind_turn none_left none_ready waits answer pauses broken kept (woken_not answer is)

  pub steps_faulted : answer ≡ HasFaulted → Rose t.wait_faults faults → StepsOn t (record t { known = new; running = after; behind_turn = false; coming = WaitFault; log = log; wait_faults = faults })
  steps_faulted is rose =
      steps_failed t new after log faults under_way behind_turn none_left none_ready waits
      (subst (λ a. PausesBy (min (t.running.reading + longest_pause) (2 ^ 64 - 1)) a t.known new t.log log) is pauses) broken kept rose

-- servers that are set, where these are what is lent
module _ (t : Turning) (new : Known) (asked addresses : List ServerAddr) (now : Option (List ServerAddr)) (under_way : t.coming ≡ UnderWay) (behind_turn : t.behind_turn ≡ true) (are_left : t.later ≡ Some addresses)
    (same : asked ≡ addresses) (none : now ≡ None) where
  pub set_now : (count : ℕ) → Calls (SetsServers asked (Ok count)) 0 t.known new → StepsOn t (record t { known = new; later = now })
  set_now count call =
      subst (λ l. StepsOn t (record t { known = new; later = l })) (sym none)
      (steps_set t new addresses under_way behind_turn are_left count (subst (λ l. Calls (SetsServers l (Ok count)) 0 t.known new) same call))

  pub closed_now : (fault : SetFault) → fault ≡ Closed → Calls (SetsServers asked (Err fault)) 0 t.known new → StepsOn t (record t { known = new; later = now })
  closed_now fault is call =
      subst (λ l. StepsOn t (record t { known = new; later = l })) (sym none)
      (steps_closed t new addresses under_way behind_turn are_left fault is (subst (λ l. Calls (SetsServers l (Err fault)) 0 t.known new) same call))

  pub unset_now : (fault : SetFault) → Calls (SetsServers asked (Err fault)) 0 t.known new → StepsOn t (record t { known = new; later = now; coming = OutOfMemory })
  unset_now fault call =
      subst (λ l. StepsOn t (record t { known = new; later = l; coming = OutOfMemory })) (sym none)
      (steps_unset t new addresses under_way behind_turn are_left fault (subst (λ l. Calls (SetsServers l (Err fault)) 0 t.known new) same call))
