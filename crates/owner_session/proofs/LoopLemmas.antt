-- Turns of a session with what stands between them, one behind the other, and how they come to their end.
use Rattle.std.proofs.Common.{◌≡◌, ◌≢◌, ◌∙◌, ℕ, ◌+◌, ◌-◌, ◌≤◌, List, [], Bool, true, false, refl, ap, sym, subst, inl, inr, ⊎_elim, arith}
use Rattle.std.specs.Prelude.{Err, Ok, None, Option, Some, Result, is_err, min, ◌^◌, ◌⊎◌, ⊤}
use Rattle.std.proofs.lemmas.Bool.{and_from}
use Rattle.std.proofs.lemmas.List.Folds.{list_all-append}
use Rattle.std.specs.List.{list_all}
use Rattle.item_list.specs.declared.no_memory.NoMemory.{NoMemory}
use Rattle.net_addr.specs.declared.addr.ServerAddr.{ServerAddr}
use Rattle.net_world.specs.declared.answers.Waited.TheVariants.{Failed as NotWaited}
use Rattle.net_world.specs.declared.log.WorldCall.{WorldCall}
use Rattle.channel_model.proofs.Theorems.{so_far_reads}
use Rattle.channel_model.specs.Completion.{pending, ready}
use Rattle.channel_model.specs.Course.{has_no_turn}
use Rattle.channel_model.specs.Endings.{IsStalledBehind}
use Rattle.channel_model.specs.Journal.{followed_by, past_of}
use Rattle.channel_progress.specs.Prompted.{unprompted_in}
use Rattle.channel_progress.specs.Waking.{NoWaitFailed}
use Rattle.channel_table.specs.Calling.{Owned, known_by_owner}
use Rattle.event_runner.proofs.Theorems.{RunsWith, WayWith, ran_so_far, runs_cut, runs_paused, told_as, told_both, told_by, with_any, with_begun, with_behind, with_delivered, with_following, with_paused, with_stalls, with_turned}
use Rattle.event_runner.specs.declared.answers.Paused.{Paused}
use Rattle.event_runner.specs.declared.answers.Paused.TheVariants.{Skipped, WaitFault, Woken}
use Rattle.event_runner.specs.declared.answers.Turned.{Turned}
use Rattle.event_runner.specs.Goes.{Goes, Stops}
use Rattle.event_runner.specs.Running.{HasLooked, HasWaited, PausesBy, Running, run_of}
use Rattle.event_runner.specs.State.{IsTurnOwner}
use Rattle.event_runner.specs.Turning.{IsCutShort, MakesTurn}
use Rattle.event_runner.specs.UnderWay.{IsSoFar, IsUnderWay, RanSince, Reach, RunsSince, delivered, following, rested, turned}
use Rattle.net_world.specs.Logs.{LogGets}
use Rattle.owner_session.specs.Kinds.{has_servers, is_of_session}
use Rattle.owner_session.specs.Session.{CountsPending, FallsIntoTurns, MakesTurns, SetsAtMost, SetsBehindFirst, SetsLater, ShowsEnd}
use Rattle.owner_laws.specs.Sessions.{EndsWithFailedWait, longest_slice}
use Rattle.owner_session.specs.declared.caller.Caller.{Caller}
use Rattle.run_end.specs.declared.loop_end.LoopEnd.{LoopEnd}
use Rattle.run_end.specs.declared.loop_end.LoopEnd.TheVariants.{Completed, Stalled, WaitFault as WaitFailed}
use Rattle.owner_laws.proofs.Begun.{IsAsked}
use Rattle.owner_laws.proofs.Well.{AreBegun, EndsWell, IsBegunSoFar, RunsWell, first_turned, well_begun, well_behind, well_cut, well_failed, well_paused, well_so_far, well_turned}
use Rattle.owner_laws.proofs.ListLemmas.{none_counted, some_counted}
use Rattle.owner_session.proofs.MoveLemmas.{Moves, moves_go_on, moves_kept, moves_none, moves_trans, moves_turn, own_all, session_seats, turn_unset}
use Rattle.owner_laws.proofs.Owner.{looked_same, paused_same, waited_pending}
use Rattle.owner_session.proofs.PromptLemmas.{IsPrompted, MovesBetween, none_unprompted, prompted_none, prompted_trans}
use Rattle.owner_session.proofs.ThenLemmas.{Grows, SetsShort, Then, grows_none, sets_short, then_more, then_set}
use Rattle.run_end.specs.Left.{LeavesPending}

-- so many turns were made, none behind a failed wait and none first where nothing was pending, and what completed was delivered, so that requests were accepted between them because others had completed; behind the last turn the run has come so far
pub record Made {B : Type 0} (reach : Reach) (turns : ℕ) (old new : Caller B) (before after : Running) (log_old log_new : Option (List WorldCall)) : Type 0 where
  pub moves : Moves old new
  pub told : (log : Option (List WorldCall)) → RunsSince longest_slice 0 0 rested (known_by_owner old.alone) before log log_old →
      RunsWith (IsPrompted old.alone.setting) longest_slice turns 0 reach (known_by_owner new.alone) after log log_new
  pub well : (log : Option (List WorldCall)) → RunsSince longest_slice 0 0 rested (known_by_owner old.alone) before log log_old → RunsWell turns new.alone log log_new

-- what was counted is pending, and nothing is ready
pub asked_here : (count : ℕ) (b c : Owned) → CountsPending count b c → count ≢ 0 → ready b.setting (past_of b.seen) ≡ [] → IsAsked c
asked_here count b c counts some none = subst IsAsked (sym counts.same) (some_counted count (pending b.setting (past_of b.seen)) counts.count_is some, none)

-- turns that want of memory may have cut short: behind so many whole ones, or in one more
module _ (later : Option (List ServerAddr)) (most turns whole : ℕ) (fault : NoMemory) (c : Owned) where
  abbrev Ended : List WorldCall → Type 0
  Ended calls = (IsTurnOwner (known_by_owner c) → IsSoFar longest_slice turns 0 (known_by_owner c) calls) × (IsTurnOwner (known_by_owner c) → NoWaitFailed calls × IsBegunSoFar c calls)

  falls : turns ≤ most → turns ≤ whole + 1 → (calls : List WorldCall) → Ended calls × SetsShort later whole c calls → IsTurnOwner (known_by_owner c) → FallsIntoTurns later most (Err fault) c calls
  falls few few_whole calls short owner =
      let far = short.0.0 owner in
      let ended = short.0.1 owner in
      let reads = so_far_reads c.setting 0 longest_slice c.seen calls far.0 0 far.2 in (
        far.0,
        omega (arith, few, far.1),
        far.2,
        short.1 owner far.0 (omega (arith, few_whole, far.1)),
        λ some. ended.1 (omega (arith, some, reads)),
        ended.0,
      )

  pub falls_short : (l m : Option (List WorldCall)) → turns ≤ most → turns ≤ whole + 1 → RanSince longest_slice turns 0 (known_by_owner c) l m → EndsWell c l m → LogGets (SetsShort later whole c) l m →
      LogGets (λ calls. IsTurnOwner (known_by_owner c) → FallsIntoTurns later most (Err fault) c calls) l m
  falls_short l m few few_whole ran well sets =
      told_as (λ calls. Ended calls × SetsShort later whole c calls) (λ calls. IsTurnOwner (known_by_owner c) → FallsIntoTurns later most (Err fault) c calls) (falls few few_whole) l m
      (told_both Ended (SetsShort later whole c) l m
      (told_both (λ calls. IsTurnOwner (known_by_owner c) → IsSoFar longest_slice turns 0 (known_by_owner c) calls) (λ calls. IsTurnOwner (known_by_owner c) → NoWaitFailed calls × IsBegunSoFar c calls) l m ran well) sets)

-- no turn was made yet
pub made_none : {B : Type 0} (a : Caller B) (r : Running) (l : Option (List WorldCall)) → Made rested 0 a a r r l l
made_none a r l = record {
  moves = moves_none a;
  told = λ log since. with_begun (IsPrompted a.alone.setting) longest_slice 0 rested (known_by_owner a.alone) r log l since;
  well = λ log since. well_begun a.alone r log l since;
}

module _ {B : Type 0} (turns : ℕ) (a : Caller B) (before : Running) (l : Option (List WorldCall)) where
  -- a part without an entry of a turn
  pub made_then : (reach : Reach) (b c : Caller B) (r : Running) (m : Option (List WorldCall)) → (turns ≡ 0) ⊎ (reach ≡ turned) → MovesBetween b c → Made reach turns a b before r l m → Made reach turns a c before r l m
  made_then reach b c r m may p x = record {
    moves = moves_trans a b c x.moves p.0;
    told = λ log since.
        with_behind (IsPrompted a.alone.setting) longest_slice turns 0 log m reach (known_by_owner b.alone) (known_by_owner c.alone) r (moves_go_on b c p.0)
        (ap has_no_turn (own_all p.0.since (session_seats p.0.since p.0.of_session)) ∙ p.1) (⊎_elim (λ none. inl none) (λ just. inr (inl just)) may)
        (λ past between is before. prompted_trans a.alone.setting past between p.0.since before
        (subst (λ s. IsPrompted s (followed_by past between) p.0.since) x.moves.setting (subst (λ q. IsPrompted b.alone.setting q p.0.since) (sym is) p.2)))
        (x.told log since);
    well = λ log since. well_behind turns b.alone log m (x.well log since) c.alone p.0.since p.0.setting p.0.seen;
  }

  module _ (b : Caller B) (r : Running) (m : Option (List WorldCall)) where
    -- nothing is ready any more
    pub made_delivered : ready b.alone.setting (past_of b.alone.seen) ≡ [] → Made turned turns a b before r l m → Made delivered turns a b before r l m
    made_delivered none x = record {
      moves = x.moves;
      told = λ log since. with_delivered (IsPrompted a.alone.setting) longest_slice turns 0 log m (known_by_owner b.alone) r none (x.told log since);
      well = x.well;
    }

    -- a request is pending
    pub made_following : (count : ℕ) (c : Owned) → CountsPending count b.alone c → count ≢ 0 → Made rested turns a b before r l m → Made following turns a (record b { alone = c }) before r l m
    made_following count c counts some x =
        subst (λ o. Made following turns a (record b { alone = o }) before r l m) (sym counts.same) (record {
          moves = x.moves;
          told = λ log since.
              with_following (IsPrompted a.alone.setting) longest_slice turns 0 log m (known_by_owner b.alone) r (some_counted count (pending b.alone.setting (past_of b.alone.seen)) counts.count_is some) (x.told log since);
          well = x.well;
        })

    -- one turn more, where a request is pending
    pub made_turned : (c : Owned) (s : Running) (n : Option (List WorldCall)) (answer : Turned) → (goes : Goes (MakesTurn answer) (run_of (known_by_owner b.alone) r m) (run_of (known_by_owner c) s n)) → s.reading ≡ answer.reading → IsAsked b.alone →
        Made following turns a b before r l m → Made turned (turns + 1) a (record b { alone = c }) before s l n
    made_turned c s n answer goes read asked x = record {
      moves = moves_trans a b (record b { alone = c }) x.moves (moves_turn b c goes.goes_on goes.made);
      told = λ log since.
          with_turned (IsPrompted a.alone.setting) longest_slice turns 0 log m (prompted_none a.alone.setting) (known_by_owner b.alone) (known_by_owner c) r s n answer goes read (x.told log since);
      well = λ log since.
          well_turned turns b.alone log m (x.well log since) c r s n (with_any (IsPrompted a.alone.setting) longest_slice turns 0 log m following (known_by_owner b.alone) r (x.told log since)) answer goes asked;
    }

    -- a pause, in which no wait failed
    pub made_paused : (c : Owned) (s : Running) (broken : Bool) (n : Option (List WorldCall)) (answer : Paused) → 1 ≤ turns → answer ≢ WaitFault →
        PausesBy (min (r.reading + longest_slice) (2 ^ 64 - 1)) answer (known_by_owner b.alone) (known_by_owner c) m n → s ≡ record r { broken = broken } →
        Made delivered turns a b before r l m → Made rested turns a (record b { alone = c }) before s l n
    made_paused c s broken n answer some other pauses is x = record {
      moves = subst (λ o. Moves a (record b { alone = o })) (sym (paused_same _ answer b.alone c m n pauses)) x.moves;
      told = λ log since.
          let latest : ℕ = min (r.reading + longest_slice) (2 ^ 64 - 1) in
          let same : c ≡ b.alone = paused_same latest answer b.alone c m n pauses in
          subst (λ o. RunsWith (IsPrompted a.alone.setting) longest_slice turns 0 rested (known_by_owner o) s log n) (sym same)
          (with_paused (IsPrompted a.alone.setting) longest_slice turns 0 log m (known_by_owner b.alone) r s broken n answer some
          (subst (λ o. PausesBy latest answer (known_by_owner b.alone) (known_by_owner o) m n) same pauses) is (x.told log since));
      well = λ log since. well_paused turns b.alone log m (x.well log since) c n _ answer other pauses;
    }

    -- it is a run
    pub made_runs : (reach : Reach) → Made reach turns a b before r l m → (log : Option (List WorldCall)) → RunsSince longest_slice 0 0 rested (known_by_owner a.alone) before log l →
        RunsSince longest_slice turns 0 reach (known_by_owner b.alone) r log m
    made_runs reach x log since = with_any (IsPrompted a.alone.setting) longest_slice turns 0 log m reach (known_by_owner b.alone) r (x.told log since)

-- ---- logs that go on, and the servers that are set

-- a part of a turn
pub grows_told : (kind : List WorldCall → Type 0) (old new : Option (List WorldCall)) → LogGets kind old new → Grows old new
grows_told kind old new gets = told_as kind (λ calls. ⊤) (λ calls any. tt) old new gets

-- a pause
pub grows_paused : (latest : ℕ) (answer : Paused) (x y : Owned) (m n : Option (List WorldCall)) → PausesBy latest answer (known_by_owner x) (known_by_owner y) m n → Grows m n
grows_paused latest Skipped x y m n pauses = subst (Grows m) (sym pauses.no_call) (grows_none m)
grows_paused latest Woken x y m n pauses = told_by (λ calls. ⊤) _ tt m n pauses.waits
grows_paused latest WaitFault x y m n pauses = told_by (λ calls. ⊤) _ tt m n pauses.waits

module _ {B : Type 0} (later left : Option (List ServerAddr)) (turns : ℕ) (a b : Caller B) (before : Running) (l m : Option (List WorldCall)) where
  -- a count left them as they were
  pub then_counted : (count : ℕ) (c : Owned) → CountsPending count b.alone c → Then later left turns a b before l m → Then later left turns a (record b { alone = c }) before l m
  then_counted count c counts t = subst (λ o. Then later left turns a (record b { alone = o }) before l m) (sym counts.same) t

  -- and so did a pause
  pub then_paused : (latest : ℕ) (answer : Paused) (c : Owned) (n : Option (List WorldCall)) → PausesBy latest answer (known_by_owner b.alone) (known_by_owner c) m n → Then later left turns a b before l m →
      Then later left turns a (record b { alone = c }) before l n
  then_paused latest answer c n pauses t =
      subst (λ o. Then later left turns a (record b { alone = o }) before l n) (sym (paused_same latest answer b.alone c m n pauses))
      (then_more later a before l left turns b b m n (moves_none b) refl (grows_paused latest answer b.alone c m n pauses) t)

  -- a turn that was cut short sets none
  pub then_cut : (c : Owned) (r u : Running) (n : Option (List WorldCall)) → (stops : Stops IsCutShort (run_of (known_by_owner b.alone) r m) (run_of (known_by_owner c) u n)) → Then later left turns a b before l m →
      Then later left turns a (record b { alone = c }) before l n
  then_cut c r u n stops t = then_more later a before l left turns b (record b { alone = c }) m n (moves_turn b c stops.goes_on stops.made) (turn_unset b c stops.goes_on stops.made) (grows_told _ m n stops.told) t

  -- nor does a whole one
  pub then_whole : (c : Owned) (r u : Running) (n : Option (List WorldCall)) (answer : Turned) → (goes : Goes (MakesTurn answer) (run_of (known_by_owner b.alone) r m) (run_of (known_by_owner c) u n)) → Then later left turns a b before l m →
      Then later left turns a (record b { alone = c }) before l n
  then_whole c r u n answer goes t = then_more later a before l left turns b (record b { alone = c }) m n (moves_turn b c goes.goes_on goes.made) (turn_unset b c goes.goes_on goes.made) (grows_told _ m n goes.told) t

  -- behind one those were set that were left
  pub then_turned : (c d : Owned) (r u : Running) (n : Option (List WorldCall)) (answer : Turned) (done : Unit {0}) → (goes : Goes (MakesTurn answer) (run_of (known_by_owner b.alone) r m) (run_of (known_by_owner c) u n)) →
      IsAsked b.alone → Made following turns a b before r l m → SetsLater left (Ok done) c d → Then later left turns a b before l m → Then later None (turns + 1) a (record b { alone = d }) before l n
  then_turned c d r u n answer done goes asked x set t =
      then_set later a before l left turns b (record b { alone = c }) m n (moves_turn b c goes.goes_on goes.made) (turn_unset b c goes.goes_on goes.made) (grows_told _ m n goes.told) t
      (λ first log since. first_turned turns b.alone log m (x.well log since) c r u n (made_runs turns a before l b r m following x log since) answer goes asked first) d done set

-- ---- how the turns come to their end

-- what was done, whatever the end
module _ {B : Type 0} (later : Option (List ServerAddr)) (most : ℕ) (result : Result LoopEnd NoMemory) (a b : Caller B) (before : Running) (l m : Option (List WorldCall)) where
  ends_by : Moves a b → LeavesPending b.alone.setting result (past_of b.alone.seen) → (has_servers a.alone.seen ≡ false → SetsAtMost b.alone.setting later b.alone.seen) →
      ((log : Option (List WorldCall)) → RunsSince longest_slice 0 0 rested (known_by_owner a.alone) before log l → has_servers a.alone.seen ≡ false →
      LogGets (λ calls. IsTurnOwner (known_by_owner b.alone) → FallsIntoTurns later most result b.alone calls) log m) → MakesTurns later most result a b before l m
  ends_by moves left sets told = record {
    setting = moves.setting;
    hand = moves.hand;
    kept = moves_kept a b moves;
    unclosed = λ was. ap (list_all is_of_session) moves.seen ∙ list_all-append is_of_session a.alone.seen moves.since
        ∙ and_from (list_all is_of_session a.alone.seen) (list_all is_of_session moves.since) was moves.of_session;
    since = moves.since;
    seen = moves.seen;
    asked_none = moves.asked_none;
    left = left;
    sets = sets;
    told = told;
  }

module _ {B : Type 0} (later left : Option (List ServerAddr)) (most turns : ℕ) (a b : Caller B) (before r : Running) (l m : Option (List WorldCall)) where
  -- the turns were made, and this shows how they ended
  ends_ok : (end : LoopEnd) → turns ≤ most → Made rested turns a b before r l m → Then later left turns a b before l m → LeavesPending b.alone.setting (Ok end) (past_of b.alone.seen) →
      ((calls : List WorldCall) → WayWith longest_slice turns 0 (IsPrompted a.alone.setting) rested (known_by_owner b.alone) r calls → NoWaitFailed calls → ShowsEnd most end b.alone turns calls) → MakesTurns later most (Ok end) a b before l m
  ends_ok end few x t left_is shows = ends_by later most (Ok end) a b before l m x.moves left_is t.sets.at_most (λ log since unset.
      told_as
      (λ calls. ((IsTurnOwner (known_by_owner b.alone) → WayWith longest_slice turns 0 (IsPrompted a.alone.setting) rested (known_by_owner b.alone) r calls)
      × (IsTurnOwner (known_by_owner b.alone) → SetsBehindFirst b.alone.setting later turns b.alone.seen calls)) × (IsTurnOwner (known_by_owner b.alone) → NoWaitFailed calls × AreBegun turns b.alone calls))
      (λ calls. IsTurnOwner (known_by_owner b.alone) → FallsIntoTurns later most (Ok end) b.alone calls)
      (λ calls all owner. let way = all.0.0 owner in let well = all.1 owner in (turns, few, way.0.course, all.0.1 owner, well.1, shows calls way well.0)) log m
      (told_both
      (λ calls. (IsTurnOwner (known_by_owner b.alone) → WayWith longest_slice turns 0 (IsPrompted a.alone.setting) rested (known_by_owner b.alone) r calls)
      × (IsTurnOwner (known_by_owner b.alone) → SetsBehindFirst b.alone.setting later turns b.alone.seen calls))
      (λ calls. IsTurnOwner (known_by_owner b.alone) → NoWaitFailed calls × AreBegun turns b.alone calls) log m
      (told_both (λ calls. IsTurnOwner (known_by_owner b.alone) → WayWith longest_slice turns 0 (IsPrompted a.alone.setting) rested (known_by_owner b.alone) r calls)
      (λ calls. IsTurnOwner (known_by_owner b.alone) → SetsBehindFirst b.alone.setting later turns b.alone.seen calls) log m (x.told log since) (t.sets.told log since unset))
      (x.well log since)))

  -- nothing is pending
  pub ends_completed : (count : ℕ) (c : Owned) → turns ≤ most → ready b.alone.setting (past_of b.alone.seen) ≡ [] → CountsPending count b.alone c → count ≡ 0 → Made rested turns a b before r l m → Then later left turns a b before l m →
      MakesTurns later most (Ok Completed) a (record b { alone = c }) before l m
  ends_completed count c few none counts nothing x t =
      subst (λ o. MakesTurns later most (Ok Completed) a (record b { alone = o }) before l m) (sym counts.same)
      (ends_ok Completed few x t (none, none_counted count (pending b.alone.setting (past_of b.alone.seen)) counts.count_is nothing) (λ calls way woken. woken))

  -- all turns were made, and a request is pending
  pub ends_stalled : (count : ℕ) (c : Owned) → turns ≡ most → ready b.alone.setting (past_of b.alone.seen) ≡ [] → CountsPending count b.alone c → count ≢ 0 → Made rested turns a b before r l m → Then later left turns a b before l m →
      MakesTurns later most (Ok Stalled) a (record b { alone = c }) before l m
  ends_stalled count c all none counts counted x t =
      let some = some_counted count (pending b.alone.setting (past_of b.alone.seen)) counts.count_is counted in
      subst (λ o. MakesTurns later most (Ok Stalled) a (record b { alone = o }) before l m) (sym counts.same)
      (ends_ok Stalled (omega (arith, all)) x t (none, some)
      (λ calls way woken.
      let stalls = with_stalls (IsPrompted a.alone.setting) longest_slice turns rested (known_by_owner b.alone) r calls some way in
      let shown = subst (λ n. (stalled : IsStalledBehind b.alone.setting 0 longest_slice n b.alone.seen calls) × (unprompted_in b.alone.setting stalled.course.rounds ≡ 0)) all
      (stalls.0, subst (λ s. unprompted_in s stalls.0.course.rounds ≡ 0) (sym x.moves.setting) (none_unprompted a.alone.setting stalls.0.course.rounds stalls.1)) in
      (all, shown.0, shown.1, woken)))

  -- a wait failed
  pub ends_failed : (c : Owned) (s : Running) (broken : Bool) (n : Option (List WorldCall)) → 1 ≤ turns → turns ≤ most → ready b.alone.setting (past_of b.alone.seen) ≡ [] →
      HasWaited (min (r.reading + longest_slice) (2 ^ 64 - 1)) NotWaited (known_by_owner b.alone) (known_by_owner c) m n → s ≡ record r { broken = broken } →
      Made delivered turns a b before r l m → Then later left turns a (record b { alone = c }) before l n → MakesTurns later most (Ok WaitFailed) a (record b { alone = c }) before l n
  ends_failed c s broken n some few none waited is x t =
      let latest : ℕ = min (r.reading + longest_slice) (2 ^ 64 - 1) in
      let same : c ≡ b.alone = paused_same latest WaitFault b.alone c m n waited in
      ends_by later most (Ok WaitFailed) a (record b { alone = c }) before l n
      (subst (λ o. Moves a (record b { alone = o })) (sym same) x.moves)
      (subst (λ o. ready o.setting (past_of o.seen) ≡ []) (sym same) none, waited_pending latest NotWaited b.alone c m n waited)
      t.sets.at_most
      (λ log since unset.
      let runs = made_runs turns a before l b r m delivered x log since in
      let way = runs_paused longest_slice turns 0 log m (known_by_owner b.alone) (known_by_owner c) r s broken n WaitFault some waited is runs in
      let failed = well_failed turns b.alone log m (x.well log since) c n latest waited in
      told_as
      (λ calls. ((IsTurnOwner (known_by_owner c) → IsUnderWay longest_slice turns 0 rested (known_by_owner c) s calls) × (IsTurnOwner (known_by_owner c) → EndsWithFailedWait calls × AreBegun turns c calls))
      × (IsTurnOwner (known_by_owner c) → SetsBehindFirst c.setting later turns c.seen calls))
      (λ calls. IsTurnOwner (known_by_owner c) → FallsIntoTurns later most (Ok WaitFailed) c calls)
      (λ calls both owner. let ended = both.0.1 owner in (turns, few, (both.0.0 owner).course, both.1 owner, ended.1, ended.0)) log n
      (told_both
      (λ calls. (IsTurnOwner (known_by_owner c) → IsUnderWay longest_slice turns 0 rested (known_by_owner c) s calls) × (IsTurnOwner (known_by_owner c) → EndsWithFailedWait calls × AreBegun turns c calls))
      (λ calls. IsTurnOwner (known_by_owner c) → SetsBehindFirst c.setting later turns c.seen calls) log n
      (told_both (λ calls. IsTurnOwner (known_by_owner c) → IsUnderWay longest_slice turns 0 rested (known_by_owner c) s calls)
      (λ calls. IsTurnOwner (known_by_owner c) → EndsWithFailedWait calls × AreBegun turns c calls) log n way failed)
      (t.sets.told log since unset)))

  -- want of memory cut a turn short
  pub ends_cut : (result : Result LoopEnd NoMemory) (c : Owned) (s : Running) (n : Option (List WorldCall)) → is_err result ≡ true → turns + 1 ≤ most →
      (stops : Stops IsCutShort (run_of (known_by_owner b.alone) r m) (run_of (known_by_owner c) s n)) → IsAsked b.alone → Made following turns a b before r l m → Then later left turns a (record b { alone = c }) before l n →
      MakesTurns later most result a (record b { alone = c }) before l n
  ends_cut (Ok end) c s n err few stops asked x t = absurd (cc err)
  ends_cut (Err fault) c s n err few stops asked x t =
      ends_by later most (Err fault) a (record b { alone = c }) before l n
      (moves_trans a b (record b { alone = c }) x.moves (moves_turn b c stops.goes_on stops.made)) tt t.sets.at_most
      (λ log since unset.
      let runs = made_runs turns a before l b r m following x log since in
      falls_short later most (turns + 1) turns fault c log n few (omega arith)
      (runs_cut longest_slice turns 0 log m (known_by_owner b.alone) (known_by_owner c) r s n stops runs)
      (well_cut turns b.alone log m (x.well log since) c r s n runs stops asked)
      (sets_short later a before l left turns (record b { alone = c }) n t log since unset))

  -- or it came behind a turn
  ends_behind : (fault : NoMemory) (reach : Reach) (whole : ℕ) → 1 ≤ turns → turns ≤ most → turns ≤ whole + 1 → Made reach turns a b before r l m → Then later left whole a b before l m → MakesTurns later most (Err fault) a b before l m
  ends_behind fault reach whole some few few_whole x t =
      ends_by later most (Err fault) a b before l m x.moves tt t.sets.at_most
      (λ log since unset.
      falls_short later most turns whole fault b.alone log m few few_whole
      (ran_so_far longest_slice turns 0 log m reach (known_by_owner b.alone) r (made_runs turns a before l b r m reach x log since))
      (well_so_far turns b.alone log m (x.well log since) some)
      (sets_short later a before l left whole b m t log since unset))

  -- where the later servers were to be set
  pub ends_unset : (result : Result LoopEnd NoMemory) (ls : Option (List ServerAddr)) (set_result : Result (Unit {0}) NoMemory) (whole : ℕ) (c : Owned) → is_err result ≡ true → is_err set_result ≡ true → 1 ≤ turns → turns ≤ most → turns ≤ whole + 1 →
      SetsLater ls set_result b.alone c → Made turned turns a b before r l m → Then later left whole a b before l m → MakesTurns later most result a (record b { alone = c }) before l m
  ends_unset (Ok end) ls set_result whole c err failed some few few_whole set x t = absurd (cc err)
  ends_unset (Err fault) ls set_result whole c err failed some few few_whole set x t =
      subst (λ o. MakesTurns later most (Err fault) a (record b { alone = o }) before l m) (sym (same ls set_result failed set)) (ends_behind fault turned whole some few few_whole x t)
    where
      same : (ls : Option (List ServerAddr)) (set_result : Result (Unit {0}) NoMemory) → is_err set_result ≡ true → SetsLater ls set_result b.alone c → c ≡ b.alone
      same None set_result failed set = set
      same (Some addresses) (Ok done) failed set = absurd (cc failed)
      same (Some addresses) (Err fault) failed set = set

  -- or to a pause
  pub ends_unpaused : (result : Result LoopEnd NoMemory) (c : Owned) (n : Option (List WorldCall)) → is_err result ≡ true → 1 ≤ turns → turns ≤ most →
      HasLooked (known_by_owner b.alone) (known_by_owner c) × (n ≡ m) → Made delivered turns a b before r l m → Then later left turns a b before l m → MakesTurns later most result a (record b { alone = c }) before l n
  ends_unpaused (Ok end) c n err some few looked x t = absurd (cc err)
  ends_unpaused (Err fault) c n err some few looked x t =
      subst (λ o. MakesTurns later most (Err fault) a (record b { alone = o }) before l n) (sym (looked_same b.alone c looked.0))
      (subst (λ k. MakesTurns later most (Err fault) a b before l k) (sym looked.1) (ends_behind fault delivered turns some few (omega arith) x t))
