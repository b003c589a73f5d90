-- Calls of a runner and of its desk, one behind the other, and what journal and log have come to behind them.
use Rattle.event_runner.proofs.Base.{◌≡◌, ◌≢◌, ◌∙◌, ℕ, ◌+◌, ◌-◌, ◌≤◌, ◌==◌, ◌&&◌, ◌||◌, Bool, true, false, List, [], ◌∷◌, ◌++◌, length, length-append, map, not, cond, refl, ap, sym, subst, inl, inr, ⊎_elim, arith, IsTrue, Option, Some, None, filter_map, option_map, min, ◌^◌, ◌⊎◌, ⊤, list_all, and_from, and_parts, append-nil, append_assoc, append_cancel_left, filter_map-append, IsPrefix, Entry, Waited, NotWaited, WorldCall, Wait, pending, ready, IsCourse, IsCutCourse, Round, has_no_turn, has_none_of, is_of_turn, serves_from, skips, standing_after, IsStalledBehind, LastWaitFailed, waited_by, Past, followed_by, own_entries, past_of, GoesOn, Known, keyed_from, Setting, Standing, beginning, behind, IsCutTurn, Paused, Skipped, WaitFault, Woken, Turned, Goes, Leads, Leaves, Stops, HasLooked, HasWaited, PausesBy, Running, run_of, wakes_by, Holds, IsTurnOwner, IsCutShort, MakesTurn, IsSoFar, IsUnderWay, RanSince, Reach, RunsSince, awaiting, delivered, following, rested, turned, LogGets}
use Rattle.event_runner.proofs.CallLemmas.{owner_of}
use Rattle.event_runner.proofs.CourseLemmas.{course_of, is_seats}
use Rattle.event_runner.proofs.GoesLemmas.{owner_before, told_as, told_by, told_trans}
use Rattle.event_runner.proofs.RoundLemmas.{AreBetween, all_go_on, between_any, between_last, by_last, with_more, with_rest}
use Rattle.event_runner.proofs.SoundLemmas.{holds_of, sound_of, Sound}
use Rattle.event_runner.proofs.TrailLemmas.{Trail, trail_of}
use Rattle.event_runner.proofs.UnderWayLemmas.{Facts, ends_here, facts_awaiting, facts_begun, facts_delivered, facts_first_more, facts_following, facts_last_more, facts_skipped, facts_turned, facts_waited, pending_behind}

-- a seat that owns the turns and made none of these entries in one: no turn made them
none_of_turn : (seat : ℕ) (es : List Entry) → list_all (is_seats seat) es ≡ true → has_no_turn (own_entries seat es) ≡ true → has_no_turn es ≡ true
none_of_turn seat [] seats own = refl
none_of_turn seat (e ∷ es) seats own =
    let parts = and_parts (is_seats seat e) (list_all (is_seats seat) es) seats in
    by_seat (e.seat == seat) parts.0 own (none_of_turn seat es parts.1)
  where
    by_seat : (b : Bool) → (not (is_of_turn e) || b) ≡ true → has_no_turn (cond b (e ∷ own_entries seat es) (own_entries seat es)) ≡ true → (has_no_turn (own_entries seat es) ≡ true → has_no_turn es ≡ true) →
        has_no_turn (e ∷ es) ≡ true
    by_seat true here all rest =
        let parts = and_parts (not (is_of_turn e)) (has_no_turn (own_entries seat es)) all in
        and_from (not (is_of_turn e)) (has_no_turn es) parts.0 (rest parts.1)
    by_seat false here all rest = and_from (not (is_of_turn e)) (has_no_turn es) (or_no (not (is_of_turn e)) here) (rest all)
      where
        or_no : (b : Bool) → (b || false) ≡ true → b ≡ true
        or_no true h = refl
        or_no false h = h

-- a look made no entry of its own
looked_own : (old new : Known) (looked : HasLooked old new) → own_entries old.seat looked.goes_on.since ≡ []
looked_own old new looked = sym (append_cancel_left old.own [] (own_entries old.seat looked.goes_on.since) (append-nil old.own ∙ sym looked.own ∙ looked.goes_on.own))

looked_none : (old new : Known) (looked : HasLooked old new) → has_no_turn (own_entries old.seat looked.goes_on.since) ≡ true
looked_none old new looked = ap has_no_turn (looked_own old new looked)

-- entries of which none is the seat's own
none_own : (seat : ℕ) (es : List Entry) → own_entries seat es ≡ [] → has_none_of seat es ≡ true
none_own seat [] own = refl
none_own seat (e ∷ es) own = by_seat (e.seat == seat) own (none_own seat es)
  where
    by_seat : (b : Bool) → cond b (e ∷ own_entries seat es) (own_entries seat es) ≡ [] → (own_entries seat es ≡ [] → has_none_of seat es ≡ true) → (not b && has_none_of seat es) ≡ true
    by_seat true is rest = absurd (cc is)
    by_seat false is rest = rest is

-- where such entries may stand: before the first turn or right behind the last one, whosever they are, or later, where they are other seats'
abbrev pub MayStand : ℕ → Reach → ℕ → List Entry → Type 0
MayStand turns reach seat es = (turns ≡ 0) ⊎ (reach ≡ turned) ⊎ (has_none_of seat es ≡ true)

looked_stands : (turns : ℕ) (reach : Reach) (old new : Known) (looked : HasLooked old new) → MayStand turns reach old.seat looked.goes_on.since
looked_stands turns reach old new looked = inr (inr (none_own old.seat looked.goes_on.since (looked_own old new looked)))

module _ {slice turns asides : ℕ} where
  -- what is said of a run under way, and back
  pub facts_of : {reach : Reach} {known : Known} {running : Running} {calls : List WorldCall} (way : IsUnderWay slice turns asides reach known running calls) →
      Facts known.setting known.seat slice turns asides reach known.seen running calls way.course.first way.course.first_asides way.course.rounds
  facts_of {reach} {known} {running} {calls} way = record {
    plain = record {
      journal_is = way.course.journal_is;
      log_is = way.course.log_is;
      before = way.course.before;
      turns_are = way.course.turns_are;
      count = way.course.count;
      asides_are = way.course.asides_are;
    };
    come = way.come;
    reading = way.reading;
    past = way.holds.fits.past_is;
    mixes = way.holds.mixes;
    sound = sound_of (run_of known running None) (standing_after (behind beginning way.course.first) way.course.rounds) way.holds;
  }

  abbrev pub way_of : {reach : Reach} {known : Known} {running : Running} {calls : List WorldCall} {first : List Entry} {first_asides : List ℕ} {rounds : List Round} → IsTurnOwner known →
      Facts known.setting known.seat slice turns asides reach known.seen running calls first first_asides rounds → IsUnderWay slice turns asides reach known running calls
  way_of {reach} {known} {running} {calls} {first} {first_asides} {rounds} owner f = record {
    course = course_of known.setting known.seat slice known.seen calls turns asides first first_asides rounds f.plain owner;
    come = f.come;
    reading = f.reading;
    holds = holds_of (run_of known running None) (standing_after (behind beginning first) rounds) f.past f.mixes f.sound;
  }

  -- the same for a desk that went on
  abbrev way_to : {reach : Reach} {old new : Known} {es : List Entry} {running : Running} {calls : List WorldCall} {first : List Entry} {first_asides : List ℕ} {rounds : List Round} → Trail old new es → IsTurnOwner new →
      Facts old.setting old.seat slice turns asides reach (old.seen ++ es) running calls first first_asides rounds → IsUnderWay slice turns asides reach new running calls
  way_to {reach} {old} {new} {es} {running} {calls} {first} {first_asides} {rounds} trail owner f =
      way_of owner
      (subst (λ seen. Facts new.setting new.seat slice turns asides reach seen running calls first first_asides rounds) (sym trail.seen)
      (subst (λ seat. Facts new.setting seat slice turns asides reach (old.seen ++ es) running calls first first_asides rounds) (sym trail.desk.seat)
      (subst (λ setting. Facts setting old.seat slice turns asides reach (old.seen ++ es) running calls first first_asides rounds) (sym trail.desk.setting) f)))

  -- the runner met want of memory, or met it before
  abbrev pub way_broken : {reach : Reach} {known : Known} {running : Running} {calls : List WorldCall} (broken : Bool) → IsUnderWay slice turns asides reach known running calls →
      IsUnderWay slice turns asides reach known (record running { broken = broken }) calls
  way_broken broken way = record {
    course = way.course;
    come = way.come;
    reading = way.reading;
    holds = record { fits = way.holds.fits; mixes = way.holds.mixes; told = way.holds.told };
  }

module _ (slice turns asides : ℕ) where
  -- the same, where a relation holds of what stands behind each turn
  abbrev pub WayWith : (Past → List Entry → Type 0) → Reach → Known → Running → List WorldCall → Type 0
  WayWith holds reach known running calls = (way : IsUnderWay slice turns asides reach known running calls) × AreBetween holds way.course.rounds

  -- entries that no turn made stand behind
  pub way_behind : (holds : Past → List Entry → Type 0) {reach : Reach} {old new : Known} {es : List Entry} {running : Running} {calls : List WorldCall} → Trail old new es → IsTurnOwner new → has_no_turn (own_entries old.seat es) ≡ true →
      MayStand turns reach old.seat es → ((past : Past) (between : List Entry) → followed_by past between ≡ past_of old.seen → holds past between → holds past (between ++ es)) → WayWith holds reach old running calls → WayWith holds reach new running calls
  way_behind holds {reach} {old} {new} {es} {running} {calls} trail owner own may grows way =
      let none : has_no_turn es ≡ true = none_of_turn old.seat es (owner_of old new es trail owner) own in
      let first = way.0.course.first in
      let first_asides = way.0.course.first_asides in
      by_last (λ rounds. Facts old.setting old.seat slice turns asides reach old.seen running calls first first_asides rounds → AreBetween holds rounds → WayWith holds reach new running calls)
      (λ f all. (way_to trail owner (facts_first_more old.setting old.seat slice es none f), tt))
      (λ before round f all. (
        way_to trail owner (facts_last_more old.setting old.seat slice es before round none (behind_one before round f.plain.count) f),
        between_last holds before round (with_more es round) (grows round.new.past round.between (ends_here old.setting old.seat slice before round f)) all,
      ))
      way.0.course.rounds (facts_of way.0) way.1
    where
      -- where there is a turn
      behind_one : (before : List Round) (round : Round) → length (before ++ round ∷ []) ≡ turns → (reach ≡ turned) ⊎ (has_none_of old.seat es ≡ true)
      behind_one before round count = by may
        where
          by : MayStand turns reach old.seat es → (reach ≡ turned) ⊎ (has_none_of old.seat es ≡ true)
          by (inl no_turn) = absurd (omega (arith, count, no_turn, length-append before (round ∷ [])))
          by (inr others) = others

  pub way_more : {reach : Reach} {old new : Known} {es : List Entry} {running : Running} {calls : List WorldCall} → Trail old new es → IsTurnOwner new → has_no_turn (own_entries old.seat es) ≡ true → MayStand turns reach old.seat es →
      IsUnderWay slice turns asides reach old running calls → IsUnderWay slice turns asides reach new running calls
  way_more trail owner own may way = (way_behind (λ past es. ⊤) trail owner own may (λ past between is any. tt) (way, between_any way.course.rounds)).0

  -- a wait stands behind the last turn
  pub way_rested : (holds : Past → List Entry → Type 0) {known : Known} {running : Running} {calls : List WorldCall} (until : ℕ) (outcome : Waited) → 1 ≤ turns → until ≡ wakes_by known.setting (min (running.reading + slice) (2 ^ 64 - 1)) (past_of known.seen) →
      IsTurnOwner known → WayWith holds awaiting known running calls → WayWith holds rested known running (calls ++ Wait until outcome ∷ [])
  way_rested holds {known} {running} {calls} until outcome some wakes owner way =
      by_last
      (λ rounds. Facts known.setting known.seat slice turns asides awaiting known.seen running calls way.0.course.first way.0.course.first_asides rounds → AreBetween holds rounds → WayWith holds rested known running (calls ++ Wait until outcome ∷ []))
      (λ f all. let none : 0 ≡ turns = f.plain.count in absurd (omega arith))
      (λ before round f all. (
        way_of owner (facts_waited known.setting known.seat slice until outcome before round wakes f),
        between_last holds before round (with_rest (record { until = until; outcome = outcome }) round) (λ h. h) all,
      ))
      way.0.course.rounds (facts_of way.0) way.1

module _ (slice turns asides : ℕ) (old new : Known) (es : List Entry) (trail : Trail old new es) (owner : IsTurnOwner new) (running : Running) (log : Option (List WorldCall)) (calls cs : List WorldCall)
    (way : IsUnderWay slice turns asides following old running calls) where
  -- the course's end, which the runner holds
  abbrev end_of : Standing
  end_of = standing_after (behind beginning way.course.first) way.course.rounds

  pub held : Holds (run_of old running log) end_of
  held = record { fits = way.holds.fits; mixes = way.holds.mixes; told = way.holds.told }

  -- a turn was made
  abbrev pub way_turned : (after : Running) (log_new : Option (List WorldCall)) (answer : Turned) → after.reading ≡ answer.reading →
      Leads (MakesTurn answer) (run_of old running log) (run_of new after log_new) es cs → IsUnderWay slice (turns + 1) asides turned new after (calls ++ cs)
  way_turned after log_new answer read leads =
      let to = leads end_of held in
      way_to trail owner
      (facts_turned old.setting old.seat slice to.1.turn read (to.2.fits.past_is ∙ ap past_of trail.seen)
      (to.2.mixes ∙ ap (λ (setting : Setting). setting.options.flags.mix) trail.desk.setting)
      (subst (λ setting. Sound setting after.rows after.told to.0) trail.desk.setting (sound_of (run_of new after log_new) to.0 to.2))
      (facts_of way))

  -- a turn was cut short
  pub way_cut : Leaves IsCutShort (run_of old running log) es cs → IsSoFar slice (turns + 1) asides new (calls ++ cs)
  way_cut leaves = ⊎_elim
      (λ none.
      let more = way_more slice turns asides trail owner (ap (λ l. has_no_turn (own_entries old.seat l)) none.0) (inr (inr (ap (has_none_of old.seat) none.0))) way in
      let same : calls ≡ calls ++ cs = sym (ap (λ l. calls ++ l) none.1 ∙ append-nil calls) in
      (turns, omega arith, inl (subst (λ l. IsCourse new.setting new.seat slice new.seen l turns asides) same more.course)))
      (λ cut. (
        turns + 1,
        omega arith,
        inr (inl
            (subst (λ seen. IsCutCourse new.setting new.seat slice seen (calls ++ cs) (turns + 1) asides) (sym trail.seen)
            (subst (λ seat. IsCutCourse new.setting seat slice (old.seen ++ es) (calls ++ cs) (turns + 1) asides) (sym trail.desk.seat)
            (subst (λ setting. IsCutCourse setting old.seat slice (old.seen ++ es) (calls ++ cs) (turns + 1) asides) (sym trail.desk.setting)
            (cut_course cut.0 cut.1))))),
      ))
      (leaves end_of held)
    where
      cut_course : (reading : ℕ) → IsCutTurn old.setting old.seat reading end_of es cs → IsCutCourse old.setting old.seat slice (old.seen ++ es) (calls ++ cs) (turns + 1) asides
      cut_course reading turn = record {
        whole = turns;
        count = refl;
        earlier = old.seen;
        cut = es;
        later = [];
        calls_earlier = calls;
        calls_cut = cs;
        reading = reading;
        course = way.course;
        going_on = all_go_on old.setting old.seat slice (behind beginning way.course.first) way.course.rounds way.course.turns_are way.come;
        turn = turn;
        no_turn = refl;
        journal_is = sym (append-nil (old.seen ++ es));
        log_is = refl;
        of_seat = subst (λ seat. list_all (is_seats seat) (old.seen ++ es) ≡ true) trail.desk.seat (subst (λ l. list_all (is_seats new.seat) l ≡ true) trail.seen owner);
      }

-- ---- the same since the run began, of a log that is told

-- where no other seat makes entries of turns
abbrev Way : ℕ → ℕ → ℕ → Reach → Known → Running → List WorldCall → Type 0
Way slice turns asides reach known running calls = IsTurnOwner known → IsUnderWay slice turns asides reach known running calls

abbrev SoFar : ℕ → ℕ → ℕ → Known → List WorldCall → Type 0
SoFar slice most asides known calls = IsTurnOwner known → IsSoFar slice most asides known calls

module _ (slice : ℕ) where
  -- the servers were told, and no turn was made before
  pub runs_begin : (reach : Reach) (known : Known) (running : Running) (l m : Option (List WorldCall)) → IsTrue (has_no_turn known.seen) →
      running ≡ record running { reading = 0; broken = false; rows = []; mix = known.setting.options.flags.mix } →
      running.told ≡ map (λ server. server.key) (keyed_from 0 known.setting.options.servers) →
      m ≡ option_map (λ calls. calls ++ serves_from 0 known.setting.options.servers) l → RunsSince slice 0 0 reach known running l m
  runs_begin reach known running l m none fresh keys log =
      told_by (Way slice 0 0 reach known running) (serves_from 0 known.setting.options.servers)
      (λ owner. way_of owner (facts_begun known.setting known.seat slice reach none (ap (λ r. r.reading) fresh) (ap (λ r. r.rows) fresh) keys (ap (λ r. r.mix) fresh))) l m log

  -- want of memory came while they were told
  pub runs_unbegun : (known : Known) (l m : Option (List WorldCall)) → IsTrue (has_no_turn known.seen) → LogGets (λ calls. IsPrefix calls (serves_from 0 known.setting.options.servers)) l m → RanSince slice 0 0 known l m
  runs_unbegun known l m none =
      told_as (λ calls. IsPrefix calls (serves_from 0 known.setting.options.servers)) (SoFar slice 0 0 known)
      (λ calls some owner. (0, omega arith, inr (inr (record { told_so_far = some; no_turn = none }, refl, refl)))) l m

  -- a run that may have been cut short has made no more turns than that
  pub ran_at_most : (most more asides : ℕ) (known : Known) (l m : Option (List WorldCall)) → most ≤ more → RanSince slice most asides known l m → RanSince slice more asides known l m
  ran_at_most most more asides known l m less =
      told_as (SoFar slice most asides known) (SoFar slice more asides known) (λ calls far owner. let is = far owner in (is.0, omega (arith, less, is.1), is.2)) l m

  module _ (turns asides : ℕ) (l m : Option (List WorldCall)) where
    -- entries came that no turn makes, but for other seats'
    pub runs_behind : (reach : Reach) (old new : Known) (running : Running) (goes : GoesOn old new) → IsTrue (has_no_turn (own_entries old.seat goes.since)) → MayStand turns reach old.seat goes.since →
        RunsSince slice turns asides reach old running l m → RunsSince slice turns asides reach new running l m
    runs_behind reach old new running goes own may =
        let trail = trail_of old new goes in
        told_as (Way slice turns asides reach old running) (Way slice turns asides reach new running)
        (λ calls way owner. way_more slice turns asides trail owner own may (way (owner_before old new goes.since trail owner))) l m

    -- a look came
    runs_looked : (reach : Reach) (old new : Known) (running : Running) → HasLooked old new → RunsSince slice turns asides reach old running l m → RunsSince slice turns asides reach new running l m
    runs_looked reach old new running looked = runs_behind reach old new running looked.goes_on (looked_none old new looked) (looked_stands turns reach old new looked)

    -- the run may have been cut short here
    pub ran_so_far : (reach : Reach) (known : Known) (running : Running) → RunsSince slice turns asides reach known running l m → RanSince slice turns asides known l m
    ran_so_far reach known running =
        told_as (Way slice turns asides reach known running) (SoFar slice turns asides known) (λ calls way owner. (turns, omega arith, inl (way owner).course)) l m

    -- the run has come further behind its last turn
    runs_further : (one other : Reach) (known : Known) (running : Running) →
        ((calls : List WorldCall) (first : List Entry) (first_asides : List ℕ) (rounds : List Round) → Facts known.setting known.seat slice turns asides one known.seen running calls first first_asides rounds →
        Facts known.setting known.seat slice turns asides other known.seen running calls first first_asides rounds) →
        RunsSince slice turns asides one known running l m → RunsSince slice turns asides other known running l m
    runs_further one other known running further =
        told_as (Way slice turns asides one known running) (Way slice turns asides other known running) (λ calls way owner. way_of owner (further calls _ _ _ (facts_of (way owner)))) l m

    -- nothing is ready any more
    pub runs_delivered : (known : Known) (running : Running) → ready known.setting (past_of known.seen) ≡ [] → RunsSince slice turns asides turned known running l m → RunsSince slice turns asides delivered known running l m
    runs_delivered known running none = runs_further turned delivered known running (λ calls first asides rounds. facts_delivered known.setting known.seat slice none)

    -- a request is pending
    pub runs_following : (known : Known) (running : Running) → pending known.setting (past_of known.seen) ≢ [] → RunsSince slice turns asides rested known running l m → RunsSince slice turns asides following known running l m
    runs_following known running some = runs_further rested following known running (λ calls first asides rounds. facts_following known.setting known.seat slice some)

    -- a turn was made
    pub runs_turned : (old new : Known) (running after : Running) (n : Option (List WorldCall)) (answer : Turned) → Goes (MakesTurn answer) (run_of old running m) (run_of new after n) → after.reading ≡ answer.reading →
        RunsSince slice turns asides following old running l m → RunsSince slice (turns + 1) asides turned new after l n
    runs_turned old new running after n answer goes read before =
        let es : List Entry = goes.goes_on.since in
        let trail = trail_of old new goes.goes_on in
        told_trans (Way slice turns asides following old running) (λ calls. IsTurnOwner new → Leads (MakesTurn answer) (run_of old running m) (run_of new after n) es calls) (Way slice (turns + 1) asides turned new after)
        (λ cs ds way leads owner. way_turned slice turns asides old new es trail owner running m cs ds (way (owner_before old new es trail owner)) after n answer read (leads owner)) l m n before goes.told

    -- a turn was cut short
    pub runs_cut : (old new : Known) (running after : Running) (n : Option (List WorldCall)) → Stops IsCutShort (run_of old running m) (run_of new after n) →
        RunsSince slice turns asides following old running l m → RanSince slice (turns + 1) asides new l n
    runs_cut old new running after n stops before =
        let es : List Entry = stops.goes_on.since in
        let trail = trail_of old new stops.goes_on in
        told_trans (Way slice turns asides following old running) (λ calls. IsTurnOwner new → Leaves IsCutShort (run_of old running m) es calls) (SoFar slice (turns + 1) asides new)
        (λ cs ds way leaves owner. way_cut slice turns asides old new es trail owner running m cs ds (way (owner_before old new es trail owner)) (leaves owner)) l m n before stops.told

    -- a look at the channel, and then a wait
    runs_waited : (old new : Known) (running : Running) (n : Option (List WorldCall)) (outcome : Waited) → 1 ≤ turns → HasWaited (min (running.reading + slice) (2 ^ 64 - 1)) outcome old new m n →
        RunsSince slice turns asides delivered old running l m → RunsSince slice turns asides rested new running l n
    runs_waited old new running n outcome some waited before =
        let middle : Known = waited.middle in
        let called = runs_further delivered awaiting middle running
        (λ calls first asides rounds. facts_awaiting middle.setting middle.seat slice (ap (λ setting. skips setting (past_of middle.seen)) waited.looked.goes_on.desk.setting ∙ waited.not_skipped)) (runs_looked delivered old middle running waited.looked before) in
        let latest : ℕ = min (running.reading + slice) (2 ^ 64 - 1) in
        let until : ℕ = wakes_by old.setting latest (past_of new.seen) in
        let same : new.setting ≡ old.setting = waited.looked_again.goes_on.desk.setting ∙ waited.looked.goes_on.desk.setting in
        told_trans (Way slice turns asides awaiting new running) (λ calls. calls ≡ Wait until outcome ∷ []) (Way slice turns asides rested new running)
        (λ cs ds way is owner.
        let w = way owner in
        subst (λ ds. IsUnderWay slice turns asides rested new running (cs ++ ds)) (sym is)
        (way_rested slice turns asides (λ past es. ⊤) until outcome some (ap (λ setting. wakes_by setting latest (past_of new.seen)) (sym same)) owner (w, between_any w.course.rounds)).0)
        l m n (runs_looked awaiting middle new running waited.looked_again called) (told_by (λ calls. calls ≡ Wait until outcome ∷ []) (Wait until outcome ∷ []) refl m n waited.waits)

    -- a pause, by its answer
    pub runs_paused : (old new : Known) (running after : Running) (broken : Bool) (n : Option (List WorldCall)) (answer : Paused) → 1 ≤ turns → PausesBy (min (running.reading + slice) (2 ^ 64 - 1)) answer old new m n →
        after ≡ record running { broken = broken } → RunsSince slice turns asides delivered old running l m → RunsSince slice turns asides rested new after l n
    runs_paused old new running after broken n answer some pauses is before =
        subst (λ r. RunsSince slice turns asides rested new r l n) (sym is)
        (told_as (Way slice turns asides rested new running) (Way slice turns asides rested new (record running { broken = broken })) (λ calls way owner. way_broken broken (way owner)) l n (by_answer answer pauses))
      where
        by_answer : (answer : Paused) → PausesBy (min (running.reading + slice) (2 ^ 64 - 1)) answer old new m n → RunsSince slice turns asides rested new running l n
        by_answer Skipped skipped =
            subst (λ k. RunsSince slice turns asides rested new running l k) (sym skipped.no_call)
            (runs_further delivered rested new running (λ calls first asides rounds. facts_skipped new.setting new.seat slice (ap (λ setting. skips setting (past_of new.seen)) skipped.looked.goes_on.desk.setting ∙ skipped.skipped))
            (runs_looked delivered old new running skipped.looked before))
        by_answer Woken waited = runs_waited old new running n _ some waited before
        by_answer WaitFault waited = runs_waited old new running n _ some waited before

    -- want of memory came to a pause
    pub runs_unpaused : (old new : Known) (running : Running) (n : Option (List WorldCall)) → HasLooked old new × (n ≡ m) → RunsSince slice turns asides delivered old running l m → RanSince slice turns asides new l n
    runs_unpaused old new running n looked before =
        subst (λ k. RanSince slice turns asides new l k) (sym looked.1) (ran_so_far delivered new running (runs_looked delivered old new running looked.0 before))

-- the first of two lists that are nothing is nothing
front_empty : (xs ys : List Entry) → xs ++ ys ≡ [] → xs ≡ []
front_empty [] ys none = refl
front_empty (x ∷ xs) ys none = absurd (cc none)

-- a wait that left the desk as it was is called for where the desk stands
pub waited_here : (latest : ℕ) (outcome : Waited) (known : Known) (m n : Option (List WorldCall)) → HasWaited latest outcome known known m n → skips known.setting (past_of known.seen) ≡ false
waited_here latest outcome known m n waited =
    let one = waited.looked.goes_on in
    let two = waited.looked_again.goes_on in
    let all : known.seen ++ (one.since ++ two.since) ≡ known.seen = sym (append_assoc known.seen one.since two.since) ∙ ap (λ l. l ++ two.since) (sym one.seen) ∙ sym two.seen in
    let none : one.since ≡ [] = front_empty one.since two.since (append_cancel_left known.seen (one.since ++ two.since) [] (all ∙ sym (append-nil known.seen))) in
    let middle : waited.middle.seen ≡ known.seen = one.seen ∙ ap (λ l. known.seen ++ l) none ∙ append-nil known.seen in
    ap (λ l. skips known.setting (past_of l)) (sym middle) ∙ waited.not_skipped

-- two things of what a log got
pub told_both : (P Q : List WorldCall → Type 0) (l m : Option (List WorldCall)) → LogGets P l m → LogGets Q l m → LogGets (λ calls. P calls × Q calls) l m
told_both P Q None m a b = a
told_both P Q (Some x) m a b =
    let same : b.0 ≡ a.0 = append_cancel_left x b.0 a.0 (some_same (x ++ b.0) (x ++ a.0) (sym b.1 ∙ a.1)) in
    (a.0, a.1, (a.2, subst Q same b.2))
  where
    some_same : (y z : List WorldCall) → ◌≡◌ {A = Option (List WorldCall)} (Some y) (Some z) → y ≡ z
    some_same y z e = cc

-- a wait that failed is the last of its log
pub runs_failed : (P : List WorldCall → Type 0) (latest : ℕ) (old new : Known) (l m n : Option (List WorldCall)) → LogGets P l m → HasWaited latest NotWaited old new m n → LogGets LastWaitFailed l n
runs_failed P latest old new l m n before waited =
    let call : WorldCall = Wait (wakes_by old.setting latest (past_of new.seen)) NotWaited in
    told_trans P (λ calls. calls ≡ call ∷ []) LastWaitFailed
    (λ cs ds p is. record { earlier = filter_map waited_by cs; failed = filter_map-append waited_by cs ds ∙ ap (λ l. filter_map waited_by cs ++ filter_map waited_by l) is })
    l m n before (told_by (λ calls. calls ≡ call ∷ []) (call ∷ []) refl m n waited.waits)

-- a run under way has stalled, where a request is pending
pub way_stalls : (slice turns : ℕ) (reach : Reach) (known : Known) (running : Running) (calls : List WorldCall) → pending known.setting (past_of known.seen) ≢ [] →
    IsUnderWay slice turns 0 reach known running calls → IsStalledBehind known.setting known.seat slice turns known.seen calls
way_stalls slice turns reach known running calls some way = record {
  course = way.course;
  left_pending = pending_behind known.setting known.seat slice some (facts_of way);
}
