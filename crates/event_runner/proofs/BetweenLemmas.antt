-- A run under way, behind each of whose turns a relation holds between the past there and the entries that stand behind it.
use Rattle.event_runner.proofs.Base.{◌≡◌, ◌≢◌, ℕ, ◌+◌, ◌-◌, ◌≤◌, Bool, List, [], ◌∷◌, ◌++◌, length, refl, sym, subst, arith, IsTrue, Option, min, ◌^◌, Entry, Waited, WorldCall, Wait, each-append, pending, ready, Round, has_no_turn, IsStalledBehind, Past, followed_by, own_entries, past_of, GoesOn, Known, Paused, Skipped, WaitFault, Woken, Turned, Goes, Leads, HasWaited, PausesBy, Running, run_of, wakes_by, IsTurnOwner, MakesTurn, IsUnderWay, Reach, RunsSince, awaiting, delivered, following, rested, turned, LogGets}
use Rattle.event_runner.proofs.GoesLemmas.{owner_before, told_as, told_by, told_trans}
use Rattle.event_runner.proofs.RoundLemmas.{AreBetween}
use Rattle.event_runner.proofs.RunLemmas.{MayStand, WayWith, facts_of, waited_here, way_behind, way_broken, way_of, way_rested, way_turned}
use Rattle.event_runner.proofs.TrailLemmas.{trail_of}
use Rattle.event_runner.proofs.UnderWayLemmas.{Facts, facts_awaiting, facts_delivered, facts_following, facts_skipped, pending_behind}

-- no turns
none_between : (holds : Past → List Entry → Type 0) (rounds : List Round) → length rounds ≡ 0 → AreBetween holds rounds
none_between holds [] none = tt
none_between holds (round ∷ rounds) none = absurd (omega (arith, none))

module _ (holds : Past → List Entry → Type 0) (slice : ℕ) where
  -- the same since the run began, of a log that is told
  abbrev pub RunsWith : ℕ → ℕ → Reach → Known → Running → Option (List WorldCall) → Option (List WorldCall) → Type 0
  RunsWith turns asides reach known running l m = LogGets (λ calls. IsTurnOwner known → WayWith slice turns asides holds reach known running calls) l m

  -- before the first turn it holds
  pub with_begun : (asides : ℕ) (reach : Reach) (known : Known) (running : Running) (l m : Option (List WorldCall)) → RunsSince slice 0 asides reach known running l m → RunsWith 0 asides reach known running l m
  with_begun asides reach known running l m =
      told_as (λ calls. IsTurnOwner known → IsUnderWay slice 0 asides reach known running calls) (λ calls. IsTurnOwner known → WayWith slice 0 asides holds reach known running calls)
      (λ calls way owner. let w = way owner in (w, none_between holds w.course.rounds w.course.count)) l m

  module _ (turns asides : ℕ) (l m : Option (List WorldCall)) where
    -- it is a run, whatever holds
    pub with_any : (reach : Reach) (known : Known) (running : Running) → RunsWith turns asides reach known running l m → RunsSince slice turns asides reach known running l m
    with_any reach known running =
        told_as (λ calls. IsTurnOwner known → WayWith slice turns asides holds reach known running calls) (λ calls. IsTurnOwner known → IsUnderWay slice turns asides reach known running calls)
        (λ calls way owner. (way owner).0) l m

    -- entries came that no turn makes, but for other seats'
    pub with_behind : (reach : Reach) (old new : Known) (running : Running) (goes : GoesOn old new) → IsTrue (has_no_turn (own_entries old.seat goes.since)) → MayStand turns reach old.seat goes.since →
        ((past : Past) (between : List Entry) → followed_by past between ≡ past_of old.seen → holds past between → holds past (between ++ goes.since)) →
        RunsWith turns asides reach old running l m → RunsWith turns asides reach new running l m
    with_behind reach old new running goes own may grows =
        let trail = trail_of old new goes in
        told_as (λ calls. IsTurnOwner old → WayWith slice turns asides holds reach old running calls) (λ calls. IsTurnOwner new → WayWith slice turns asides holds reach new running calls)
        (λ calls way owner. way_behind slice turns asides holds trail owner own may grows (way (owner_before old new goes.since trail owner))) l m

    -- the run has come further behind its last turn
    with_further : (one other : Reach) (known : Known) (running : Running) →
        ((calls : List WorldCall) (first : List Entry) (first_asides : List ℕ) (rounds : List Round) → Facts known.setting known.seat slice turns asides one known.seen running calls first first_asides rounds →
        Facts known.setting known.seat slice turns asides other known.seen running calls first first_asides rounds) →
        RunsWith turns asides one known running l m → RunsWith turns asides other known running l m
    with_further one other known running further =
        told_as (λ calls. IsTurnOwner known → WayWith slice turns asides holds one known running calls) (λ calls. IsTurnOwner known → WayWith slice turns asides holds other known running calls)
        (λ calls way owner. let w = way owner in (way_of owner (further calls _ _ _ (facts_of w.0)), w.1)) l m

    -- nothing is ready any more
    pub with_delivered : (known : Known) (running : Running) → ready known.setting (past_of known.seen) ≡ [] → RunsWith turns asides turned known running l m → RunsWith turns asides delivered known running l m
    with_delivered known running none = with_further turned delivered known running (λ calls first asides rounds. facts_delivered known.setting known.seat slice none)

    -- a request is pending
    pub with_following : (known : Known) (running : Running) → pending known.setting (past_of known.seen) ≢ [] → RunsWith turns asides rested known running l m → RunsWith turns asides following known running l m
    with_following known running some = with_further rested following known running (λ calls first asides rounds. facts_following known.setting known.seat slice some)

    -- a turn was made, behind which nothing stands yet
    pub with_turned : ((past : Past) → holds past []) → (old new : Known) (running after : Running) (n : Option (List WorldCall)) (answer : Turned) → Goes (MakesTurn answer) (run_of old running m) (run_of new after n) → after.reading ≡ answer.reading →
        RunsWith turns asides following old running l m → RunsWith (turns + 1) asides turned new after l n
    with_turned none old new running after n answer goes read before =
        let es : List Entry = goes.goes_on.since in
        let trail = trail_of old new goes.goes_on in
        told_trans (λ calls. IsTurnOwner old → WayWith slice turns asides holds following old running calls) (λ calls. IsTurnOwner new → Leads (MakesTurn answer) (run_of old running m) (run_of new after n) es calls)
        (λ calls. IsTurnOwner new → WayWith slice (turns + 1) asides holds turned new after calls)
        (λ cs ds way leads owner.
        let w = way (owner_before old new es trail owner) in (
          way_turned slice turns asides old new es trail owner running m cs ds w.0 after n answer read (leads owner),
          each-append (λ (round : Round). holds round.new.past round.between) w.0.course.rounds _ w.1 (none _, tt),
        )) l m n before goes.told

    -- a pause, by its answer, that left the desk as it was
    pub with_paused : (known : Known) (running after : Running) (broken : Bool) (n : Option (List WorldCall)) (answer : Paused) → 1 ≤ turns → PausesBy (min (running.reading + slice) (2 ^ 64 - 1)) answer known known m n →
        after ≡ record running { broken = broken } → RunsWith turns asides delivered known running l m → RunsWith turns asides rested known after l n
    with_paused known running after broken n answer some pauses is before =
        subst (λ r. RunsWith turns asides rested known r l n) (sym is)
        (told_as (λ calls. IsTurnOwner known → WayWith slice turns asides holds rested known running calls) (λ calls. IsTurnOwner known → WayWith slice turns asides holds rested known (record running { broken = broken }) calls)
        (λ calls way owner. let w = way owner in (way_broken broken w.0, w.1)) l n (by_answer answer pauses))
      where
        latest : ℕ
        latest = min (running.reading + slice) (2 ^ 64 - 1)

        waited : (outcome : Waited) → HasWaited latest outcome known known m n → RunsWith turns asides rested known running l n
        waited outcome w =
            let until : ℕ = wakes_by known.setting latest (past_of known.seen) in
            let called : RunsWith turns asides awaiting known running l m = with_further delivered awaiting known running
            (λ calls first asides rounds. facts_awaiting known.setting known.seat slice (waited_here latest outcome known m n w)) before in
            told_trans (λ calls. IsTurnOwner known → WayWith slice turns asides holds awaiting known running calls) (λ calls. calls ≡ Wait until outcome ∷ []) (λ calls. IsTurnOwner known → WayWith slice turns asides holds rested known running calls)
            (λ cs ds way waits owner.
            subst (λ ds. WayWith slice turns asides holds rested known running (cs ++ ds)) (sym waits) (way_rested slice turns asides holds until outcome some refl owner (way owner)))
            l m n called (told_by (λ calls. calls ≡ Wait until outcome ∷ []) (Wait until outcome ∷ []) refl m n w.waits)

        by_answer : (answer : Paused) → PausesBy latest answer known known m n → RunsWith turns asides rested known running l n
        by_answer Skipped skips_it =
            subst (λ k. RunsWith turns asides rested known running l k) (sym skips_it.no_call)
            (with_further delivered rested known running (λ calls first asides rounds. facts_skipped known.setting known.seat slice skips_it.skipped) before)
        by_answer Woken w = waited _ w
        by_answer WaitFault w = waited _ w

  -- a run under way has stalled, where a request is pending
  pub with_stalls : (turns : ℕ) (reach : Reach) (known : Known) (running : Running) (calls : List WorldCall) → pending known.setting (past_of known.seen) ≢ [] → WayWith slice turns 0 holds reach known running calls →
      (stalled : IsStalledBehind known.setting known.seat slice turns known.seen calls) × AreBetween holds stalled.course.rounds
  with_stalls turns reach known running calls some way = (
    record {
      course = way.0.course;
      left_pending = pending_behind known.setting known.seat slice some (facts_of way.0);
    },
    way.1,
  )
