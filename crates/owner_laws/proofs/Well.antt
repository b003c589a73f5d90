-- Turns of which none was made behind a failed wait, and none first where nothing was pending.
use Rattle.std.proofs.Common.{◌≡◌, ◌≢◌, ◌∙◌, ℕ, ◌+◌, ◌==◌, ◌||◌, ◌≤◌, Bool, true, false, not, List, [], ◌∷◌, ◌++◌, refl, ap, sym, subst, inl, inr, arith, ltb-true, ltb-false}
use Rattle.std.specs.Prelude.{Option, nat_lt}
use Rattle.std.specs.List.{list_all}
use Rattle.std.proofs.lemmas.Bool.{and_parts}
use Rattle.std.proofs.lemmas.List.{append-nil}
use Rattle.std.proofs.lemmas.List.Folds.{list_all-append}
use Rattle.chan_types.specs.declared.journal.Entry.{Entry}
use Rattle.net_world.specs.Logs.{LogGets}
use Rattle.net_world.specs.declared.answers.Waited.TheVariants.{Failed as NotWaited, Woken as WasWoken}
use Rattle.net_world.specs.declared.log.WorldCall.{WorldCall}
use Rattle.net_world.specs.declared.log.WorldCall.TheVariants.{Wait}
use Rattle.channel_model.proofs.Theorems.{course_reads, so_far_reads}
use Rattle.channel_model.specs.Course.{IsCourse, is_of_turn, standing_after}
use Rattle.channel_model.specs.Endings.{turns_in}
use Rattle.channel_model.specs.Journal.{past_of}
use Rattle.channel_model.specs.Stretch.{Standing, beginning, behind}
use Rattle.channel_model.specs.Turn.{IsTurn}
use Rattle.channel_progress.specs.Waking.{NoWaitFailed}
use Rattle.channel_table.specs.Calling.{Owned, known_by_owner}
use Rattle.event_runner.proofs.Theorems.{told_as, told_both, told_by, told_trans}
use Rattle.event_runner.specs.declared.answers.Paused.{Paused}
use Rattle.event_runner.specs.declared.answers.Paused.TheVariants.{Skipped, WaitFault, Woken}
use Rattle.event_runner.specs.declared.answers.Turned.{Turned}
use Rattle.event_runner.specs.Goes.{Goes, Leads, Leaves, Stops}
use Rattle.event_runner.specs.Running.{HasWaited, PausesBy, Running, run_of, wakes_by}
use Rattle.event_runner.specs.State.{Holds, IsTurnOwner}
use Rattle.event_runner.specs.Turning.{IsCutShort, MakesTurn}
use Rattle.event_runner.specs.UnderWay.{IsUnderWay, RanSince, RunsSince, IsSoFar, following, rested}
use Rattle.owner_laws.proofs.Owner.{paused_same, waited_same}
use Rattle.owner_laws.specs.Sessions.{BeginsPending, BeginsSoFar, EndsWithFailedWait, FirstTurn, longest_slice}
use Rattle.owner_laws.proofs.Begun.{IsAsked, begins_behind, begins_cut, begins_first, begins_on, first_here}
use Rattle.owner_laws.proofs.Waits.{begun_waits, cut_short_waits, failed_last, failed_none, failed_woken, turn_waits, unbegun_waits}

-- the first of so many turns, if there is one, began where a request was pending
abbrev pub AreBegun : ℕ → Owned → List WorldCall → Type 0
AreBegun turns channel calls = 1 ≤ turns → BeginsPending channel.setting channel.seen calls

-- the first turn, if the calls have one, began so, whole or cut short
abbrev pub IsBegunSoFar : Owned → List WorldCall → Type 0
IsBegunSoFar channel calls = 1 ≤ turns_in calls → BeginsSoFar channel.setting channel.seen calls

-- since a run began that want of memory ended, and whose owner makes all turns: no wait failed, and the first turn began so
abbrev pub EndsWell : Owned → Option (List WorldCall) → Option (List WorldCall) → Type 0
EndsWell channel log_old log_new = LogGets (λ calls. IsTurnOwner (known_by_owner channel) → NoWaitFailed calls × IsBegunSoFar channel calls) log_old log_new

-- since a run began, which made so many turns, and whose owner makes them all: no wait failed, and the first turn began so
abbrev pub RunsWell : ℕ → Owned → Option (List WorldCall) → Option (List WorldCall) → Type 0
RunsWell turns channel log_old log_new = LogGets (λ calls. IsTurnOwner (known_by_owner channel) → NoWaitFailed calls × AreBegun turns channel calls) log_old log_new

-- who owns the turns of a journal owned those of its beginning
owner_first : (a b : Owned) (es : List Entry) → b.seen ≡ a.seen ++ es → IsTurnOwner (known_by_owner b) → IsTurnOwner (known_by_owner a)
owner_first a b es seen owner =
    let test : Entry → Bool = λ entry. not (is_of_turn entry) || (entry.seat == 0) in
    (and_parts (list_all test a.seen) (list_all test es) (sym (list_all-append test a.seen es) ∙ ap (list_all test) (sym seen) ∙ owner)).0

-- no turn was made
pub well_begun : (a : Owned) (r : Running) (l m : Option (List WorldCall)) → RunsSince longest_slice 0 0 rested (known_by_owner a) r l m → RunsWell 0 a l m
well_begun a r l m =
    told_as (λ calls. IsTurnOwner (known_by_owner a) → IsUnderWay longest_slice 0 0 rested (known_by_owner a) r calls) (λ calls. IsTurnOwner (known_by_owner a) → NoWaitFailed calls × AreBegun 0 a calls)
    (λ calls way owner. (begun_waits a.setting 0 longest_slice a.seen calls 0 refl (way owner).course, λ some. absurd (omega (arith, some)))) l m

-- nor will one be, for want of memory
pub well_unbegun : (a : Owned) (l m : Option (List WorldCall)) → RanSince longest_slice 0 0 (known_by_owner a) l m → EndsWell a l m
well_unbegun a l m =
    told_as (λ calls. IsTurnOwner (known_by_owner a) → IsSoFar longest_slice 0 0 (known_by_owner a) calls) (λ calls. IsTurnOwner (known_by_owner a) → NoWaitFailed calls × IsBegunSoFar a calls)
    (λ calls far owner. let is = far owner in (
      unbegun_waits a.setting 0 longest_slice a.seen calls is.0 (omega (arith, is.1)) is.2,
      λ some. absurd (omega (arith, some, is.1, so_far_reads a.setting 0 longest_slice a.seen calls is.0 0 is.2)),
    )) l m

module _ (turns : ℕ) (b : Owned) (l m : Option (List WorldCall)) (well : RunsWell turns b l m) where
  -- want of memory came behind a turn
  pub well_so_far : 1 ≤ turns → EndsWell b l m
  well_so_far some =
      told_as (λ calls. IsTurnOwner (known_by_owner b) → NoWaitFailed calls × AreBegun turns b calls) (λ calls. IsTurnOwner (known_by_owner b) → NoWaitFailed calls × IsBegunSoFar b calls)
      (λ calls well owner. let was = well owner in (was.0, λ any. inl (was.1 some))) l m well

  module _ (c : Owned) where
    -- the journal went on
    pub well_behind : (es : List Entry) → c.setting ≡ b.setting → c.seen ≡ b.seen ++ es → RunsWell turns c l m
    well_behind es setting seen =
        told_as (λ calls. IsTurnOwner (known_by_owner b) → NoWaitFailed calls × AreBegun turns b calls) (λ calls. IsTurnOwner (known_by_owner c) → NoWaitFailed calls × AreBegun turns c calls)
        (λ calls well owner.
        let was = well (owner_first b c es seen owner) in (
          was.0,
          λ some.
              subst (λ s. BeginsPending s c.seen calls) (sym setting) (subst (λ journal. BeginsPending b.setting journal calls) (sym seen) (begins_behind b.setting b.seen es calls (was.1 some))),
        )) l m well

    module _ (r s : Running) (n : Option (List WorldCall)) (since : RunsSince longest_slice turns 0 following (known_by_owner b) r l m) where
      -- what the runner holds where a turn begins
      held : (calls : List WorldCall) (way : IsUnderWay longest_slice turns 0 following (known_by_owner b) r calls) →
          Holds (run_of (known_by_owner b) r m) (standing_after (behind beginning way.course.first) way.course.rounds)
      held calls way = record { fits = way.holds.fits; mixes = way.holds.mixes; told = way.holds.told }

      abbrev Both : List WorldCall → Type 0
      Both calls = (IsTurnOwner (known_by_owner b) → IsUnderWay longest_slice turns 0 following (known_by_owner b) r calls) × (IsTurnOwner (known_by_owner b) → NoWaitFailed calls × AreBegun turns b calls)

      both : LogGets Both l m
      both =
          told_both (λ calls. IsTurnOwner (known_by_owner b) → IsUnderWay longest_slice turns 0 following (known_by_owner b) r calls)
          (λ calls. IsTurnOwner (known_by_owner b) → NoWaitFailed calls × AreBegun turns b calls) l m since well

      -- a turn was made where a request is pending
      pub well_turned : (answer : Turned) → Goes (MakesTurn answer) (run_of (known_by_owner b) r m) (run_of (known_by_owner c) s n) → IsAsked b → RunsWell (turns + 1) c l n
      well_turned answer goes asked =
          let es : List Entry = goes.goes_on.since in
          told_trans Both (λ calls. IsTurnOwner (known_by_owner c) → Leads (MakesTurn answer) (run_of (known_by_owner b) r m) (run_of (known_by_owner c) s n) es calls)
          (λ calls. IsTurnOwner (known_by_owner c) → NoWaitFailed calls × AreBegun (turns + 1) c calls)
          (λ cs ds was leads owner.
          let owned = owner_first b c es goes.goes_on.seen owner in
          let way = was.0 owned in
          let to = leads owner (standing_after (behind beginning way.course.first) way.course.rounds) (held cs way) in
          let whole = subst (λ journal. list_all (λ entry. not (is_of_turn entry) || (entry.seat == 0)) journal ≡ true) goes.goes_on.seen owner in (
            failed_none cs (was.1 owned).0 ds (turn_waits b.setting 0 answer.reading _ es ds to.0 to.1.turn),
            λ some.
                subst (λ s. BeginsPending s c.seen (cs ++ ds)) (sym goes.goes_on.desk.setting)
                (subst (λ journal. BeginsPending b.setting journal (cs ++ ds)) (sym goes.goes_on.seen)
                (by es cs ds (was.1 owned).1 answer.reading to.0 whole way.course to.1.turn (nat_lt 0 turns) refl)),
          ))
          l m n both goes.told
        where
          by : (es : List Entry) (cs ds : List WorldCall) → AreBegun turns b cs → (reading : ℕ) (new : Standing) → list_all (λ entry. not (is_of_turn entry) || (entry.seat == 0)) (b.seen ++ es) ≡ true →
              (course : IsCourse b.setting 0 longest_slice b.seen cs turns 0) → IsTurn b.setting 0 reading (standing_after (behind beginning course.first) course.rounds) es ds new →
              (some : Bool) → nat_lt 0 turns ≡ some → BeginsPending b.setting (b.seen ++ es) (cs ++ ds)
          by es cs ds begun reading new whole course turn true is = begins_on b.setting (b.seen ++ es) cs ds (begins_behind b.setting b.seen es cs (begun (ltb-true 0 turns is)))
          by es cs ds begun reading new whole course turn false is =
              begins_first b.setting (b.seen ++ es) (cs ++ ds) (first_here b.setting b.seen es cs ds reading new asked.0 asked.1 whole turns (omega (arith, ltb-false 0 turns is)) course turn)

      -- and it is the first one
      pub first_turned : (answer : Turned) → Goes (MakesTurn answer) (run_of (known_by_owner b) r m) (run_of (known_by_owner c) s n) → IsAsked b → turns ≡ 0 →
          LogGets (λ calls. IsTurnOwner (known_by_owner c) → FirstTurn c.setting c.seen calls) l n
      first_turned answer goes asked first =
          let es : List Entry = goes.goes_on.since in
          told_trans Both (λ calls. IsTurnOwner (known_by_owner c) → Leads (MakesTurn answer) (run_of (known_by_owner b) r m) (run_of (known_by_owner c) s n) es calls)
          (λ calls. IsTurnOwner (known_by_owner c) → FirstTurn c.setting c.seen calls)
          (λ cs ds was leads owner.
          let way = was.0 (owner_first b c es goes.goes_on.seen owner) in
          let to = leads owner (standing_after (behind beginning way.course.first) way.course.rounds) (held cs way) in
          let whole = subst (λ journal. list_all (λ entry. not (is_of_turn entry) || (entry.seat == 0)) journal ≡ true) goes.goes_on.seen owner in
          subst (λ s. FirstTurn s c.seen (cs ++ ds)) (sym goes.goes_on.desk.setting)
          (subst (λ journal. FirstTurn b.setting journal (cs ++ ds)) (sym goes.goes_on.seen)
          (first_here b.setting b.seen es cs ds answer.reading to.0 asked.0 asked.1 whole turns first way.course to.1.turn)))
          l m n both goes.told

      -- a turn was cut short, or wasn't begun, where a request is pending
      pub well_cut : Stops IsCutShort (run_of (known_by_owner b) r m) (run_of (known_by_owner c) s n) → IsAsked b → EndsWell c l n
      well_cut stops asked =
          let es : List Entry = stops.goes_on.since in
          told_trans Both (λ calls. IsTurnOwner (known_by_owner c) → Leaves IsCutShort (run_of (known_by_owner b) r m) es calls) (λ calls. IsTurnOwner (known_by_owner c) → NoWaitFailed calls × IsBegunSoFar c calls)
          (λ cs ds was leaves owner.
          let owned = owner_first b c es stops.goes_on.seen owner in
          let way = was.0 owned in
          let short = leaves owner (standing_after (behind beginning way.course.first) way.course.rounds) (held cs way) in (
            failed_none cs (was.1 owned).0 ds (cut_short_waits b.setting 0 _ es ds short),
            λ some.
                subst (λ s. BeginsSoFar s c.seen (cs ++ ds)) (sym stops.goes_on.desk.setting)
                (subst (λ journal. BeginsSoFar b.setting journal (cs ++ ds)) (sym stops.goes_on.seen)
                (by es cs ds (was.1 owned).1 way.course short some (subst (λ journal. list_all (λ entry. not (is_of_turn entry) || (entry.seat == 0)) journal ≡ true) stops.goes_on.seen owner) (nat_lt 0 turns) refl)),
          ))
          l m n both stops.told
        where
          by : (es : List Entry) (cs ds : List WorldCall) → AreBegun turns b cs → (course : IsCourse b.setting 0 longest_slice b.seen cs turns 0) →
              IsCutShort b.setting 0 (standing_after (behind beginning course.first) course.rounds) es ds → 1 ≤ turns_in (cs ++ ds) → list_all (λ entry. not (is_of_turn entry) || (entry.seat == 0)) (b.seen ++ es) ≡ true → (is_first : Bool) → nat_lt 0 turns ≡ is_first → BeginsSoFar b.setting (b.seen ++ es) (cs ++ ds)
          by es cs ds begun course short some whole true is = inl (begins_on b.setting (b.seen ++ es) cs ds (begins_behind b.setting b.seen es cs (begun (ltb-true 0 turns is))))
          by es cs ds begun course (inl none) some whole false is =
              absurd (omega (arith, some, ap (λ l. turns_in (cs ++ l)) none.1 ∙ ap turns_in (append-nil cs), course_reads b.setting 0 longest_slice b.seen cs turns 0 course, ltb-false 0 turns is))
          by es cs ds begun course (inr cut) some whole false is = inr (begins_cut b.setting b.seen es cs ds cut.0 asked.0 asked.1 whole turns (omega (arith, ltb-false 0 turns is)) course cut.1)

    module _ (n : Option (List WorldCall)) (latest : ℕ) where
      -- a wait failed
      pub well_failed : HasWaited latest NotWaited (known_by_owner b) (known_by_owner c) m n → LogGets (λ calls. IsTurnOwner (known_by_owner c) → EndsWithFailedWait calls × AreBegun turns c calls) l n
      well_failed waited =
          let call : WorldCall = Wait (wakes_by b.setting latest (past_of c.seen)) NotWaited in
          told_trans (λ calls. IsTurnOwner (known_by_owner b) → NoWaitFailed calls × AreBegun turns b calls) (λ calls. calls ≡ call ∷ [])
          (λ calls. IsTurnOwner (known_by_owner c) → EndsWithFailedWait calls × AreBegun turns c calls)
          (λ cs ds was is owner.
          let same : c ≡ b = waited_same latest NotWaited b c m n waited in
          let well = was (subst (λ d. IsTurnOwner (known_by_owner d)) same owner) in (
            subst (λ l. EndsWithFailedWait (cs ++ l)) (sym is) (failed_last cs well.0 _),
            λ some.
                subst (λ d. BeginsPending d.setting d.seen (cs ++ ds)) (sym same) (begins_on b.setting b.seen cs ds (well.1 some)),
          ))
          l m n well (told_by (λ calls. calls ≡ call ∷ []) (call ∷ []) refl m n waited.waits)

      -- a pause, in which none failed
      pub well_paused : (answer : Paused) → answer ≢ WaitFault → PausesBy latest answer (known_by_owner b) (known_by_owner c) m n → RunsWell turns c l n
      well_paused Skipped other pauses =
          subst (λ k. RunsWell turns c l k) (sym pauses.no_call)
          (subst (λ d. RunsWell turns d l m) (sym (paused_same latest Skipped b c m n pauses)) well)
      well_paused WaitFault other pauses = absurd (other refl)
      well_paused Woken other pauses =
          let call : WorldCall = Wait (wakes_by b.setting latest (past_of c.seen)) WasWoken in
          told_trans (λ calls. IsTurnOwner (known_by_owner b) → NoWaitFailed calls × AreBegun turns b calls) (λ calls. calls ≡ call ∷ [])
          (λ calls. IsTurnOwner (known_by_owner c) → NoWaitFailed calls × AreBegun turns c calls)
          (λ cs ds was is owner.
          let same : c ≡ b = paused_same latest Woken b c m n pauses in
          let well = was (subst (λ d. IsTurnOwner (known_by_owner d)) same owner) in (
            subst (λ l. NoWaitFailed (cs ++ l)) (sym is) (failed_woken cs well.0 _),
            λ some.
                subst (λ d. BeginsPending d.setting d.seen (cs ++ ds)) (sym same) (begins_on b.setting b.seen cs ds (well.1 some)),
          ))
          l m n well (told_by (λ calls. calls ≡ call ∷ []) (call ∷ []) refl m n pauses.waits)
