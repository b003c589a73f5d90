-- Turn by turn: how many turns are made, against what was received, the attempts left, and the requests that were accepted between turns.
use Rattle.std.proofs.Common.{◌≡◌, ◌∙◌, ℕ, ◌+◌, ◌*◌, ◌-◌, ◌^◌, ◌≤◌, ◌<◌, suc, zero, Bool, true, false, List, [], ◌∷◌, ◌++◌, Option, Some, None, refl, ap, sym, subst, cond, arith, length, inl, inr, ⊎_elim, eqb-true}
use Rattle.std.proofs.lemmas.Bool.{and_from, and_parts, cases_Bool, le-ltb, ltb-false, not-true, or_cases, or_left, or_right}
use Rattle.std.specs.List.{list_any}
use Rattle.std.specs.Prelude.{IfSome, filter_map, nat_lt, not, ◌&&◌, ◌==◌, ◌||◌}
use Rattle.chan_types.specs.declared.journal.Entry.{Entry}
use Rattle.net_world.specs.Cause.{is_not_waited}
use Rattle.net_world.specs.declared.log.WorldCall.{WorldCall}
use Rattle.net_world.specs.declared.log.WorldCall.TheVariants.{Wait}
use Rattle.channel_model.proofs.Theorems.{holds-somewhere, turn_agrees}
use Rattle.channel_model.specs.Completion.{pending, ready, waiting}
use Rattle.channel_model.specs.Course.{Rest, Round, Test, calls_of_rest, goes_on, has_no_turn, has_none_of, is_timely, rests_there, skips, soon, wakes_at}
use Rattle.channel_model.specs.Endings.{waited_by}
use Rattle.channel_model.specs.Flight.{in_flight}
use Rattle.channel_model.specs.Journal.{Past, followed_by}
use Rattle.channel_model.specs.Lawful.{Due, first_due}
use Rattle.channel_model.specs.Setting.{Setting}
use Rattle.channel_model.specs.Stretch.{behind}
use Rattle.channel_model.specs.Turn.{IsTurn, NoneDue, most_entries, received_in, somewhere}
use Rattle.channel_progress.specs.Prompted.{accepts_some, is_unprompted}
use Rattle.channel_progress.specs.Waking.{wakes_in_time}
use Rattle.channel_progress.proofs.EntryLemmas.{entries_keep}
use Rattle.channel_progress.proofs.FallLemmas.{Falls, Keeps}
use Rattle.channel_progress.proofs.FitLemmas.{IsFit, fit_before}
use Rattle.channel_progress.proofs.GapLemmas.{AreTakes, is_none_ready, is_some_pending, pends_before, takes_all, takes_none, takes_or_falls}
use Rattle.channel_progress.proofs.WaitLemmas.{Waits, waits}
use Rattle.channel_progress.proofs.LeftLemmas.{attempts_so_far, left_in}
use Rattle.channel_progress.proofs.ListLemmas.{Has, length-none}
use Rattle.channel_progress.proofs.OfPartLemmas.{AreOfSeat}
use Rattle.channel_progress.proofs.TurnLemmas.{IsCalm, IsQuiet, turn_says}
use Rattle.channel_progress.proofs.WakeLemmas.{in_time_behind, late_reading, turn_receives}

module _ (setting : Setting) where
  -- nothing is ready, and no attempt can start
  abbrev pub is_settled : Past → Bool
  is_settled past = (length (ready setting past) == 0) && ((length (waiting setting past) == 0) || not (nat_lt (length (in_flight setting past)) most_entries))

  -- a turn more that a past may need, where it isn't settled
  abbrev pub restless : Past → ℕ
  restless past = cond (is_settled past) 0 1

  -- it is one at most
  pub restless_few : (past : Past) → restless past ≤ 1
  restless_few past = by_test (is_settled past)
    where
      by_test : (b : Bool) → cond b 0 1 ≤ 1
      by_test true = omega arith
      by_test false = omega arith

  -- where no attempt can start, the test says so
  is_calm : (past : Past) → IsCalm setting past → ((length (waiting setting past) == 0) || not (nat_lt (length (in_flight setting past)) most_entries)) ≡ true
  is_calm past (inl none) = or_left (length (waiting setting past) == 0) _ (ap (λ l. length l == 0) none)
  is_calm past (inr many) = or_right (length (waiting setting past) == 0) _ (ap not (le-ltb (length (in_flight setting past)) most_entries many))

  -- and only there
  calm_says : (past : Past) → ((length (waiting setting past) == 0) || not (nat_lt (length (in_flight setting past)) most_entries)) ≡ true → IsCalm setting past
  calm_says past e = ⊎_elim
      (λ (none : (length (waiting setting past) == 0) ≡ true). inl (length-none (waiting setting past) (eqb-true (length (waiting setting past)) 0 none)))
      (λ (many : not (nat_lt (length (in_flight setting past)) most_entries) ≡ true). inr (ltb-false (length (in_flight setting past)) most_entries (not-true (nat_lt (length (in_flight setting past)) most_entries) many)))
      (or_cases (length (waiting setting past) == 0) (not (nat_lt (length (in_flight setting past)) most_entries)) e)

  -- a settled past
  settled_says : (past : Past) → is_settled past ≡ true → (ready setting past ≡ []) × IsCalm setting past
  settled_says past e =
      let parts = and_parts (length (ready setting past) == 0) ((length (waiting setting past) == 0) || not (nat_lt (length (in_flight setting past)) most_entries)) e in
      (length-none (ready setting past) (eqb-true (length (ready setting past)) 0 parts.0), calm_says past parts.1)

  -- needs no turn more
  settled_rests : (past : Past) → ready setting past ≡ [] → IsCalm setting past → restless past ≡ 0
  settled_rests past none calm = ap (λ b. cond b 0 1) (and_from (length (ready setting past) == 0) _ (ap (λ l. length l == 0) none) (is_calm past calm))

-- a test that holds here holds somewhere
somewhere-here : (test : Past → Bool) (past : Past) (es : List Entry) → test past ≡ true → somewhere test past es ≡ true
somewhere-here test past [] h = h
somewhere-here test past (e ∷ es) h = or_left (test past) (somewhere test (e.what ∷ past) es) h

-- where a run goes on behind a turn, there is a position at which nothing is ready, and one at which a request is pending
module _ (setting : Setting) (seat slice : ℕ) where
  abbrev wanted : Test
  wanted = λ here later. not (length (pending setting here) == 0) && has_none_of seat later

  wants : (past : Past) (es : List Entry) → soon seat wanted past es ≡ true → somewhere (is_some_pending setting) past es ≡ true
  wants = holds-somewhere (λ e. e.seat == seat) wanted (is_some_pending setting) (λ past es h. somewhere-here (is_some_pending setting) past es (and_parts (is_some_pending setting past) (has_none_of seat es) h).0)

  rests : (reading : ℕ) (rest : Option Rest) (past : Past) (es : List Entry) → rests_there setting seat slice reading rest wanted past es ≡ true → somewhere (is_some_pending setting) past es ≡ true
  rests reading None past es h = wants past es (and_parts (skips setting past) (soon seat wanted past es) h).1
  rests reading (Some r) past es h =
      let moment : Test = λ here later. (r.until == wakes_at setting reading slice here) && soon seat wanted here later in
      holds-somewhere (λ e. e.seat == seat) moment (is_some_pending setting)
      (λ p fs held. wants p fs (and_parts (r.until == wakes_at setting reading slice p) (soon seat wanted p fs) held).1) past es (and_parts (not (skips setting past)) (soon seat moment past es) h).1

  going : (round : Round) → goes_on setting seat slice round ≡ true → (somewhere (is_none_ready setting) round.new.past round.between ≡ true) × (somewhere (is_some_pending setting) round.new.past round.between ≡ true)
  going round goes =
      let there : Test = rests_there setting seat slice round.reading round.rest wanted in
      let all : Test = λ past es. is_none_ready setting past && soon seat there past es in (
        holds-somewhere (λ e. false) all (is_none_ready setting) (λ past es h. somewhere-here (is_none_ready setting) past es (and_parts (is_none_ready setting past) (soon seat there past es) h).0) round.new.past round.between goes,
        holds-somewhere (λ e. false) all (is_some_pending setting)
            (λ past es h. holds-somewhere (λ e. e.seat == seat) there (is_some_pending setting) (rests round.reading round.rest) past es (and_parts (is_none_ready setting past) (soon seat there past es) h).1)
            round.new.past round.between goes,
      )

module _ (setting : Setting) (end : Past) where
  -- a turn's number of steps, against what it received and the attempts left
  pub record Counts (round next : Round) : Type 0 where
    pub few : 1 + restless setting next.new.past + 2 * left_in setting end next.new.past + 2 * attempts_so_far setting end round.new.past
        ≤ received_in next.calls + 2 * left_in setting end round.new.past + 2 * attempts_so_far setting end next.new.past + restless setting round.new.past + 2 * cond (is_unprompted setting round) 1 0

module _ (setting : Setting) (end : Past) (seat : ℕ) (round next : Round) (later : List WorldCall)
    (turn : IsTurn setting seat next.reading (behind round.new round.between) next.entries next.calls next.new)
    (no_turn : has_no_turn round.between ≡ true) (timely : is_timely setting seat (2 ^ 64 - 1) round ≡ true) (goes : goes_on setting seat (2 ^ 64 - 1) round ≡ true)
    (own : AreOfSeat seat next.entries) (fit : IsFit setting end next.new.past)
    (wakes : wakes_in_time (calls_of_rest round.rest ++ (next.calls ++ later)) ≡ true)
    (failed : list_any is_not_waited (filter_map waited_by (calls_of_rest round.rest ++ (next.calls ++ later))) ≡ false) where
  -- the past behind the next turn
  turned : next.new.past ≡ followed_by (followed_by round.new.past round.between) next.entries
  turned = (turn_agrees setting seat next.reading (behind round.new round.between) next.entries next.calls next.new turn).past_is

  -- is lawful
  fit_turned : IsFit setting end (followed_by (followed_by round.new.past round.between) next.entries)
  fit_turned = subst (IsFit setting end) turned fit

  -- and so is the one before that turn
  fit_here : IsFit setting end (followed_by round.new.past round.between)
  fit_here = fit_before setting end (followed_by round.new.past round.between) next.entries fit_turned

  -- and the one behind this turn
  fit_last : IsFit setting end round.new.past
  fit_last = fit_before setting end round.new.past round.between fit_here

  -- between the two turns the attempts left grew by no more than what was accepted
  gap_keeps : Keeps setting end round.new.past (followed_by round.new.past round.between)
  gap_keeps = entries_keep setting end round.new.past round.between fit_here

  -- and in the next one too
  turn_keeps : Keeps setting end (followed_by round.new.past round.between) next.new.past
  turn_keeps = subst (Keeps setting end (followed_by round.new.past round.between)) (sym turned) (entries_keep setting end (followed_by round.new.past round.between) next.entries fit_turned)

  -- between them there is a position at which nothing is ready, and one at which a request is pending
  ready_and_pending : (somewhere (is_none_ready setting) round.new.past round.between ≡ true) × (somewhere (is_some_pending setting) round.new.past round.between ≡ true)
  ready_and_pending = going setting seat (2 ^ 64 - 1) round goes

  -- where the run waited, something was received, or an attempt was due
  waited : IsQuiet setting next.reading next.calls (followed_by round.new.past round.between) next.new.past → round.between ≡ [] → Waits setting round → received_in next.calls ≡ 0 → ⊥
  waited quiet alone w none =
      let calls : calls_of_rest round.rest ≡ Wait w.rest.until w.rest.outcome ∷ [] = ap calls_of_rest w.rests in
      let in_time = in_time_behind w.rest.until w.rest.outcome (next.calls ++ later) (subst (λ l. wakes_in_time (l ++ (next.calls ++ later)) ≡ true) calls wakes)
      (subst (λ l. list_any is_not_waited (filter_map waited_by (l ++ (next.calls ++ later))) ≡ false) calls failed) in
      let late = late_reading w.rest.until next.reading next.calls turn.made later turn.calls_are (turn_receives setting seat next.reading (behind round.new round.between) next.new next.entries next.calls turn) none in_time in
      let due : IfSome (first_due setting round.new.past) (λ due. next.reading < due.at) = subst (λ l. NoneDue setting next.reading (followed_by round.new.past l)) alone (quiet.none_due none) in
      let first : next.reading < w.due.at = subst (λ (o : Option Due). IfSome o (λ due. next.reading < due.at)) w.first due in
      omega (arith, late, first, w.until)

  -- something was received where it is absurd that nothing was
  some_received : (received_in next.calls ≡ 0 → ⊥) → 1 ≤ received_in next.calls
  some_received some = by_number (received_in next.calls) some
    where
      by_number : (n : ℕ) → (n ≡ 0 → ⊥) → 1 ≤ n
      by_number zero some = absurd (some refl)
      by_number (suc n) some = omega arith

  -- behind a quiet turn before which nothing was ready, nothing is, and no attempt can start
  quiet_rests : IsQuiet setting next.reading next.calls (followed_by round.new.past round.between) next.new.past → ready setting (followed_by round.new.past round.between) ≡ [] → restless setting next.new.past ≡ 0
  quiet_rests quiet none = settled_rests setting next.new.past (quiet.settles.ready_same ∙ none) quiet.settles.calm

  by_accepts : IsQuiet setting next.reading next.calls (followed_by round.new.past round.between) next.new.past → accepts_some round.between ≡ true → Counts setting end round next
  by_accepts quiet accepts = by_test (length (ready setting round.new.past) == 0) (length (ready setting (followed_by round.new.past round.between)) == 0) refl refl
    where
      unprompted : (b c : Bool) → (length (ready setting round.new.past) == 0) ≡ b → (length (ready setting (followed_by round.new.past round.between)) == 0) ≡ c → ◌≡◌ {A = ℕ} (cond (is_unprompted setting round) 1 0) (cond (b || not c) 1 0)
      unprompted b c is also = λ k. cond (accepts k && (is k || not (also k))) 1 0

      by_test : (b c : Bool) → (length (ready setting round.new.past) == 0) ≡ b → (length (ready setting (followed_by round.new.past round.between)) == 0) ≡ c → Counts setting end round next
      by_test true c is also = record { few = omega (arith, gap_keeps.less, turn_keeps.less, restless_few setting next.new.past, unprompted true c is also) }
      by_test false false is also = record { few = omega (arith, gap_keeps.less, turn_keeps.less, restless_few setting next.new.past, unprompted false false is also) }
      by_test false true is also =
          let restless_here : restless setting round.new.past ≡ 1 = ap (λ b. cond (b && ((length (waiting setting round.new.past) == 0) || not (nat_lt (length (in_flight setting round.new.past)) most_entries))) 0 1) is in
          let none = length-none (ready setting (followed_by round.new.past round.between)) (eqb-true (length (ready setting (followed_by round.new.past round.between))) 0 also) in
          record { few = omega (arith, gap_keeps.less, turn_keeps.less, restless_here, quiet_rests quiet none) }

  by_takes : IsQuiet setting next.reading next.calls (followed_by round.new.past round.between) next.new.past → (request : ℕ) → Has request (pending setting round.new.past) → AreTakes round.between → Counts setting end round next
  by_takes quiet request pends takes = by_test (is_settled setting round.new.past) refl
    where
      rests : restless setting next.new.past ≡ 0
      rests = quiet_rests quiet (takes_all setting end round.new.past round.between takes fit_here ready_and_pending.0)

      by_test : (b : Bool) → is_settled setting round.new.past ≡ b → Counts setting end round next
      by_test true is =
          let says = settled_says setting round.new.past is in
          let alone = takes_none setting end round.new.past round.between says.0 takes fit_here in
          let received = some_received (waited quiet alone (waits setting round request fit_last.lawful pends says.0 says.1 alone seat goes timely)) in
          record { few = omega (arith, gap_keeps.less, turn_keeps.less, rests, received) }
      by_test false is =
          let restless_here : restless setting round.new.past ≡ 1 = ap (λ b. cond b 0 1) is in
          record { few = omega (arith, gap_keeps.less, turn_keeps.less, rests, restless_here) }

  by_gap : IsQuiet setting next.reading next.calls (followed_by round.new.past round.between) next.new.past → accepts_some round.between ≡ false → Counts setting end round next
  by_gap quiet none =
      let pends = pends_before setting round.new.past round.between none ready_and_pending.1 in
      ⊎_elim
      (λ (falls : Falls setting end round.new.past (followed_by round.new.past round.between)). record { few = omega (arith, falls.less, turn_keeps.less, restless_few setting next.new.past) })
      (λ (takes : AreTakes round.between). by_takes quiet pends.0 pends.1 takes)
      (takes_or_falls setting end round.new.past round.between pends.0 no_turn none fit_here pends.1)

  -- each turn but the first is counted
  pub turn_counts : Counts setting end round next
  turn_counts = ⊎_elim
      (λ (falls : Falls setting end (followed_by round.new.past round.between) next.new.past). record { few = omega (arith, gap_keeps.less, falls.less, restless_few setting next.new.past) })
      (λ (quiet : IsQuiet setting next.reading next.calls (followed_by round.new.past round.between) next.new.past). ⊎_elim (by_accepts quiet) (by_gap quiet) (cases_Bool (accepts_some round.between)))
      (turn_says setting end seat next.reading (behind round.new round.between) next.new next.entries next.calls turn own fit)
