-- A whole course that stalled: at most as many turns as twice the attempts allowed, the items received, and two for each gap in which a request is accepted unprompted.
use Rattle.std.proofs.Common.{◌≡◌, ◌∙◌, ℕ, ◌+◌, ◌*◌, ◌-◌, ◌^◌, ◌≤◌, true, false, List, [], ◌∷◌, ◌++◌, ap, sym, subst, cond, arith, length, ⊎_elim}
use Rattle.std.proofs.lemmas.Bool.{or_cases}
use Rattle.std.proofs.lemmas.List.{append_assoc}
use Rattle.std.proofs.lemmas.List.Sums.{sum_by-append, sum_by-cons}
use Rattle.std.specs.List.{list_any}
use Rattle.std.specs.Prelude.{filter_map, flat_map, option_to_list}
use Rattle.chan_types.specs.declared.journal.Entry.{Entry}
use Rattle.chan_types.specs.declared.journal.What.{What}
use Rattle.net_world.specs.Cause.{is_not_waited}
use Rattle.net_world.specs.declared.log.WorldCall.{WorldCall}
use Rattle.channel_model.proofs.Theorems.{followed_by-append, turn_agrees}
use Rattle.channel_model.specs.Course.{AreTurns, Round, calls_of, calls_of_rest, entries_of, readings}
use Rattle.channel_model.specs.Endings.{somewhere_behind, waited_by}
use Rattle.channel_model.specs.Journal.{Past, accepted, accepted_by, followed_by, past_of}
use Rattle.channel_model.specs.Setting.{Setting}
use Rattle.channel_model.specs.Stretch.{Standing, beginning, behind}
use Rattle.channel_model.specs.Turn.{received_in, somewhere}
use Rattle.channel_progress.specs.Allowed.{attempts_of_request}
use Rattle.channel_progress.specs.Prompted.{is_unprompted, unprompted_in}
use Rattle.channel_progress.specs.Waking.{wakes_in_time}
use Rattle.channel_progress.proofs.EntryLemmas.{entries_keep, entry_keeps, some_left}
use Rattle.channel_progress.proofs.FallLemmas.{Keeps}
use Rattle.channel_progress.proofs.FitLemmas.{IsFit, fit_before}
use Rattle.channel_progress.proofs.GapLemmas.{is_some_pending, some_there}
use Rattle.channel_progress.proofs.LeftLemmas.{attempts_so_far, left_in}
use Rattle.channel_progress.proofs.OfPartLemmas.{AreOfSeat, of_seat-append, received_in-append}
use Rattle.channel_progress.proofs.RoundLemmas.{restless, restless_few, turn_counts}
use Rattle.channel_progress.proofs.WakeLemmas.{failed_behind, wakes_behind}

module _ (setting : Setting) (end : Past) where
  -- requests that were accepted stay so
  allowed_grows : (what : What) (past : Past) → attempts_so_far setting end past ≤ attempts_so_far setting end (what ∷ past)
  allowed_grows what past = omega (arith, sum_by-append (attempts_of_request setting end) (accepted past) (option_to_list (accepted_by what)))

  -- nor do any entries take one back
  allowed_later : (past : Past) (entries : List Entry) → attempts_so_far setting end past ≤ attempts_so_far setting end (followed_by past entries)
  allowed_later past [] = omega arith
  allowed_later past (entry ∷ entries) = omega (arith, allowed_grows entry.what past, allowed_later (entry.what ∷ past) entries)

  -- where a request is pending at a position behind a past, an attempt is left to what was accepted up to the end
  left_behind : (past : Past) (entries : List Entry) → IsFit setting end (followed_by past entries) → somewhere (is_some_pending setting) past entries ≡ true
      → 1 + attempts_so_far setting end past ≤ left_in setting end past + attempts_so_far setting end (followed_by past entries)
  left_behind past [] fit e = let there = some_there _ e in omega (arith, some_left setting end past there.0 fit there.1)
  left_behind past (entry ∷ entries) fit e = ⊎_elim
      (λ (here : is_some_pending setting past ≡ true). let there = some_there _ here in
      omega (arith, some_left setting end past there.0 (fit_before setting end past (entry ∷ entries) fit) there.1, allowed_later past (entry ∷ entries)))
      (λ (later : somewhere (is_some_pending setting) (entry.what ∷ past) entries ≡ true).
      let keeps = entry_keeps setting end entry.what past (fit_before setting end (entry.what ∷ past) entries fit) in
      omega (arith, keeps.less, left_behind (entry.what ∷ past) entries fit later))
      (or_cases (is_some_pending setting past) (somewhere (is_some_pending setting) (entry.what ∷ past) entries) e)

  module _ (seat : ℕ) (fit_end : IsFit setting end end) where
    -- so many turns were made up to a round, against so much else
    abbrev Made : ℕ → ℕ → Past → Type 0
    Made turns against past = turns + restless setting past + 2 * left_in setting end past ≤ against + 2 * attempts_so_far setting end past

    -- from one round on, over all that follow
    pub bound : (rounds : List Round) (round : Round) (standing : Standing) (first : List Entry) (turns against : ℕ)
        → AreTurns setting seat (2 ^ 64 - 1) standing (round ∷ rounds)
        → AreOfSeat seat (flat_map entries_of rounds)
        → end ≡ followed_by (followed_by round.new.past round.between) (flat_map entries_of rounds)
        → wakes_in_time (calls_of_rest round.rest ++ flat_map calls_of rounds) ≡ true
        → list_any is_not_waited (filter_map waited_by (calls_of_rest round.rest ++ flat_map calls_of rounds)) ≡ false
        → somewhere_behind (is_some_pending setting) first (round ∷ rounds) ≡ true
        → Made turns against round.new.past
        → turns + length rounds + 2 ≤ against + received_in (flat_map calls_of rounds) + 2 * unprompted_in setting (round ∷ rounds) + 2 * attempts_so_far setting end end
    bound [] round standing first turns against are own reaches wakes failed pends made =
        let left = left_behind round.new.past round.between (subst (IsFit setting end) reaches fit_end) pends in
        let same : attempts_so_far setting end end ≡ attempts_so_far setting end (followed_by round.new.past round.between) = ap (attempts_so_far setting end) reaches in
        omega (arith, made, left, same)
    bound (next ∷ rounds) round standing first turns against are own reaches wakes failed pends made =
        let here : Past = followed_by round.new.past round.between in
        let turn = are.4.0 in
        let parts = of_seat-append seat (next.entries ++ next.between) (flat_map entries_of rounds) own in
        let turned : next.new.past ≡ followed_by here next.entries = (turn_agrees setting seat next.reading (behind round.new round.between) next.entries next.calls next.new turn).past_is in
        let reaches_next : end ≡ followed_by (followed_by next.new.past next.between) (flat_map entries_of rounds) =
        reaches ∙ followed_by-append here (next.entries ++ next.between) (flat_map entries_of rounds)
        ∙ ap (λ p. followed_by p (flat_map entries_of rounds)) (followed_by-append here next.entries next.between ∙ ap (λ p. followed_by p next.between) (sym turned)) in
        let fit : IsFit setting end next.new.past = fit_before setting end next.new.past next.between (fit_before setting end (followed_by next.new.past next.between) (flat_map entries_of rounds) (subst (IsFit setting end) reaches_next fit_end)) in
        let rest : List WorldCall = calls_of_rest next.rest ++ flat_map calls_of rounds in
        let regroup : flat_map calls_of (next ∷ rounds) ≡ next.calls ++ (readings next.asides ++ rest) =
        append_assoc (next.calls ++ readings next.asides) (calls_of_rest next.rest) (flat_map calls_of rounds) ∙ append_assoc next.calls (readings next.asides) rest in
        let wakes_all : wakes_in_time (calls_of_rest round.rest ++ (next.calls ++ (readings next.asides ++ rest))) ≡ true = subst (λ l. wakes_in_time (calls_of_rest round.rest ++ l) ≡ true) regroup wakes in
        let failed_all : list_any is_not_waited (filter_map waited_by (calls_of_rest round.rest ++ (next.calls ++ (readings next.asides ++ rest)))) ≡ false =
        subst (λ l. list_any is_not_waited (filter_map waited_by (calls_of_rest round.rest ++ l)) ≡ false) regroup failed in
        let counts = turn_counts setting end seat round next (readings next.asides ++ rest) turn are.1 are.2 are.3 (of_seat-append seat next.entries next.between parts.0).0 fit wakes_all failed_all in
        let further = bound rounds next (behind round.new round.between) first (turns + 1) (against + received_in next.calls + 2 * cond (is_unprompted setting round) 1 0) are.4 parts.1 reaches_next
        (wakes_behind (readings next.asides) rest (wakes_behind next.calls (readings next.asides ++ rest) (wakes_behind (calls_of_rest round.rest) (next.calls ++ (readings next.asides ++ rest)) wakes_all)))
        (failed_behind (readings next.asides) rest (failed_behind next.calls (readings next.asides ++ rest) (failed_behind (calls_of_rest round.rest) (next.calls ++ (readings next.asides ++ rest)) failed_all)))
        pends (omega (arith, made, counts.few)) in
        omega (
          arith,
          further,
          ap received_in regroup,
          received_in-append next.calls (readings next.asides ++ rest),
          received_in-append (readings next.asides) rest,
          received_in-append (calls_of_rest next.rest) (flat_map calls_of rounds),
          sum_by-cons (λ r. cond (is_unprompted setting r) 1 0) round (next ∷ rounds),
        )

  -- of a whole course
  pub course_bound : (seat : ℕ) (rounds : List Round) (first : List Entry) (journal : List Entry) (before log : List WorldCall)
      → end ≡ past_of journal → IsFit setting end end → AreOfSeat seat journal → journal ≡ first ++ flat_map entries_of rounds → log ≡ before ++ flat_map calls_of rounds
      → AreTurns setting seat (2 ^ 64 - 1) (behind beginning first) rounds → wakes_in_time log ≡ true → list_any is_not_waited (filter_map waited_by log) ≡ false
      → somewhere_behind (is_some_pending setting) first rounds ≡ true
      → length rounds ≤ 2 * attempts_so_far setting end end + received_in log + 2 * unprompted_in setting rounds
  course_bound seat [] first journal before log ends fit own is told are wakes failed pends =
      let left = left_behind [] first (fit_before setting end (followed_by [] first) [] (subst (IsFit setting end) (ends ∙ ap past_of is ∙ followed_by-append [] first []) fit)) pends in
      let grown = allowed_later (followed_by [] first) [] in
      let same : attempts_so_far setting end end ≡ attempts_so_far setting end (followed_by [] first) = ap (attempts_so_far setting end) (ends ∙ ap past_of is ∙ followed_by-append [] first []) in
      omega (arith, left, same)
  course_bound seat (round ∷ rounds) first journal before log ends fit own is told are wakes failed pends =
      let start : Past = followed_by [] first in
      let turned : round.new.past ≡ followed_by start round.entries = (turn_agrees setting seat round.reading (behind beginning first) round.entries round.calls round.new are.0).past_is in
      let reaches : end ≡ followed_by (followed_by round.new.past round.between) (flat_map entries_of rounds) =
      ends ∙ ap past_of is ∙ followed_by-append [] first ((round.entries ++ round.between) ++ flat_map entries_of rounds)
      ∙ followed_by-append start (round.entries ++ round.between) (flat_map entries_of rounds)
      ∙ ap (λ p. followed_by p (flat_map entries_of rounds)) (followed_by-append start round.entries round.between ∙ ap (λ p. followed_by p round.between) (sym turned)) in
      let fit_turn : IsFit setting end round.new.past = fit_before setting end round.new.past round.between (fit_before setting end (followed_by round.new.past round.between) (flat_map entries_of rounds) (subst (IsFit setting end) reaches fit)) in
      let fit_all : IsFit setting end (followed_by start round.entries) = subst (IsFit setting end) turned fit_turn in
      let keeps_first = entries_keep setting end [] first (fit_before setting end start round.entries fit_all) in
      let keeps_turn : Keeps setting end start round.new.past = subst (Keeps setting end start) (sym turned) (entries_keep setting end start round.entries fit_all) in
      let parts = of_seat-append seat (round.entries ++ round.between) (flat_map entries_of rounds) (of_seat-append seat first ((round.entries ++ round.between) ++ flat_map entries_of rounds) (subst (AreOfSeat seat) is own)).1 in
      let rest : List WorldCall = calls_of_rest round.rest ++ flat_map calls_of rounds in
      let regroup : log ≡ before ++ (round.calls ++ (readings round.asides ++ rest)) =
      told ∙ ap (λ l. before ++ l) (append_assoc (round.calls ++ readings round.asides) (calls_of_rest round.rest) (flat_map calls_of rounds) ∙ append_assoc round.calls (readings round.asides) rest) in
      let wakes_all : wakes_in_time (before ++ (round.calls ++ (readings round.asides ++ rest))) ≡ true = subst (λ l. wakes_in_time l ≡ true) regroup wakes in
      let failed_all : list_any is_not_waited (filter_map waited_by (before ++ (round.calls ++ (readings round.asides ++ rest)))) ≡ false = subst (λ l. list_any is_not_waited (filter_map waited_by l) ≡ false) regroup failed in
      let counted = bound seat fit rounds round (behind beginning first) first 1 (received_in round.calls + 2) are parts.1 reaches
      (wakes_behind (readings round.asides) rest (wakes_behind round.calls (readings round.asides ++ rest) (wakes_behind before (round.calls ++ (readings round.asides ++ rest)) wakes_all)))
      (failed_behind (readings round.asides) rest (failed_behind round.calls (readings round.asides ++ rest) (failed_behind before (round.calls ++ (readings round.asides ++ rest)) failed_all)))
      pends (omega (arith, keeps_first.less, keeps_turn.less, restless_few setting round.new.past)) in
      omega (
        arith,
        counted,
        ap received_in regroup,
        received_in-append before (round.calls ++ (readings round.asides ++ rest)),
        received_in-append round.calls (readings round.asides ++ rest),
        received_in-append (readings round.asides) rest,
        received_in-append (calls_of_rest round.rest) (flat_map calls_of rounds),
      )
