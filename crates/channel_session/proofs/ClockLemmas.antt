-- A reading of the clock that is no turn's, where a run stands.
use Rattle.std.proofs.Common.{◌≡◌, ◌∙◌, ℕ, ◌+◌, Bool, true, false, List, [], ◌∷◌, ◌++◌, length, refl, ap, sym, subst, arith}
use Rattle.std.specs.Prelude.{Err, None, Ok, Option, Result, Some, is_none, flat_map, ⊤}
use Rattle.std.proofs.lemmas.List.{append-nil, append_assoc, length-append, map-append}
use Rattle.std.proofs.lemmas.List.Sums.{sum_by-append, sum_by-cons}
use Rattle.item_list.specs.declared.no_memory.NoMemory.{NoMemory}
use Rattle.chan_types.specs.declared.journal.Entry.{Entry}
use Rattle.net_world.specs.Logs.{Logs}
use Rattle.net_world.specs.declared.log.WorldCall.{WorldCall}
use Rattle.net_world.specs.declared.log.WorldCall.TheVariants.{Now}
use Rattle.channel_model.specs.Course.{Round, asides_of, calls_of, calls_of_rest, entries_of, readings, serves_from, standing_after}
use Rattle.channel_model.specs.Known.{Known}
use Rattle.channel_model.specs.Setting.{Setting}
use Rattle.channel_model.specs.Stretch.{beginning, behind}
use Rattle.event_runner.proofs.GoesLemmas.{told_by, told_trans}
use Rattle.event_runner.proofs.RoundLemmas.{by_last, flat_last, last_or-snoc, standing_after-snoc, turns_last}
use Rattle.event_runner.proofs.RunLemmas.{facts_of, way_of}
use Rattle.event_runner.proofs.SoundLemmas.{Sound}
use Rattle.event_runner.proofs.UnderWayLemmas.{Facts}
use Rattle.event_runner.specs.Running.{Running}
use Rattle.event_runner.specs.State.{IsTurnOwner}
use Rattle.event_runner.specs.UnderWay.{IsUnderWay, Reach, has_come, rested, turned}
use Rattle.channel_session.proofs.BegunLemmas.{begun_on}
use Rattle.channel_session.specs.Sitting.{IsCount, ReadsClock, Sitting, longest_pause, reach_of}

-- the turn with one reading more behind it
abbrev read_behind : ℕ → Round → Round
read_behind reading round = record round { asides = round.asides ++ reading ∷ [] }

readings-snoc : (xs : List ℕ) (x : ℕ) → readings (xs ++ x ∷ []) ≡ readings xs ++ Now x ∷ []
readings-snoc xs x = map-append (λ moment. Now moment) xs (x ∷ [])

-- where there is no wait behind the turn, its calls are those, and then the reading
calls_read : (reading : ℕ) (round : Round) → is_none round.rest ≡ true → calls_of (read_behind reading round) ≡ calls_of round ++ Now reading ∷ []
calls_read reading round none = by round.rest none
  where
    by : (rest : _) → is_none rest ≡ true → round.calls ++ readings (round.asides ++ reading ∷ []) ++ calls_of_rest rest ≡ (round.calls ++ readings round.asides ++ calls_of_rest rest) ++ Now reading ∷ []
    by None is =
        append-nil (round.calls ++ readings (round.asides ++ reading ∷ []))
        ∙ ap (λ l. round.calls ++ l) (readings-snoc round.asides reading)
        ∙ sym (append_assoc round.calls (readings round.asides) (Now reading ∷ []))
        ∙ ap (λ l. l ++ Now reading ∷ []) (sym (append-nil (round.calls ++ readings round.asides)))
    by (Some rest) is = absurd (cc is)

asides_read : (reading : ℕ) (before : List Round) (round : Round) → asides_of (before ++ read_behind reading round ∷ []) ≡ asides_of (before ++ round ∷ []) + 1
asides_read reading before round =
    let count : Round → ℕ = λ r. length r.asides in
    let new = sum_by-append count before (read_behind reading round ∷ []) in
    let old = sum_by-append count before (round ∷ []) in
    let new_one = sum_by-cons count (read_behind reading round) [] in
    let old_one = sum_by-cons count round [] in
    let more : length (round.asides ++ reading ∷ []) ≡ length round.asides + 1 = length-append round.asides (reading ∷ []) in
    omega (arith, new, old, new_one, old_one, more)

module _ (setting : Setting) (seat slice turns asides : ℕ) (first : List Entry) (first_asides : List ℕ) (seen : List Entry) (running : Running) (calls : List WorldCall) (reading : ℕ) where
  -- before the first turn
  facts_first : (reach : Reach) → Facts setting seat slice turns asides reach seen running calls first first_asides [] →
      Facts setting seat slice turns (asides + 1) reach seen running (calls ++ Now reading ∷ []) first (first_asides ++ reading ∷ []) []
  facts_first reach f = record {
    plain = record {
      journal_is = f.plain.journal_is;
      log_is =
          let front : List WorldCall = serves_from 0 setting.options.servers in
          ap (λ l. l ++ Now reading ∷ []) (f.plain.log_is ∙ append-nil (front ++ readings first_asides))
          ∙ append_assoc front (readings first_asides) (Now reading ∷ [])
          ∙ ap (λ l. front ++ l) (sym (readings-snoc first_asides reading))
          ∙ sym (append-nil (front ++ readings (first_asides ++ reading ∷ [])));
      before = f.plain.before;
      turns_are = f.plain.turns_are;
      count = f.plain.count;
      asides_are = let more : length (first_asides ++ reading ∷ []) ≡ length first_asides + 1 = length-append first_asides (reading ∷ []) in omega (arith, more, f.plain.asides_are);
    };
    come = f.come;
    reading = f.reading;
    past = f.past;
    mixes = f.mixes;
    sound = f.sound;
  }

  -- right behind a turn
  facts_last : (before : List Round) (round : Round) → Facts setting seat slice turns asides turned seen running calls first first_asides (before ++ round ∷ []) →
      Facts setting seat slice turns (asides + 1) turned seen running (calls ++ Now reading ∷ []) first first_asides (before ++ read_behind reading round ∷ [])
  facts_last before round f =
      let none : is_none round.rest ≡ true = sym (last_or-snoc (has_come setting seat slice turned) true before round) ∙ f.come in
      let one : Round = read_behind reading round in
      let same : standing_after (behind beginning first) (before ++ one ∷ []) ≡ standing_after (behind beginning first) (before ++ round ∷ []) =
      standing_after-snoc (behind beginning first) before one ∙ sym (standing_after-snoc (behind beginning first) before round) in
      record {
        plain = record {
          journal_is = f.plain.journal_is
              ∙ ap (λ l. first ++ l)
              (sym (flat_last entries_of [] before round one [] (sym (append-nil (entries_of round))) ∙ append-nil (flat_map entries_of (before ++ round ∷ []))));
          log_is =
              ap (λ l. l ++ Now reading ∷ []) f.plain.log_is
              ∙ sym (flat_last calls_of (serves_from 0 setting.options.servers ++ readings first_asides) before round one (Now reading ∷ []) (calls_read reading round none));
          before = f.plain.before;
          turns_are = turns_last setting seat slice (behind beginning first) before round one f.plain.turns_are (λ turns. turns);
          count = length-append before (one ∷ []) ∙ sym (length-append before (round ∷ [])) ∙ f.plain.count;
          asides_are = omega (arith, asides_read reading before round, f.plain.asides_are);
        };
        come = last_or-snoc (has_come setting seat slice turned) true before one ∙ none;
        reading = last_or-snoc (λ r. r.reading) 0 before one ∙ sym (last_or-snoc (λ r. r.reading) 0 before round) ∙ f.reading;
        past = ap (λ s. s.past) same ∙ f.past;
        mixes = f.mixes;
        sound = subst (λ s. Sound setting running.rows running.told s) (sym same) f.sound;
      }

module _ (turns asides : ℕ) (known : Known) (running : Running) (calls : List WorldCall) (reading : ℕ) where
  way_read : (behind : Bool) → IsCount behind turns → IsTurnOwner known → IsUnderWay longest_pause turns asides (reach_of behind) known running calls →
      IsUnderWay longest_pause turns (asides + 1) (reach_of behind) known running (calls ++ Now reading ∷ [])
  way_read true count owner way =
      let first = way.course.first in
      let first_asides = way.course.first_asides in
      by_last (λ rounds. Facts known.setting known.seat longest_pause turns asides turned known.seen running calls first first_asides rounds → IsUnderWay longest_pause turns (asides + 1) turned known running (calls ++ Now reading ∷ []))
      (λ f. way_of owner (facts_first known.setting known.seat longest_pause turns asides first first_asides known.seen running calls reading turned f))
      (λ before round f. way_of owner
      (facts_last known.setting known.seat longest_pause turns asides first first_asides known.seen running calls reading before round f))
      way.course.rounds (facts_of way)
  way_read false count owner way =
      let first = way.course.first in
      let first_asides = way.course.first_asides in
      by_last (λ rounds. Facts known.setting known.seat longest_pause turns asides rested known.seen running calls first first_asides rounds → IsUnderWay longest_pause turns (asides + 1) rested known running (calls ++ Now reading ∷ []))
      (λ f. way_of owner (facts_first known.setting known.seat longest_pause turns asides first first_asides known.seen running calls reading rested f))
      (λ before round f. absurd (omega (arith, count, f.plain.count, length-append before (round ∷ []))))
      way.course.rounds (facts_of way)

-- the clock was read
pub reads_clock : (result : Result ℕ NoMemory) (sitting : Sitting) (old new : Option (List WorldCall)) → Logs old new result (λ reading. Now reading) → ReadsClock result sitting old new
reads_clock (Err fault) sitting old new logs = logs
reads_clock (Ok reading) sitting old new logs = (
  logs,
  λ known began turns asides here. record {
    count = here.count;
    reading = here.reading;
    runs = told_trans
        (λ calls. IsTurnOwner known → IsUnderWay longest_pause turns asides (reach_of sitting.behind_turn) known sitting.running calls)
        (λ calls. calls ≡ Now reading ∷ [])
        (λ calls. IsTurnOwner known → IsUnderWay longest_pause turns (asides + 1) (reach_of sitting.behind_turn) known sitting.running calls)
        (λ cs ds way is owner.
        subst (λ ds. IsUnderWay longest_pause turns (asides + 1) (reach_of sitting.behind_turn) known sitting.running (cs ++ ds)) (sym is)
        (way_read turns asides known sitting.running cs reading sitting.behind_turn here.count owner (way owner)))
        began old new here.runs (told_by (λ calls. calls ≡ Now reading ∷ []) (Now reading ∷ []) refl old new logs);
    begun = begun_on longest_pause turns known began old new (told_by (λ calls. ⊤) (Now reading ∷ []) tt old new logs) here.begun;
  },
)
