-- The first turn of a run began where a request was pending, and so it stays where journal and calls go on.
use Rattle.std.proofs.Common.{◌≡◌, ◌≢◌, ◌∙◌, ℕ, ◌+◌, ◌==◌, ◌||◌, Bool, true, false, not, List, [], ◌∷◌, ◌++◌, length, refl, ap, sym, subst, arith, ltb-true, ltb-false}
use Rattle.std.specs.Prelude.{None, Option, flat_map, nat_lt, ⊤}
use Rattle.std.specs.List.{list_all}
use Rattle.std.proofs.lemmas.List.{append-nil, append_assoc}
use Rattle.chan_types.specs.declared.journal.Entry.{Entry}
use Rattle.net_world.specs.Logs.{LogGets}
use Rattle.net_world.specs.declared.log.WorldCall.{WorldCall}
use Rattle.channel_model.specs.Completion.{pending}
use Rattle.channel_model.specs.Course.{IsCourse, Round, asides_of, calls_of, entries_of, is_of_turn, readings, serves_from, standing_after}
use Rattle.channel_model.specs.Journal.{past_of}
use Rattle.channel_model.specs.Known.{GoesOn, Known}
use Rattle.channel_model.specs.Setting.{Setting}
use Rattle.channel_model.specs.Stretch.{Standing, beginning, behind}
use Rattle.channel_model.specs.Turn.{IsTurn}
use Rattle.event_runner.proofs.GoesLemmas.{owner_before}
use Rattle.event_runner.proofs.Theorems.{told_as, told_trans}
use Rattle.event_runner.proofs.TrailLemmas.{trail_of}
use Rattle.event_runner.specs.declared.answers.Turned.{Turned}
use Rattle.event_runner.specs.Goes.{Goes, Leads}
use Rattle.event_runner.specs.Running.{Running, run_of}
use Rattle.event_runner.specs.State.{Holds, IsTurnOwner}
use Rattle.event_runner.specs.Turning.{MakesTurn}
use Rattle.event_runner.specs.UnderWay.{IsUnderWay, RunsSince, following}
use Rattle.channel_session.specs.Advancing.{LogGrows}
use Rattle.channel_session.specs.Beginning.{AreBegun, BeginsPending, BegunSince, FirstTurn}
use Rattle.channel_session.specs.Left.{pending_of}
use Rattle.channel_session.proofs.AdvanceLemmas.{grows_by}

module _ (setting : Setting) (seat slice : ℕ) where
  -- a first turn, where a request is pending
  first_here : (seen es : List Entry) (cs ds : List WorldCall) (reading : ℕ) (new : Standing) → pending setting (past_of seen) ≢ [] → list_all (λ entry. not (is_of_turn entry) || (entry.seat == seat)) (seen ++ es) ≡ true →
      (turns asides : ℕ) → turns ≡ 0 → (course : IsCourse setting seat slice seen cs turns asides) → IsTurn setting seat reading (standing_after (behind beginning course.first) course.rounds) es ds new →
      FirstTurn setting seat slice (seen ++ es) (cs ++ ds)
  first_here seen es cs ds reading new some owner turns asides no_turn course = by course.rounds (course.count ∙ no_turn) course.journal_is course.log_is course.asides_are
    where
      by : (rounds : List Round) → length rounds ≡ 0 → seen ≡ course.first ++ flat_map entries_of rounds →
          cs ≡ serves_from 0 setting.options.servers ++ readings course.first_asides ++ flat_map calls_of rounds → length course.first_asides + asides_of rounds ≡ asides →
          IsTurn setting seat reading (standing_after (behind beginning course.first) rounds) es ds new → FirstTurn setting seat slice (seen ++ es) (cs ++ ds)
      by (round ∷ rounds) count journal log beside turn = absurd (omega (arith, count))
      by [] count journal log beside turn =
          let first : seen ≡ course.first = journal ∙ append-nil course.first in
          let told : List WorldCall = serves_from 0 setting.options.servers ++ readings course.first_asides in
          let one : Round = record { reading = reading; entries = es; calls = ds; new = new; between = []; asides = []; rest = None } in
          record {
            calls_earlier = cs ++ ds;
            calls_behind = [];
            calls_are = sym (append-nil (cs ++ ds));
            asides = asides;
            course = record {
              first = course.first;
              first_asides = course.first_asides;
              rounds = one ∷ [];
              journal_is = ap (λ l. l ++ es) first ∙ ap (λ l. course.first ++ l) (sym (append-nil (es ++ []) ∙ append-nil es));
              log_is = ap (λ l. l ++ ds) (log ∙ append-nil told) ∙ ap (λ l. told ++ l) (sym (append-nil (ds ++ [] ++ []) ∙ append-nil (ds ++ []) ∙ append-nil ds));
              before = course.before;
              turns_are = (turn, refl, refl, refl, tt);
              count = refl;
              asides_are = beside;
              of_seat = owner;
            };
            some_pending = subst (λ journal. pending setting (past_of journal) ≢ []) first some;
          }

  -- with that the journal begins so
  begins_first : (journal : List Entry) (calls : List WorldCall) → FirstTurn setting seat slice journal calls → BeginsPending setting seat slice journal calls
  begins_first journal calls turn = record { earlier = journal; behind = []; parts = sym (append-nil journal); turn = turn }

  -- a longer journal begins so
  pub begins_behind : (journal es : List Entry) (calls : List WorldCall) → BeginsPending setting seat slice journal calls → BeginsPending setting seat slice (journal ++ es) calls
  begins_behind journal es calls begins = record {
    earlier = begins.earlier;
    behind = begins.behind ++ es;
    parts = ap (λ l. l ++ es) begins.parts ∙ append_assoc begins.earlier begins.behind es;
    turn = begins.turn;
  }

  -- and a longer log
  begins_on : (journal : List Entry) (calls ds : List WorldCall) → BeginsPending setting seat slice journal calls → BeginsPending setting seat slice journal (calls ++ ds)
  begins_on journal calls ds begins = record {
    earlier = begins.earlier;
    behind = begins.behind;
    parts = begins.parts;
    turn = record {
      calls_earlier = begins.turn.calls_earlier;
      calls_behind = begins.turn.calls_behind ++ ds;
      calls_are = ap (λ l. l ++ ds) begins.turn.calls_are ∙ append_assoc begins.turn.calls_earlier begins.turn.calls_behind ds;
      asides = begins.turn.asides;
      course = begins.turn.course;
      some_pending = begins.turn.some_pending;
    };
  }

module _ (slice : ℕ) where
  -- no turn was made
  pub begun_none : (P : List WorldCall → Type 0) (known : Known) (l m : Option (List WorldCall)) → LogGets P l m → BegunSince slice 0 known l m
  begun_none P known l m = told_as P (λ calls. IsTurnOwner known → AreBegun slice 0 known calls) (λ calls p owner some. absurd (omega (arith, some))) l m

  module _ (turns : ℕ) where
    -- the desk went on
    pub begun_behind : (old new : Known) → GoesOn old new → (l m : Option (List WorldCall)) → BegunSince slice turns old l m → BegunSince slice turns new l m
    begun_behind old new goes l m =
        told_as (λ calls. IsTurnOwner old → AreBegun slice turns old calls) (λ calls. IsTurnOwner new → AreBegun slice turns new calls)
        (λ calls begun owner some.
        subst (λ seen. BeginsPending new.setting new.seat slice seen calls) (sym goes.seen)
        (subst (λ seat. BeginsPending new.setting seat slice (old.seen ++ goes.since) calls) (sym goes.desk.seat)
        (subst (λ setting. BeginsPending setting old.seat slice (old.seen ++ goes.since) calls) (sym goes.desk.setting)
        (begins_behind old.setting old.seat slice old.seen goes.since calls (begun (owner_before old new goes.since (trail_of old new goes) owner) some)))))
        l m

    -- and the log
    pub begun_on : (known : Known) (l m n : Option (List WorldCall)) → LogGrows m n → BegunSince slice turns known l m → BegunSince slice turns known l n
    begun_on known l m n grows begun =
        told_trans (λ calls. IsTurnOwner known → AreBegun slice turns known calls) (λ ds. ⊤) (λ calls. IsTurnOwner known → AreBegun slice turns known calls)
        (λ cs ds was more owner some. begins_on known.setting known.seat slice known.seen cs ds (was owner some)) l m n begun grows

    -- a turn was made, where a request is pending
    module _ (asides : ℕ) (old new : Known) (running after : Running) (l m n : Option (List WorldCall)) (answer : Turned) (goes : Goes (MakesTurn answer) (run_of old running m) (run_of new after n)) (some : pending_of old ≢ []) where
      -- it is the first one
      first_turned : turns ≡ 0 → RunsSince slice turns asides following old running l m → BegunSince slice (turns + 1) new l n
      first_turned first since =
          let es : List Entry = goes.goes_on.since in
          told_trans (λ calls. IsTurnOwner old → IsUnderWay slice turns asides following old running calls) (λ calls. IsTurnOwner new → Leads (MakesTurn answer) (run_of old running m) (run_of new after n) es calls)
          (λ calls. IsTurnOwner new → AreBegun slice (turns + 1) new calls)
          (λ cs ds under leads owner any.
          let way = under (owner_before old new es (trail_of old new goes.goes_on) owner) in
          let holds : Holds (run_of old running m) (standing_after (behind beginning way.course.first) way.course.rounds) = record { fits = way.holds.fits; mixes = way.holds.mixes; told = way.holds.told } in
          let to = leads owner (standing_after (behind beginning way.course.first) way.course.rounds) holds in
          let own = subst (λ seat. list_all (λ entry. not (is_of_turn entry) || (entry.seat == seat)) (old.seen ++ es) ≡ true) goes.goes_on.desk.seat
          (subst (λ journal. list_all (λ entry. not (is_of_turn entry) || (entry.seat == new.seat)) journal ≡ true) goes.goes_on.seen owner) in
          subst (λ seen. BeginsPending new.setting new.seat slice seen (cs ++ ds)) (sym goes.goes_on.seen)
          (subst (λ seat. BeginsPending new.setting seat slice (old.seen ++ es) (cs ++ ds)) (sym goes.goes_on.desk.seat)
          (subst (λ setting. BeginsPending setting old.seat slice (old.seen ++ es) (cs ++ ds)) (sym goes.goes_on.desk.setting)
          (begins_first old.setting old.seat slice (old.seen ++ es) (cs ++ ds)
          (first_here old.setting old.seat slice old.seen es cs ds answer.reading to.0 some own turns asides first way.course to.1.turn)))))
          l m n since goes.told

      pub begun_turned : RunsSince slice turns asides following old running l m → BegunSince slice turns old l m → BegunSince slice (turns + 1) new l n
      begun_turned since begun = by (nat_lt 0 turns) refl
        where
          by : (is_later : Bool) → nat_lt 0 turns ≡ is_later → BegunSince slice (turns + 1) new l n
          by true is =
              told_as (λ calls. IsTurnOwner new → AreBegun slice turns new calls) (λ calls. IsTurnOwner new → AreBegun slice (turns + 1) new calls)
              (λ calls was owner any. was owner (ltb-true 0 turns is)) l n
              (begun_on new l m n (grows_by (λ calls. IsTurnOwner new → Leads (MakesTurn answer) (run_of old running m) (run_of new after n) goes.goes_on.since calls) m n goes.told)
              (begun_behind old new goes.goes_on l m begun))
          by false is = first_turned (omega (arith, ltb-false 0 turns is)) since
