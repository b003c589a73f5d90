-- The first turn of a session, and what goes on behind it.
use Rattle.std.proofs.Common.{◌≡◌, ◌≢◌, ◌∙◌, ℕ, ◌+◌, ◌==◌, ◌||◌, true, not, List, [], ◌∷◌, ◌++◌, length, refl, ap, sym, subst, inl, inr, arith}
use Rattle.std.specs.Prelude.{None, flat_map}
use Rattle.std.specs.List.{list_all}
use Rattle.std.proofs.lemmas.Bool.{and_from, and_parts, or_left}
use Rattle.std.proofs.lemmas.List.{append-nil, append_assoc}
use Rattle.std.proofs.lemmas.List.Folds.{list_all-append}
use Rattle.chan_types.specs.declared.journal.Entry.{Entry}
use Rattle.net_world.specs.declared.log.WorldCall.{WorldCall}
use Rattle.channel_model.specs.Completion.{pending, ready}
use Rattle.channel_model.specs.Course.{IsCourse, Round, asides_of, calls_of, entries_of, goes_on, has_no_turn, is_of_turn, readings, serves_from, standing_after}
use Rattle.channel_model.specs.Journal.{past_of}
use Rattle.channel_model.specs.Setting.{Setting}
use Rattle.channel_model.specs.Stretch.{Standing, beginning, behind}
use Rattle.channel_model.specs.Turn.{IsCutTurn, IsTurn}
use Rattle.channel_table.specs.Calling.{Owned}
use Rattle.owner_laws.specs.Sessions.{BeginsCut, BeginsPending, BeginsSoFar, FirstTurn, longest_slice}

-- a request is pending, and nothing is ready
abbrev pub IsAsked : Owned → Type 0
IsAsked channel = (pending channel.setting (past_of channel.seen) ≢ []) × (ready channel.setting (past_of channel.seen) ≡ [])

module _ (setting : Setting) (seen es : List Entry) (cs ds : List WorldCall) (reading : ℕ) (new : Standing) (some : pending setting (past_of seen) ≢ []) (none : ready setting (past_of seen) ≡ [])
    (owner : list_all (λ entry. not (is_of_turn entry) || (entry.seat == 0)) (seen ++ es) ≡ true) where
  -- a first turn, where a request is pending
  pub first_here : (turns : ℕ) → turns ≡ 0 → (course : IsCourse setting 0 longest_slice seen cs turns 0) → IsTurn setting 0 reading (standing_after (behind beginning course.first) course.rounds) es ds new →
      FirstTurn setting (seen ++ es) (cs ++ ds)
  first_here turns no_turn course = by course.rounds (course.count ∙ no_turn) course.journal_is course.log_is course.asides_are
    where
      by : (rounds : List Round) → length rounds ≡ 0 → seen ≡ course.first ++ flat_map entries_of rounds →
          cs ≡ serves_from 0 setting.options.servers ++ readings course.first_asides ++ flat_map calls_of rounds → length course.first_asides + asides_of rounds ≡ 0 →
          IsTurn setting 0 reading (standing_after (behind beginning course.first) rounds) es ds new → FirstTurn setting (seen ++ es) (cs ++ ds)
      by (round ∷ rounds) count journal log asides turn = absurd (omega (arith, count))
      by [] count journal log asides turn =
          let first : seen ≡ course.first = journal ∙ append-nil course.first in
          let told : List WorldCall = serves_from 0 setting.options.servers ++ readings course.first_asides in
          let one : Round = record { reading = reading; entries = es; calls = ds; new = new; between = []; asides = []; rest = None } in
          record {
            calls_earlier = cs ++ ds;
            calls_behind = [];
            calls_are = sym (append-nil (cs ++ ds));
            course = record {
              first = course.first;
              first_asides = course.first_asides;
              rounds = one ∷ [];
              journal_is = ap (λ l. l ++ es) first ∙ ap (λ l. course.first ++ l) (sym (append-nil (es ++ []) ∙ append-nil es));
              log_is = ap (λ l. l ++ ds) (log ∙ append-nil told) ∙ ap (λ l. told ++ l) (sym (append-nil (ds ++ [] ++ []) ∙ append-nil (ds ++ []) ∙ append-nil ds));
              before = course.before;
              turns_are = (turn, refl, refl, refl, tt);
              count = refl;
              asides_are = asides;
              of_seat = owner;
            };
            some_pending = subst (λ journal. pending setting (past_of journal) ≢ []) first some;
            none_ready = subst (λ journal. ready setting (past_of journal) ≡ []) first none;
          }

-- with that the journal begins so
pub begins_first : (setting : Setting) (journal : List Entry) (calls : List WorldCall) → FirstTurn setting journal calls → BeginsPending setting journal calls
begins_first setting journal calls turn = record { earlier = journal; behind = []; parts = sym (append-nil journal); turn = turn }

-- the same of a turn that was cut short
module _ (setting : Setting) (seen es : List Entry) (cs ds : List WorldCall) (reading : ℕ) (some : pending setting (past_of seen) ≢ []) (none : ready setting (past_of seen) ≡ [])
    (owner : list_all (λ entry. not (is_of_turn entry) || (entry.seat == 0)) (seen ++ es) ≡ true) where
  pub begins_cut : (turns : ℕ) → turns ≡ 0 → (course : IsCourse setting 0 longest_slice seen cs turns 0) → IsCutTurn setting 0 reading (standing_after (behind beginning course.first) course.rounds) es ds →
      BeginsCut setting (seen ++ es) (cs ++ ds)
  begins_cut turns no_turn course turn =
      let first : seen ≡ course.first = first_is course.rounds (course.count ∙ no_turn) course.journal_is in
      record {
        turn = record {
          whole = turns;
          count = ap (λ n. n + 1) (sym no_turn);
          earlier = seen;
          cut = es;
          later = [];
          calls_earlier = cs;
          calls_cut = ds;
          reading = reading;
          course = course;
          going_on = none_go course.rounds (course.count ∙ no_turn);
          turn = turn;
          no_turn = refl;
          journal_is = sym (append-nil (seen ++ es));
          log_is = refl;
          of_seat = owner;
        };
        some_pending = subst (λ journal. pending setting (past_of journal) ≢ []) first some;
        none_ready = subst (λ journal. ready setting (past_of journal) ≡ []) first none;
      }
    where
      first_is : (rounds : List Round) → length rounds ≡ 0 → seen ≡ course.first ++ flat_map entries_of rounds → seen ≡ course.first
      first_is [] count journal = journal ∙ append-nil course.first
      first_is (round ∷ rounds) count journal = absurd (omega (arith, count))

      none_go : (rounds : List Round) → length rounds ≡ 0 → list_all (goes_on setting 0 longest_slice) rounds ≡ true
      none_go [] count = refl
      none_go (round ∷ rounds) count = absurd (omega (arith, count))

-- a longer journal begins so
pub begins_behind : (setting : Setting) (journal es : List Entry) (calls : List WorldCall) → BeginsPending setting journal calls → BeginsPending setting (journal ++ es) calls
begins_behind setting journal es calls begins = record {
  earlier = begins.earlier;
  behind = begins.behind ++ es;
  parts = ap (λ l. l ++ es) begins.parts ∙ append_assoc begins.earlier begins.behind es;
  turn = begins.turn;
}

-- a first turn is that of a longer log
pub first_on : (setting : Setting) (earlier : List Entry) (calls ds : List WorldCall) → FirstTurn setting earlier calls → FirstTurn setting earlier (calls ++ ds)
first_on setting earlier calls ds turn = record {
  calls_earlier = turn.calls_earlier;
  calls_behind = turn.calls_behind ++ ds;
  calls_are = ap (λ l. l ++ ds) turn.calls_are ∙ append_assoc turn.calls_earlier turn.calls_behind ds;
  course = turn.course;
  some_pending = turn.some_pending;
  none_ready = turn.none_ready;
}

-- and so a longer log begins
pub begins_on : (setting : Setting) (journal : List Entry) (calls ds : List WorldCall) → BeginsPending setting journal calls → BeginsPending setting journal (calls ++ ds)
begins_on setting journal calls ds begins = record {
  earlier = begins.earlier;
  behind = begins.behind;
  parts = begins.parts;
  turn = first_on setting begins.earlier calls ds begins.turn;
}

-- entries that no turn makes are none of another seat's turns
no_others : (es : List Entry) → has_no_turn es ≡ true → list_all (λ entry. not (is_of_turn entry) || (entry.seat == 0)) es ≡ true
no_others [] none = refl
no_others (e ∷ es) none =
    let parts = and_parts (not (is_of_turn e)) (has_no_turn es) none in
    and_from (not (is_of_turn e) || (e.seat == 0)) (list_all (λ entry. not (is_of_turn entry) || (entry.seat == 0)) es) (or_left (not (is_of_turn e)) (e.seat == 0) parts.0) (no_others es parts.1)

-- behind a first turn, whole or cut short, entries that no turn makes may stand
pub so_far_behind : (setting : Setting) (journal es : List Entry) (calls : List WorldCall) → has_no_turn es ≡ true → BeginsSoFar setting journal calls → BeginsSoFar setting (journal ++ es) calls
so_far_behind setting journal es calls none (inl whole) = inl (begins_behind setting journal es calls whole)
so_far_behind setting journal es calls none (inr cut) = inr (record {
  turn = record {
    whole = cut.turn.whole;
    count = cut.turn.count;
    earlier = cut.turn.earlier;
    cut = cut.turn.cut;
    later = cut.turn.later ++ es;
    calls_earlier = cut.turn.calls_earlier;
    calls_cut = cut.turn.calls_cut;
    reading = cut.turn.reading;
    course = cut.turn.course;
    going_on = cut.turn.going_on;
    turn = cut.turn.turn;
    no_turn = list_all-append (λ entry. not (is_of_turn entry)) cut.turn.later es ∙ and_from (has_no_turn cut.turn.later) (has_no_turn es) cut.turn.no_turn none;
    journal_is = ap (λ l. l ++ es) cut.turn.journal_is ∙ append_assoc (cut.turn.earlier ++ cut.turn.cut) cut.turn.later es;
    log_is = cut.turn.log_is;
    of_seat = list_all-append (λ entry. not (is_of_turn entry) || (entry.seat == 0)) journal es
        ∙ and_from (list_all (λ entry. not (is_of_turn entry) || (entry.seat == 0)) journal) (list_all (λ entry. not (is_of_turn entry) || (entry.seat == 0)) es) cut.turn.of_seat (no_others es none);
  };
  some_pending = cut.some_pending;
  none_ready = cut.none_ready;
})
