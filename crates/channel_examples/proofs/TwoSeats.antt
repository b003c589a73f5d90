-- Two seats use a channel: the one makes the turns, and the other asks, takes and performs the commands, also while a turn is made.
use Rattle.std.proofs.Common.{ℕ, zero, suc, ◌<◌, ◌==◌, ◌||◌, List, [], ◌∷◌, ◌++◌, take, not, Some, None, refl, arith, inl}
use Rattle.std.specs.Prelude.{IsTrue}
use Rattle.std.specs.List.{list_all}
use Rattle.chan_types.specs.Plans.{Plan, ask, blank, stop}
use Rattle.chan_types.specs.declared.journal.Entry.{Entry}
use Rattle.chan_types.specs.declared.journal.What.{What}
use Rattle.chan_types.specs.declared.journal.What.TheVariants.{Accept, Start, Arrive, Take, Destroy}
use Rattle.net_addr.specs.declared.addr.Addr.TheVariants.{V4}
use Rattle.net_world.specs.declared.answers.Sent.TheVariants.{Sent}
use Rattle.net_world.specs.declared.answers.Got.TheVariants.{Datagram, Nothing}
use Rattle.net_world.specs.declared.answers.Waited.TheVariants.{Woken}
use Rattle.net_world.specs.declared.log.WorldCall.{WorldCall}
use Rattle.net_world.specs.declared.log.WorldCall.TheVariants.{Serve, Now, Word, Send, Receive, Wait}
use Rattle.resolv_options.specs.Defaults.{plain_values}
use Rattle.channel_model.specs.Commands.{ObeysOrders, closing_position, left}
use Rattle.channel_model.specs.Course.{IsCourse}
use Rattle.channel_model.specs.Journal.{past_of}
use Rattle.channel_model.specs.Setting.{Setting}
use Rattle.channel_model.specs.Stretch.{Standing}
use Rattle.channel_model.specs.Traffic.{TrafficAgrees}
use Rattle.channel_model.specs.Turn.{IsTurn}
use Rattle.channel_examples.specs.Words.{channel_with, one_server, ask_x, good_reply}
use Rattle.channel_model.proofs.Theorems.{course_agrees, turn_of}
use Rattle.channel_examples.proofs.OneTaken.{WasPerformed, of_the_taken}
use Rattle.channel_examples.proofs.Words.{own, query, all_written, always, no_orders, script_of_steps, received_nothing, word_itself, nothing_expires, nothing_written, nothing_closed}
use Rattle.dns_message.specs.NameText as NameText
use Rattle.dns_message.specs.Reading as Reading

abbrev pub setting : Setting
setting = channel_with (record plain_values { servers = one_server })

-- an entry of the second seat, on nobody's command
abbrev other : What → Entry
other what = record { seat = 1; by = 0; what = what }

-- the callback asks for x.test again
abbrev pub script : Plan
script = script_of_steps (always (ask ask_x 0) stop stop)

-- the reply of the first request is noted by this seat
abbrev pub noted_by : ℕ → List Entry
noted_by seat =
    other (Accept 1 ask_x script)
    ∷ own (Start 1 0 0 0 7 None 0)
    ∷ record { seat = seat; by = 0; what = Arrive 0 0 (good_reply 7) }
    ∷ other (Take 1)
    ∷ record { seat = 1; by = 1; what = Accept 2 ask_x (blank 0) }
    ∷ own (Start 2 0 0 0 8 None 1)
    ∷ own Destroy
    ∷ []

abbrev pub journal : List Entry
journal = noted_by 0

-- the calls of the two turns
abbrev first_calls : List WorldCall
first_calls = Now 0 ∷ Receive Nothing ∷ Word 7 ∷ Send 0 (query 7) Sent ∷ Word 99 ∷ []

abbrev second_calls : List WorldCall
second_calls = Now 1 ∷ Receive (Datagram 0 (good_reply 7)) ∷ Receive Nothing ∷ Word 8 ∷ Send 0 (query 8) Sent ∷ Word 99 ∷ []

abbrev told : WorldCall
told = Serve 0 (record { address = V4 3221226037; port = 53 })

abbrev pub log : List WorldCall
log = (told ∷ first_calls) ++ (Wait 20 Woken ∷ second_calls)

-- where the first so many entries stand
abbrev stands : ℕ → Standing
stands count = record { past = past_of (take count journal); held = []; unwritten = all_written }

-- ---- the run

pub first_turn : IsTurn setting 0 0 (stands 1) (own (Start 1 0 0 0 7 None 0) ∷ []) first_calls (stands 2)
unfolding NameText.units_of Reading.message_read Reading.question_of Reading.record_of Reading.name_of Reading.run_of
first_turn =
    turn_of setting 0 0 (stands 1) (stands 1) (stands 1) (stands 2) (stands 2) (stands 2)
    [] [] (own (Start 1 0 0 0 7 None 0) ∷ []) [] [] (Receive Nothing ∷ []) [] (Word 7 ∷ Send 0 (query 7) Sent ∷ Word 99 ∷ []) [] []
    (record {
      agrees = record { past_is = refl; held_are = refl; arrivals = refl; sends = refl; links = refl; writes = λ link. refl; faults_are = refl; in_order = refl };
      alone = refl;
      all = received_nothing;
      closed = refl;
    })
    (nothing_expires setting 0 0 (stands 1) tt)
    (record {
      agrees = record { past_is = refl; held_are = refl; arrivals = refl; sends = refl; links = refl; writes = λ link. refl; faults_are = refl; in_order = refl };
      alone = refl;
      all = inl (inl refl, (word_itself setting 7 (past_of (take 1 journal)) refl refl, refl));
      few = omega arith;
      served = refl;
      served_first = refl;
    })
    (nothing_written setting 0 0 (stands 2) refl) (nothing_closed setting 0 0 (stands 2) refl)

-- the second seat takes the first request while the turn expires, and asks the second while it starts, which it starts too
abbrev taking : List Entry
taking = other (Take 1) ∷ []

abbrev starts_second : List Entry
starts_second = record { seat = 1; by = 1; what = Accept 2 ask_x (blank 0) } ∷ own (Start 2 0 0 0 8 None 1) ∷ []

pub second_turn : IsTurn setting 0 1 (stands 2) (own (Arrive 0 0 (good_reply 7)) ∷ (taking ++ starts_second)) second_calls (stands 6)
unfolding NameText.units_of Reading.message_read Reading.question_of Reading.record_of Reading.name_of Reading.run_of
second_turn =
    turn_of setting 0 1 (stands 2) (stands 3) (stands 4) (stands 6) (stands 6) (stands 6)
    (own (Arrive 0 0 (good_reply 7)) ∷ []) taking starts_second [] [] (Receive (Datagram 0 (good_reply 7)) ∷ Receive Nothing ∷ []) [] (Word 8 ∷ Send 0 (query 8) Sent ∷ Word 99 ∷ []) [] []
    (record {
      agrees = record { past_is = refl; held_are = refl; arrivals = refl; sends = refl; links = refl; writes = λ link. refl; faults_are = refl; in_order = refl };
      alone = refl;
      all = inl (record { items = Datagram 0 (good_reply 7) ∷ []; gots_are = refl; no_earlier = refl }, omega arith);
      closed = refl;
    })
    (record {
      agrees = record { past_is = refl; held_are = refl; arrivals = refl; sends = refl; links = refl; writes = λ link. refl; faults_are = refl; in_order = refl };
      alone = refl;
      all = inl tt;
      few = omega arith;
    })
    (record {
      agrees = record { past_is = refl; held_are = refl; arrivals = refl; sends = refl; links = refl; writes = λ link. refl; faults_are = refl; in_order = refl };
      alone = refl;
      all = inl (inl refl, (word_itself setting 8 (past_of (take 5 journal)) refl refl, refl));
      few = omega arith;
      served = refl;
      served_first = refl;
    })
    (nothing_written setting 0 1 (stands 6) refl) (nothing_closed setting 0 1 (stands 6) refl)

pub course : IsCourse setting 0 20 journal log 2 0
unfolding NameText.units_of Reading.message_read Reading.question_of Reading.record_of Reading.name_of Reading.run_of
course = record {
  first = other (Accept 1 ask_x script) ∷ [];
  first_asides = [];
  rounds =
      record {
        reading = 0;
        entries = own (Start 1 0 0 0 7 None 0) ∷ [];
        calls = first_calls;
        new = stands 2;
        between = [];
        asides = [];
        rest = Some (record { until = 20; outcome = Woken });
      }
      ∷ record {
        reading = 1;
        entries = own (Arrive 0 0 (good_reply 7)) ∷ (taking ++ starts_second);
        calls = second_calls;
        new = stands 6;
        between = own Destroy ∷ [];
        asides = [];
        rest = None;
      }
      ∷ [];
  journal_is = refl;
  log_is = refl;
  before = refl;
  turns_are = (first_turn, refl, refl, refl, (second_turn, refl, refl, refl, tt));
  count = refl;
  asides_are = refl;
  of_seat = refl;
}

pub agrees : TrafficAgrees setting 0 journal log
agrees = course_agrees setting 0 20 journal log 2 0 course

pub obeyed : ObeysOrders setting journal 2 no_orders (closing_position journal) 0
unfolding NameText.units_of Reading.message_read Reading.question_of Reading.record_of Reading.name_of Reading.run_of
obeyed = record {
  performances = record { request = 1; seat = 1; outcomes = left 4 ∷ [] } ∷ [];
  requests_are = refl;
  performed = (
    record {
      seated = omega arith;
      became = (omega arith, (record { entry = record { seat = 1; by = 1; what = Accept 2 ask_x (blank 0) }; stands = refl; is_its = (2, refl) }, refl), tt);
      entries_are = refl;
      of_seat = refl;
      in_time = refl;
      behind_take = refl;
      before_other_work = refl;
    },
    tt,
  );
  givers = refl;
  lost_are = refl;
}

-- ---- each seat does its own work

-- the traffic isn't that of the seat that asks
pub not_of_the_asker : TrafficAgrees setting 1 journal log → ⊥
not_of_the_asker traffic = cc traffic.arrivals

-- nor did the seat that makes the turns perform the commands
pub not_by_the_first : (last count : ℕ) → ObeysOrders setting journal 1 no_orders last count → ⊥
unfolding NameText.units_of Reading.message_read Reading.question_of Reading.record_of Reading.name_of Reading.run_of
not_by_the_first last count obeys =
    let one : WasPerformed setting journal 1 no_orders last 1 count = of_the_taken setting journal 1 no_orders last 1 count refl obeys in
    by_seat one.seat one.performed.seated one.performed.of_seat
  where
    by_seat : (seat : ℕ) → seat < 1 → IsTrue (list_all (λ entry. not (entry.by == 1) || (entry.seat == seat)) journal) → ⊥
    by_seat zero seated all = cc all
    by_seat (suc seat) seated all = omega (arith, seated)

-- ---- a message that the second seat notes

-- nothing comes in the second turn
abbrev pub silent_log : List WorldCall
silent_log = (told ∷ first_calls) ++ (Wait 20 Woken ∷ Now 1 ∷ Receive Nothing ∷ Word 8 ∷ Send 0 (query 8) Sent ∷ Word 99 ∷ [])

-- the first seat's traffic agrees with that
pub first_agrees : TrafficAgrees setting 0 (noted_by 1) silent_log
unfolding NameText.units_of Reading.message_read Reading.question_of Reading.record_of Reading.name_of Reading.run_of
first_agrees = record { arrivals = refl; sends = refl; links = refl; writes = λ link. ([], refl); faults_are = refl; in_order = refl }

-- had it noted the message itself, it wouldn't
pub forged_by_the_first : TrafficAgrees setting 0 journal silent_log → ⊥
forged_by_the_first traffic = cc traffic.arrivals

-- but it is no course: what a turn makes is made by the one seat
pub no_course : (log : List WorldCall) (turns asides : ℕ) → IsCourse setting 0 20 (noted_by 1) log turns asides → ⊥
no_course log turns asides course = cc course.of_seat
