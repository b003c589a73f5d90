-- Runs of six turns for one query with one attempt, on networks whose waits end before their moment, or fail: the law bounds it by four where each wait ends in time.
use Rattle.std.proofs.Common.{◌≡◌, ℕ, ◌-◌, ◌^◌, ◌<◌, List, [], ◌∷◌, Option, Some, None, true, false, refl, arith, inl}
use Rattle.std.specs.List.{list_any}
use Rattle.std.specs.Prelude.{filter_map, option_map}
use Rattle.chan_types.specs.declared.journal.Entry.{Entry}
use Rattle.dns_message.specs.NameText as NameText
use Rattle.net_world.specs.Cause.{is_not_waited}
use Rattle.net_world.specs.declared.answers.Got.TheVariants.{Nothing}
use Rattle.net_world.specs.declared.answers.Sent.TheVariants.{Sent as WasSent}
use Rattle.net_world.specs.declared.answers.Waited.{Waited}
use Rattle.net_world.specs.declared.answers.Waited.TheVariants.{Failed as NotWaited, Woken}
use Rattle.net_world.specs.declared.log.WorldCall.{WorldCall}
use Rattle.net_world.specs.declared.log.WorldCall.TheVariants.{Now, Receive, Send, Serve, Wait, Word}
use Rattle.resolv_options.specs.Defaults.{plain_values}
use Rattle.channel_model.proofs.Theorems.{turn_of}
use Rattle.channel_model.specs.Course.{Round}
use Rattle.channel_model.specs.Endings.{IsStalledBehind, waited_by}
use Rattle.channel_model.specs.Journal.{past_of}
use Rattle.channel_model.specs.Setting.{Setting}
use Rattle.channel_model.specs.Turn.{HasStarted, IsTurn, NoneDue}
use Rattle.channel_progress.specs.Allowed.{attempts_allowed}
use Rattle.channel_progress.specs.Waking.{wakes_in_time}
use Rattle.channel_progress.proofs.ExampleWords.{accepts, at, heard_nothing, none_closed, none_expired, none_written, query, server, starts}

-- a server at 192.0.2.53 that is tried once
abbrev setting : Setting
setting = record { options = record plain_values { servers = server ∷ []; tries = 1 }; hosts = [] }

-- a query is begun, and no more happens
abbrev journal : List Entry
journal = accepts ∷ starts 7 0 ∷ []

-- the query is due at 2,000 ms; the clock moves on by one with each wait
abbrev log : Waited → List WorldCall
log outcome =
    Serve 0 server
    ∷ Now 0 ∷ Receive Nothing ∷ Word 7 ∷ Send 0 (query 7) WasSent ∷ Word 0
    ∷ Wait 2000 outcome ∷ Now 1 ∷ Receive Nothing ∷ Word 0
    ∷ Wait 2000 outcome ∷ Now 2 ∷ Receive Nothing ∷ Word 0
    ∷ Wait 2000 outcome ∷ Now 3 ∷ Receive Nothing ∷ Word 0
    ∷ Wait 2000 outcome ∷ Now 4 ∷ Receive Nothing ∷ Word 0
    ∷ Wait 2000 outcome ∷ Now 5 ∷ Receive Nothing ∷ Word 0 ∷ []

-- nothing starts while the query is in flight
none_started : (reading : ℕ) → HasStarted setting 0 reading (at journal) [] (Word 0 ∷ []) (at journal)
unfolding NameText.units_of
none_started reading = record {
  agrees = record { past_is = refl; held_are = refl; arrivals = refl; sends = refl; links = refl; writes = λ link. refl; faults_are = refl; in_order = refl };
  alone = refl;
  all = inl (inl refl, refl);
  few = omega arith;
  served = refl;
  served_first = refl;
}

-- the query is begun
one_started : HasStarted setting 0 0 (at (accepts ∷ [])) (starts 7 0 ∷ []) (Word 7 ∷ Send 0 (query 7) WasSent ∷ Word 0 ∷ []) (at journal)
unfolding NameText.units_of
one_started = record {
  agrees = record { past_is = refl; held_are = refl; arrivals = refl; sends = refl; links = refl; writes = λ link. refl; faults_are = refl; in_order = refl };
  alone = refl;
  all = inl (inl refl, (record { steps = 0; few = omega arith; reached = refl; free = refl; passed = λ step before. absurd (omega (arith, before)) }, refl));
  few = omega arith;
  served = refl;
  served_first = refl;
}

-- the first turn
first_turn : IsTurn setting 0 0 (at (accepts ∷ [])) (starts 7 0 ∷ []) (Now 0 ∷ Receive Nothing ∷ Word 7 ∷ Send 0 (query 7) WasSent ∷ Word 0 ∷ []) (at journal)
first_turn =
    turn_of setting 0 0 (at (accepts ∷ [])) (at (accepts ∷ [])) (at (accepts ∷ [])) (at journal) (at journal) (at journal)
    [] [] (starts 7 0 ∷ []) [] [] (Receive Nothing ∷ []) [] (Word 7 ∷ Send 0 (query 7) WasSent ∷ Word 0 ∷ []) [] []
    (heard_nothing setting 0 (accepts ∷ [])) (none_expired setting 0 (accepts ∷ []) tt) one_started (none_written setting 0 journal) (none_closed setting 0 journal)

-- a turn in which nothing happens but the look for something to start, before the query is due
later_turn : (reading : ℕ) → NoneDue setting reading (past_of journal) → IsTurn setting 0 reading (at journal) [] (Now reading ∷ Receive Nothing ∷ Word 0 ∷ []) (at journal)
later_turn reading none =
    turn_of setting 0 reading (at journal) (at journal) (at journal) (at journal) (at journal) (at journal)
    [] [] [] [] [] (Receive Nothing ∷ []) [] (Word 0 ∷ []) [] []
    (heard_nothing setting reading journal) (none_expired setting reading journal none) (none_started reading) (none_written setting reading journal) (none_closed setting reading journal)

-- before it is due
early : (reading : ℕ) → reading < 2000 → NoneDue setting reading (past_of journal)
unfolding NameText.units_of
early reading before = before

-- that turn, and the wait behind it if there is one
abbrev later : ℕ → Option Waited → Round
later reading outcome = record {
  reading = reading;
  entries = [];
  calls = Now reading ∷ Receive Nothing ∷ Word 0 ∷ [];
  new = at journal;
  between = [];
  asides = [];
  rest = option_map (λ w. record { until = 2000; outcome = w }) outcome;
}

-- the six turns
abbrev rounds : Waited → List Round
rounds outcome =
    record {
      reading = 0;
      entries = starts 7 0 ∷ [];
      calls = Now 0 ∷ Receive Nothing ∷ Word 7 ∷ Send 0 (query 7) WasSent ∷ Word 0 ∷ [];
      new = at journal;
      between = [];
      asides = [];
      rest = Some (record { until = 2000; outcome = outcome });
    }
    ∷ later 1 (Some outcome) ∷ later 2 (Some outcome) ∷ later 3 (Some outcome) ∷ later 4 (Some outcome) ∷ later 5 None ∷ []

-- six turns were made, and the request is pending
pub stalled : (outcome : Waited) → IsStalledBehind setting 0 (2 ^ 64 - 1) 6 journal (log outcome)
unfolding NameText.units_of
stalled outcome = record {
  course = record {
    first = accepts ∷ [];
    first_asides = [];
    rounds = rounds outcome;
    journal_is = refl;
    log_is = refl;
    before = refl;
    turns_are = (
      first_turn,
      refl,
      refl,
      refl,
      (
        later_turn 1 (early 1 (omega arith)),
        refl,
        refl,
        refl,
        (
          later_turn 2 (early 2 (omega arith)),
          refl,
          refl,
          refl,
          (
            later_turn 3 (early 3 (omega arith)),
            refl,
            refl,
            refl,
            (later_turn 4 (early 4 (omega arith)), refl, refl, refl, (later_turn 5 (early 5 (omega arith)), refl, refl, refl, tt)),
          ),
        ),
      ),
    );
    count = refl;
    asides_are = refl;
    of_seat = refl;
  };
  left_pending = refl;
}

-- though one attempt is allowed
pub allowed : attempts_allowed setting journal ≡ 1
unfolding NameText.units_of
allowed = refl

-- the one network wakes too early
pub wakes_early : wakes_in_time (log Woken) ≡ false
wakes_early = refl

-- and the waits of the other fail
pub waits_fail : list_any is_not_waited (filter_map waited_by (log NotWaited)) ≡ true
waits_fail = refl
