-- A run of three turns for one query with one try, in which another server is set behind the first turn and behind the second: each time the query begins again, though no attempt has failed. One try alone would allow two turns.
use Rattle.std.proofs.Common.{◌≡◌, ℕ, ◌+◌, ◌-◌, ◌^◌, List, [], ◌∷◌, ◌++◌, None, refl, arith, inl}
use Rattle.chan_types.specs.declared.journal.Entry.{Entry}
use Rattle.chan_types.specs.declared.journal.What.TheVariants.{Servers, Start}
use Rattle.dns_message.specs.NameText as NameText
use Rattle.net_addr.specs.declared.addr.Addr.TheVariants.{V4}
use Rattle.net_addr.specs.declared.addr.ServerAddr.{ServerAddr}
use Rattle.net_world.specs.declared.answers.Got.TheVariants.{Nothing}
use Rattle.net_world.specs.declared.answers.Sent.TheVariants.{Sent as WasSent}
use Rattle.net_world.specs.declared.log.WorldCall.{WorldCall}
use Rattle.net_world.specs.declared.log.WorldCall.TheVariants.{Now, Receive, Send, Serve, Word}
use Rattle.resolv_options.specs.Defaults.{plain_values}
use Rattle.channel_model.proofs.Theorems.{turn_of}
use Rattle.channel_model.specs.Course.{Round}
use Rattle.channel_model.specs.Endings.{IsStalledBehind}
use Rattle.channel_model.specs.Journal.{past_of}
use Rattle.channel_model.specs.Setting.{Setting}
use Rattle.channel_model.specs.Turn.{HasStarted, IsTurn, NoneDue}
use Rattle.channel_progress.specs.Allowed.{attempts_allowed}
use Rattle.channel_progress.specs.PlainRun.{IsPlainRun}
use Rattle.channel_progress.proofs.ExampleWords.{accepts, at, heard_nothing, none_closed, none_expired, none_written, own, query, server}

-- a server at 192.0.2.53 that is tried once
abbrev setting : Setting
setting = record { options = record plain_values { servers = server ∷ []; tries = 1 }; hosts = [] }

-- the address of the server with this key: 192.0.2.53 plus the key
abbrev address : ℕ → ServerAddr
address key = record { address = V4 (3221226037 + key); port = 53 }

-- it becomes the only server
abbrev sets : ℕ → Entry
sets key = own (Servers (record { key = key; address = address key } ∷ []))

-- the query is begun on it, with the identifier 7 plus its key, at the moment of its key
abbrev starts : ℕ → Entry
starts key = own (Start 1 0 key 0 (7 + key) None key)

-- the journal up to the first turn, to the second, and to the third
abbrev up_to_first : List Entry
up_to_first = accepts ∷ []

abbrev up_to_second : List Entry
up_to_second = accepts ∷ starts 0 ∷ sets 1 ∷ []

abbrev up_to_third : List Entry
up_to_third = accepts ∷ starts 0 ∷ sets 1 ∷ starts 1 ∷ sets 2 ∷ []

-- and the whole
abbrev journal : List Entry
journal = accepts ∷ starts 0 ∷ sets 1 ∷ starts 1 ∷ sets 2 ∷ starts 2 ∷ []

-- the calls with which the query is begun, and the word of the look that finds nothing else to start: a server that is new is told first
abbrev opening_calls : List WorldCall
opening_calls = Word 7 ∷ Send 0 (query 7) WasSent ∷ Word 0 ∷ []

abbrev later_calls : ℕ → List WorldCall
later_calls key = Word (7 + key) ∷ Serve key (address key) ∷ Send key (query (7 + key)) WasSent ∷ Word 0 ∷ []

-- the query is begun once in each turn
first_start : HasStarted setting 0 0 (at up_to_first) (starts 0 ∷ []) opening_calls (at (up_to_first ++ starts 0 ∷ []))
unfolding NameText.units_of
first_start = record {
  agrees = record { past_is = refl; held_are = refl; arrivals = refl; sends = refl; links = refl; writes = λ link. refl; faults_are = refl; in_order = refl };
  alone = refl;
  all = inl (inl refl, (record { steps = 0; few = omega arith; reached = refl; free = refl; passed = λ step before. absurd (omega (arith, before)) }, refl));
  few = omega arith;
  served = refl;
  served_first = refl;
}

second_start : HasStarted setting 0 1 (at up_to_second) (starts 1 ∷ []) (later_calls 1) (at (up_to_second ++ starts 1 ∷ []))
unfolding NameText.units_of
second_start = record {
  agrees = record { past_is = refl; held_are = refl; arrivals = refl; sends = refl; links = refl; writes = λ link. refl; faults_are = refl; in_order = refl };
  alone = refl;
  all = inl (inl refl, (record { steps = 0; few = omega arith; reached = refl; free = refl; passed = λ step before. absurd (omega (arith, before)) }, refl));
  few = omega arith;
  served = refl;
  served_first = refl;
}

third_start : HasStarted setting 0 2 (at up_to_third) (starts 2 ∷ []) (later_calls 2) (at (up_to_third ++ starts 2 ∷ []))
unfolding NameText.units_of
third_start = record {
  agrees = record { past_is = refl; held_are = refl; arrivals = refl; sends = refl; links = refl; writes = λ link. refl; faults_are = refl; in_order = refl };
  alone = refl;
  all = inl (inl refl, (record { steps = 0; few = omega arith; reached = refl; free = refl; passed = λ step before. absurd (omega (arith, before)) }, refl));
  few = omega arith;
  served = refl;
  served_first = refl;
}

-- a turn in which the query is begun, and no more happens
turn : (reading : ℕ) (before : List Entry) (entry : Entry) (calls : List WorldCall) → NoneDue setting reading (past_of before) → HasStarted setting 0 reading (at before) (entry ∷ []) calls (at (before ++ entry ∷ []))
    → IsTurn setting 0 reading (at before) (entry ∷ []) (Now reading ∷ Receive Nothing ∷ calls ++ []) (at (before ++ entry ∷ []))
turn reading before entry calls none started =
    turn_of setting 0 reading (at before) (at before) (at before) (at (before ++ entry ∷ [])) (at (before ++ entry ∷ [])) (at (before ++ entry ∷ []))
    [] [] (entry ∷ []) [] [] (Receive Nothing ∷ []) [] calls [] []
    (heard_nothing setting reading before) (none_expired setting reading before none) started (none_written setting reading (before ++ entry ∷ [])) (none_closed setting reading (before ++ entry ∷ []))

-- such a turn, and what stands behind it
abbrev round : ℕ → List Entry → List WorldCall → List Entry → Round
round reading before calls between = record {
  reading = reading;
  entries = starts reading ∷ [];
  calls = Now reading ∷ Receive Nothing ∷ calls ++ [];
  new = at (before ++ starts reading ∷ []);
  between = between;
  asides = [];
  rest = None;
}

-- the three turns, between which there is no wait
abbrev rounds : List Round
rounds = round 0 up_to_first opening_calls (sets 1 ∷ []) ∷ round 1 up_to_second (later_calls 1) (sets 2 ∷ []) ∷ round 2 up_to_third (later_calls 2) [] ∷ []

-- what the network was called for
abbrev log : List WorldCall
log =
    Serve 0 server
    ∷ Now 0 ∷ Receive Nothing ∷ Word 7 ∷ Send 0 (query 7) WasSent ∷ Word 0
    ∷ Now 1 ∷ Receive Nothing ∷ Word 8 ∷ Serve 1 (address 1) ∷ Send 1 (query 8) WasSent ∷ Word 0
    ∷ Now 2 ∷ Receive Nothing ∷ Word 9 ∷ Serve 2 (address 2) ∷ Send 2 (query 9) WasSent ∷ Word 0 ∷ []

-- three turns were made, and the request is pending
pub stalled : IsStalledBehind setting 0 (2 ^ 64 - 1) 3 journal log
unfolding NameText.units_of
stalled = record {
  course = record {
    first = up_to_first;
    first_asides = [];
    rounds = rounds;
    journal_is = refl;
    log_is = refl;
    before = refl;
    turns_are = (
      turn 0 up_to_first (starts 0) opening_calls tt first_start,
      refl,
      refl,
      refl,
      (
        turn 1 up_to_second (starts 1) (later_calls 1) tt second_start,
        refl,
        refl,
        refl,
        (turn 2 up_to_third (starts 2) (later_calls 2) tt third_start, refl, refl, refl, tt),
      ),
    );
    count = refl;
    asides_are = refl;
    of_seat = refl;
  };
  left_pending = refl;
}

-- all that the law asks for
pub plain : IsPlainRun setting 0 journal log
unfolding NameText.units_of
plain = record {
  lawful = record {
    allowed = (
      record { waits = refl; to_server = refl; over_link = refl; own_id = refl; mixes = refl },
      (
        record { open' = refl; some = omega arith; few = omega arith; keys = refl },
        (
          record { waits = refl; to_server = refl; over_link = refl; own_id = refl; mixes = refl },
          (
            record { open' = refl; some = omega arith; few = omega arith; keys = refl },
            (record { waits = refl; to_server = refl; over_link = refl; own_id = refl; mixes = refl }, ((refl, refl), tt)),
          ),
        ),
      ),
    );
  };
  alone = refl;
  some_server = omega arith;
  some_try = omega arith;
  waited = refl;
  wakes = refl;
}

-- the request may spend its try, and one attempt more for each time that servers are set
pub allowed : attempts_allowed setting journal ≡ 3
unfolding NameText.units_of
allowed = refl
