-- A run that stalled: one server, one query, and two turns, in which it is asked and, as nothing came, asked again.
use Rattle.std.proofs.Common.{◌≡◌, ◌-◌, ◌^◌, List, [], ◌∷◌, Some, None, refl, arith, inl}
use Rattle.chan_types.specs.declared.journal.Entry.{Entry}
use Rattle.chan_types.specs.declared.journal.What.TheVariants.{Expire}
use Rattle.dns_message.specs.NameText as NameText
use Rattle.net_world.specs.declared.answers.Got.TheVariants.{Nothing}
use Rattle.net_world.specs.declared.answers.Sent.TheVariants.{Sent as WasSent}
use Rattle.net_world.specs.declared.answers.Waited.TheVariants.{Woken}
use Rattle.net_world.specs.declared.log.WorldCall.{WorldCall}
use Rattle.net_world.specs.declared.log.WorldCall.TheVariants.{Now, Receive, Send, Serve, Wait, Word}
use Rattle.resolv_options.specs.Defaults.{plain_values}
use Rattle.channel_model.proofs.Theorems.{turn_of}
use Rattle.channel_model.specs.Course.{Round}
use Rattle.channel_model.specs.Endings.{IsStalledBehind}
use Rattle.channel_model.specs.Setting.{Setting}
use Rattle.channel_model.specs.Turn.{HasExpired, HasStarted, IsTurn}
use Rattle.channel_progress.specs.Allowed.{attempts_allowed}
use Rattle.channel_progress.specs.Beside.{IsStalledBeside}
use Rattle.channel_progress.specs.PlainRun.{IsPlainRun}
use Rattle.channel_progress.proofs.ExampleWords.{accepts, at, heard_nothing, none_closed, none_expired, none_written, own, query, server, starts}

-- a server at 192.0.2.53 that is tried three times
abbrev setting : Setting
setting = record { options = record plain_values { servers = server ∷ [] }; hosts = [] }

-- it is due
abbrev expires : Entry
expires = own (Expire 1 0 2000)

-- what happened
abbrev journal : List Entry
journal = accepts ∷ starts 7 0 ∷ expires ∷ starts 8 2000 ∷ []

-- and what the network was called for
abbrev log : List WorldCall
log =
    Serve 0 server
    ∷ Now 0 ∷ Receive Nothing ∷ Word 7 ∷ Send 0 (query 7) WasSent ∷ Word 0 ∷ Wait 2000 Woken
    ∷ Now 2000 ∷ Receive Nothing ∷ Word 8 ∷ Send 0 (query 8) WasSent ∷ Word 0 ∷ []

-- the query is begun, and a look finds that nothing else can start
first_start : HasStarted setting 0 0 (at (accepts ∷ [])) (starts 7 0 ∷ []) (Word 7 ∷ Send 0 (query 7) WasSent ∷ Word 0 ∷ []) (at (accepts ∷ starts 7 0 ∷ []))
unfolding NameText.units_of
first_start = record {
  agrees = record { past_is = refl; held_are = refl; arrivals = refl; sends = refl; links = refl; writes = λ link. refl; faults_are = refl; in_order = refl };
  alone = refl;
  all = inl (inl refl, (record { steps = 0; few = omega arith; reached = refl; free = refl; passed = λ step before. absurd (omega (arith, before)) }, refl));
  few = omega arith;
  served = refl;
  served_first = refl;
}

-- and begun again
second_start : HasStarted setting 0 2000 (at (accepts ∷ starts 7 0 ∷ expires ∷ [])) (starts 8 2000 ∷ []) (Word 8 ∷ Send 0 (query 8) WasSent ∷ Word 0 ∷ []) (at journal)
unfolding NameText.units_of
second_start = record {
  agrees = record { past_is = refl; held_are = refl; arrivals = refl; sends = refl; links = refl; writes = λ link. refl; faults_are = refl; in_order = refl };
  alone = refl;
  all = inl (inl refl, (record { steps = 0; few = omega arith; reached = refl; free = refl; passed = λ step before. absurd (omega (arith, before)) }, refl));
  few = omega arith;
  served = refl;
  served_first = refl;
}

-- when it was due
one_expired : HasExpired setting 0 2000 (at (accepts ∷ starts 7 0 ∷ [])) (expires ∷ []) [] (at (accepts ∷ starts 7 0 ∷ expires ∷ []))
unfolding NameText.units_of
one_expired = record {
  agrees = record { past_is = refl; held_are = refl; arrivals = refl; sends = refl; links = refl; writes = λ link. refl; faults_are = refl; in_order = refl };
  alone = refl;
  all = inl tt;
  few = omega arith;
}

-- the first turn
first_turn : IsTurn setting 0 0 (at (accepts ∷ [])) (starts 7 0 ∷ []) (Now 0 ∷ Receive Nothing ∷ Word 7 ∷ Send 0 (query 7) WasSent ∷ Word 0 ∷ []) (at (accepts ∷ starts 7 0 ∷ []))
first_turn =
    turn_of setting 0 0 (at (accepts ∷ [])) (at (accepts ∷ [])) (at (accepts ∷ [])) (at (accepts ∷ starts 7 0 ∷ [])) (at (accepts ∷ starts 7 0 ∷ [])) (at (accepts ∷ starts 7 0 ∷ []))
    [] [] (starts 7 0 ∷ []) [] [] (Receive Nothing ∷ []) [] (Word 7 ∷ Send 0 (query 7) WasSent ∷ Word 0 ∷ []) [] []
    (heard_nothing setting 0 (accepts ∷ [])) (none_expired setting 0 (accepts ∷ []) tt) first_start (none_written setting 0 (accepts ∷ starts 7 0 ∷ [])) (none_closed setting 0 (accepts ∷ starts 7 0 ∷ []))

-- the second turn
second_turn : IsTurn setting 0 2000 (at (accepts ∷ starts 7 0 ∷ [])) (expires ∷ starts 8 2000 ∷ []) (Now 2000 ∷ Receive Nothing ∷ Word 8 ∷ Send 0 (query 8) WasSent ∷ Word 0 ∷ []) (at journal)
second_turn =
    turn_of setting 0 2000 (at (accepts ∷ starts 7 0 ∷ [])) (at (accepts ∷ starts 7 0 ∷ [])) (at (accepts ∷ starts 7 0 ∷ expires ∷ [])) (at journal) (at journal) (at journal)
    [] (expires ∷ []) (starts 8 2000 ∷ []) [] [] (Receive Nothing ∷ []) [] (Word 8 ∷ Send 0 (query 8) WasSent ∷ Word 0 ∷ []) [] []
    (heard_nothing setting 2000 (accepts ∷ starts 7 0 ∷ [])) one_expired second_start (none_written setting 2000 journal) (none_closed setting 2000 journal)

-- the two turns, and the wait between them
abbrev rounds : List Round
rounds =
    record {
      reading = 0;
      entries = starts 7 0 ∷ [];
      calls = Now 0 ∷ Receive Nothing ∷ Word 7 ∷ Send 0 (query 7) WasSent ∷ Word 0 ∷ [];
      new = at (accepts ∷ starts 7 0 ∷ []);
      between = [];
      asides = [];
      rest = Some (record { until = 2000; outcome = Woken });
    }
    ∷ record {
      reading = 2000;
      entries = expires ∷ starts 8 2000 ∷ [];
      calls = Now 2000 ∷ Receive Nothing ∷ Word 8 ∷ Send 0 (query 8) WasSent ∷ Word 0 ∷ [];
      new = at journal;
      between = [];
      asides = [];
      rest = None;
    }
    ∷ []

-- the request is pending behind the second turn
pub stalled : IsStalledBehind setting 0 (2 ^ 64 - 1) 2 journal log
unfolding NameText.units_of
stalled = record {
  course = record {
    first = accepts ∷ [];
    first_asides = [];
    rounds = rounds;
    journal_is = refl;
    log_is = refl;
    before = refl;
    turns_are = (first_turn, refl, refl, refl, (second_turn, refl, refl, refl, tt));
    count = refl;
    asides_are = refl;
    of_seat = refl;
  };
  left_pending = refl;
}

-- its network woke in time, and all else that the law asks for
pub plain : IsPlainRun setting 0 journal log
unfolding NameText.units_of
plain = record {
  lawful = record {
    allowed = (
      record { waits = refl; to_server = refl; over_link = refl; own_id = refl; mixes = refl },
      (
        record { due_at = 2000; first = refl; due = omega arith },
        (record { waits = refl; to_server = refl; over_link = refl; own_id = refl; mixes = refl }, ((refl, refl), tt)),
      ),
    );
  };
  alone = refl;
  some_server = omega arith;
  some_try = omega arith;
  waited = refl;
  wakes = refl;
}

-- its request may spend three attempts, so that it may take six turns
pub allowed : attempts_allowed setting journal ≡ 3
unfolding NameText.units_of
allowed = refl

-- the same run, whose clock is read once more before the first turn, between the two, and behind the last
pub beside :
    IsStalledBeside setting 0 (2 ^ 64 - 1) 2 3 journal
    (Serve 0 server
    ∷ Now 0
    ∷ Now 0 ∷ Receive Nothing ∷ Word 7 ∷ Send 0 (query 7) WasSent ∷ Word 0 ∷ Now 1 ∷ Wait 2000 Woken
    ∷ Now 2000 ∷ Receive Nothing ∷ Word 8 ∷ Send 0 (query 8) WasSent ∷ Word 0 ∷ Now 2001 ∷ [])
unfolding NameText.units_of
beside = record {
  course = record {
    first = accepts ∷ [];
    first_asides = 0 ∷ [];
    rounds =
        record {
          reading = 0;
          entries = starts 7 0 ∷ [];
          calls = Now 0 ∷ Receive Nothing ∷ Word 7 ∷ Send 0 (query 7) WasSent ∷ Word 0 ∷ [];
          new = at (accepts ∷ starts 7 0 ∷ []);
          between = [];
          asides = 1 ∷ [];
          rest = Some (record { until = 2000; outcome = Woken });
        }
        ∷ record {
          reading = 2000;
          entries = expires ∷ starts 8 2000 ∷ [];
          calls = Now 2000 ∷ Receive Nothing ∷ Word 8 ∷ Send 0 (query 8) WasSent ∷ Word 0 ∷ [];
          new = at journal;
          between = [];
          asides = 2001 ∷ [];
          rest = None;
        }
        ∷ [];
    journal_is = refl;
    log_is = refl;
    before = refl;
    turns_are = (first_turn, refl, refl, refl, (second_turn, refl, refl, refl, tt));
    count = refl;
    asides_are = refl;
    of_seat = refl;
  };
  left_pending = refl;
}
