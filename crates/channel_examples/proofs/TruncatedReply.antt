-- A reply over UDP is truncated, and the question goes to the same server over a TCP link, whose bytes come in two pieces, each in a turn of its own.
use Rattle.std.proofs.Common.{ℕ, ◌==◌, if◌then◌else◌, List, [], ◌∷◌, ◌++◌, take, drop, Some, None, refl, arith, inl, ◌<◌}
use Rattle.chan_types.specs.declared.journal.Entry.{Entry}
use Rattle.chan_types.specs.declared.journal.What.TheVariants.{Accept, Start, Arrive, Take, Destroy}
use Rattle.chan_types.specs.Plans.{blank}
use Rattle.net_world.specs.declared.answers.Sent.TheVariants.{Sent}
use Rattle.net_world.specs.declared.answers.Wrote.TheVariants.{Count}
use Rattle.net_world.specs.declared.answers.Got.TheVariants.{Datagram, Piece, Nothing}
use Rattle.net_world.specs.declared.answers.Waited.TheVariants.{Woken}
use Rattle.net_world.specs.declared.log.WorldCall.{WorldCall}
use Rattle.net_world.specs.declared.log.WorldCall.TheVariants.{Serve, Now, Word, Send, Connect, Write, Receive, Close, Wait}
use Rattle.net_addr.specs.declared.addr.Addr.TheVariants.{V4}
use Rattle.resolv_options.specs.Defaults.{plain_values}
use Rattle.channel_model.specs.Course.{Round, IsCourse}
use Rattle.channel_model.specs.Frames.{framed}
use Rattle.channel_model.specs.Journal.{past_of}
use Rattle.channel_model.specs.Links.{Link}
use Rattle.channel_model.specs.Setting.{Setting}
use Rattle.channel_model.specs.Stretch.{Standing}
use Rattle.channel_model.specs.Traffic.{TrafficAgrees}
use Rattle.channel_model.specs.Turn.{IsTurn, HasStarted}
use Rattle.channel_examples.specs.Words.{channel_with, one_server, ask_x, good_reply, reply_with_flags}
use Rattle.channel_model.proofs.Theorems.{course_agrees, turn_of}
use Rattle.channel_examples.proofs.Words.{own, query, all_written, received_nothing, word_itself, nothing_expires, nothing_written, nothing_closed, nothing_starts}
use Rattle.dns_message.specs.NameText as NameText
use Rattle.dns_message.specs.Reading as Reading

abbrev pub setting : Setting
setting = channel_with (record plain_values { servers = one_server })

-- the truncated reply, with the flags QR, TC, RD and RA
abbrev pub truncated : List ℕ
truncated = reply_with_flags 7 0x8380

abbrev pub journal : List Entry
journal =
    own (Accept 1 ask_x (blank 0))
    ∷ own (Start 1 0 0 0 7 None 0)
    ∷ own (Arrive 0 0 truncated)
    ∷ own (Start 1 0 0 1 8 None 1)
    ∷ own (Arrive 0 1 (good_reply 8))
    ∷ own (Take 1)
    ∷ own Destroy
    ∷ []

-- the first byte that comes on the link, and the others
abbrev pub early : List ℕ
early = take 1 (framed (good_reply 8))

abbrev pub late : List ℕ
late = drop 1 (framed (good_reply 8))

abbrev pub log : List WorldCall
log =
    Serve 0 (record { address = V4 3221226037; port = 53 })
    ∷ Now 0 ∷ Receive Nothing ∷ Word 7 ∷ Send 0 (query 7) Sent ∷ Word 99
    ∷ Wait 20 Woken
    ∷ Now 1 ∷ Receive (Datagram 0 truncated) ∷ Receive Nothing ∷ Word 8 ∷ Connect 0 1 Sent ∷ Word 99 ∷ Write 1 (framed (query 8)) (Count 37)
    ∷ Wait 21 Woken
    ∷ Now 2 ∷ Receive (Piece 1 early) ∷ Receive Nothing ∷ Word 99
    ∷ Wait 22 Woken
    ∷ Now 3 ∷ Receive (Piece 1 late) ∷ Receive Nothing ∷ Word 99 ∷ Close 1
    ∷ []

-- the link, with these bytes that came
abbrev pub link_with : List ℕ → List Link
link_with unread = record { number = 1; server = 0; unread = unread } ∷ []

-- where the first so many entries stand, with these held links
abbrev pub stands : ℕ → List Link → Standing
stands count held = record { past = past_of (take count journal); held = held; unwritten = all_written }

-- where the second query is to be written
abbrev pub queued_second : Standing
queued_second = record { past = past_of (take 4 journal); held = link_with []; unwritten = λ link. (if 1 == link then framed (query 8) else []) ++ [] }

pub first_start : HasStarted setting 0 0 (stands 1 []) (own (Start 1 0 0 0 7 None 0) ∷ []) (Word 7 ∷ Send 0 (query 7) Sent ∷ Word 99 ∷ []) (stands 2 [])
unfolding NameText.units_of Reading.message_read Reading.question_of Reading.record_of Reading.name_of Reading.run_of
first_start = record {
  agrees = record { past_is = refl; held_are = refl; arrivals = refl; sends = refl; links = refl; writes = λ link. refl; faults_are = refl; in_order = refl };
  alone = refl;
  all = inl (inl refl, (word_itself setting 7 (past_of (take 1 journal)) refl refl, refl));
  few = omega arith;
  served = refl;
  served_first = refl;
}

pub first_turn : IsTurn setting 0 0 (stands 1 []) (own (Start 1 0 0 0 7 None 0) ∷ []) (Now 0 ∷ Receive Nothing ∷ Word 7 ∷ Send 0 (query 7) Sent ∷ Word 99 ∷ []) (stands 2 [])
unfolding NameText.units_of Reading.message_read Reading.question_of Reading.record_of Reading.name_of Reading.run_of
first_turn =
    turn_of setting 0 0 (stands 1 []) (stands 1 []) (stands 1 []) (stands 2 []) (stands 2 []) (stands 2 [])
    [] [] (own (Start 1 0 0 0 7 None 0) ∷ []) [] [] (Receive Nothing ∷ []) [] (Word 7 ∷ Send 0 (query 7) Sent ∷ Word 99 ∷ []) [] []
    (record {
      agrees = record { past_is = refl; held_are = refl; arrivals = refl; sends = refl; links = refl; writes = λ link. refl; faults_are = refl; in_order = refl };
      alone = refl;
      all = received_nothing;
      closed = refl;
    })
    (nothing_expires setting 0 0 (stands 1 []) tt) first_start (nothing_written setting 0 0 (stands 2 []) refl) (nothing_closed setting 0 0 (stands 2 []) refl)

pub second_start : HasStarted setting 0 1 (stands 3 []) (own (Start 1 0 0 1 8 None 1) ∷ []) (Word 8 ∷ Connect 0 1 Sent ∷ Word 99 ∷ []) queued_second
unfolding NameText.units_of Reading.message_read Reading.question_of Reading.record_of Reading.name_of Reading.run_of
second_start = record {
  agrees = record { past_is = refl; held_are = refl; arrivals = refl; sends = refl; links = refl; writes = λ link. refl; faults_are = refl; in_order = refl };
  alone = refl;
  all = inl (inl refl, (word_itself setting 8 (past_of (take 3 journal)) refl refl, refl));
  few = omega arith;
  served = refl;
  served_first = refl;
}

pub second_turn : IsTurn setting 0 1 (stands 2 []) (own (Arrive 0 0 truncated) ∷ own (Start 1 0 0 1 8 None 1) ∷ [])
    (Now 1 ∷ Receive (Datagram 0 truncated) ∷ Receive Nothing ∷ Word 8 ∷ Connect 0 1 Sent ∷ Word 99 ∷ Write 1 (framed (query 8)) (Count 37) ∷ []) (stands 4 (link_with []))
unfolding NameText.units_of Reading.message_read Reading.question_of Reading.record_of Reading.name_of Reading.run_of
second_turn =
    turn_of setting 0 1 (stands 2 []) (stands 3 []) (stands 3 []) queued_second (stands 4 (link_with [])) (stands 4 (link_with []))
    (own (Arrive 0 0 truncated) ∷ []) [] (own (Start 1 0 0 1 8 None 1) ∷ []) [] []
    (Receive (Datagram 0 truncated) ∷ Receive Nothing ∷ []) [] (Word 8 ∷ Connect 0 1 Sent ∷ Word 99 ∷ []) (Write 1 (framed (query 8)) (Count 37) ∷ []) []
    (record {
      agrees = record { past_is = refl; held_are = refl; arrivals = refl; sends = refl; links = refl; writes = λ link. refl; faults_are = refl; in_order = refl };
      alone = refl;
      all = inl (record { items = Datagram 0 truncated ∷ []; gots_are = refl; no_earlier = refl }, omega arith);
      closed = refl;
    })
    (nothing_expires setting 0 1 (stands 3 []) tt) second_start
    (record {
      agrees = record { past_is = refl; held_are = refl; arrivals = refl; sends = refl; links = refl; writes = λ link. refl; faults_are = refl; in_order = refl };
      alone = refl;
      all = refl;
      to_held = refl;
      closed = refl;
    })
    (nothing_closed setting 0 1 (stands 4 (link_with [])) refl)

-- a turn without an entry: it has received a byte of a frame
pub third_turn : IsTurn setting 0 2 (stands 4 (link_with [])) [] (Now 2 ∷ Receive (Piece 1 early) ∷ Receive Nothing ∷ Word 99 ∷ []) (stands 4 (link_with early))
unfolding NameText.units_of Reading.message_read Reading.question_of Reading.record_of Reading.name_of Reading.run_of
third_turn =
    turn_of setting 0 2 (stands 4 (link_with [])) (stands 4 (link_with early)) (stands 4 (link_with early)) (stands 4 (link_with early)) (stands 4 (link_with early)) (stands 4 (link_with early))
    [] [] [] [] [] (Receive (Piece 1 early) ∷ Receive Nothing ∷ []) [] (Word 99 ∷ []) [] []
    (record {
      agrees = record { past_is = refl; held_are = refl; arrivals = refl; sends = refl; links = refl; writes = λ link. refl; faults_are = refl; in_order = refl };
      alone = refl;
      all = inl (record { items = Piece 1 early ∷ []; gots_are = refl; no_earlier = refl }, omega arith);
      closed = refl;
    })
    (nothing_expires setting 0 2 (stands 4 (link_with early)) (let later : 2 < 2001 = omega arith in later)) (nothing_starts setting 0 2 (stands 4 (link_with early)) 99 refl refl)
    (nothing_written setting 0 2 (stands 4 (link_with early)) refl) (nothing_closed setting 0 2 (stands 4 (link_with early)) refl)

-- the rest of the frame comes, and the link is closed in the same turn
pub fourth_turn : IsTurn setting 0 3 (stands 4 (link_with early)) (own (Arrive 0 1 (good_reply 8)) ∷ [])
    (Now 3 ∷ Receive (Piece 1 late) ∷ Receive Nothing ∷ Word 99 ∷ Close 1 ∷ []) (stands 5 [])
unfolding NameText.units_of Reading.message_read Reading.question_of Reading.record_of Reading.name_of Reading.run_of
fourth_turn =
    turn_of setting 0 3 (stands 4 (link_with early)) (stands 5 (link_with [])) (stands 5 (link_with [])) (stands 5 (link_with [])) (stands 5 (link_with [])) (stands 5 [])
    (own (Arrive 0 1 (good_reply 8)) ∷ []) [] [] [] [] (Receive (Piece 1 late) ∷ Receive Nothing ∷ []) [] (Word 99 ∷ []) [] (Close 1 ∷ [])
    (record {
      agrees = record { past_is = refl; held_are = refl; arrivals = refl; sends = refl; links = refl; writes = λ link. refl; faults_are = refl; in_order = refl };
      alone = refl;
      all = inl (record { items = Piece 1 late ∷ []; gots_are = refl; no_earlier = refl }, omega arith);
      closed = refl;
    })
    (nothing_expires setting 0 3 (stands 5 (link_with [])) tt) (nothing_starts setting 0 3 (stands 5 (link_with [])) 99 refl refl)
    (nothing_written setting 0 3 (stands 5 (link_with [])) refl)
    (record {
      agrees = record { past_is = refl; held_are = refl; arrivals = refl; sends = refl; links = refl; writes = λ link. refl; faults_are = refl; in_order = refl };
      alone = refl;
      all = refl;
      closed = refl;
    })

abbrev pub rounds : List Round
rounds =
    record {
      reading = 0;
      entries = own (Start 1 0 0 0 7 None 0) ∷ [];
      calls = Now 0 ∷ Receive Nothing ∷ Word 7 ∷ Send 0 (query 7) Sent ∷ Word 99 ∷ [];
      new = stands 2 [];
      between = [];
      asides = [];
      rest = Some (record { until = 20; outcome = Woken });
    }
    ∷ record {
      reading = 1;
      entries = own (Arrive 0 0 truncated) ∷ own (Start 1 0 0 1 8 None 1) ∷ [];
      calls = Now 1 ∷ Receive (Datagram 0 truncated) ∷ Receive Nothing ∷ Word 8 ∷ Connect 0 1 Sent ∷ Word 99 ∷ Write 1 (framed (query 8)) (Count 37) ∷ [];
      new = stands 4 (link_with []);
      between = [];
      asides = [];
      rest = Some (record { until = 21; outcome = Woken });
    }
    ∷ record {
      reading = 2;
      entries = [];
      calls = Now 2 ∷ Receive (Piece 1 early) ∷ Receive Nothing ∷ Word 99 ∷ [];
      new = stands 4 (link_with early);
      between = [];
      asides = [];
      rest = Some (record { until = 22; outcome = Woken });
    }
    ∷ record {
      reading = 3;
      entries = own (Arrive 0 1 (good_reply 8)) ∷ [];
      calls = Now 3 ∷ Receive (Piece 1 late) ∷ Receive Nothing ∷ Word 99 ∷ Close 1 ∷ [];
      new = stands 5 [];
      between = own (Take 1) ∷ own Destroy ∷ [];
      asides = [];
      rest = None;
    }
    ∷ []

pub course : IsCourse setting 0 20 journal log 4 0
unfolding NameText.units_of Reading.message_read Reading.question_of Reading.record_of Reading.name_of Reading.run_of
course = record {
  first = own (Accept 1 ask_x (blank 0)) ∷ [];
  first_asides = [];
  rounds = rounds;
  journal_is = refl;
  log_is = refl;
  before = refl;
  turns_are = (first_turn, refl, refl, refl, (second_turn, refl, refl, refl, (third_turn, refl, refl, refl, (fourth_turn, refl, refl, refl, tt))));
  count = refl;
  asides_are = refl;
  of_seat = refl;
}

pub agrees : TrafficAgrees setting 0 journal log
agrees = course_agrees setting 0 20 journal log 4 0 course
