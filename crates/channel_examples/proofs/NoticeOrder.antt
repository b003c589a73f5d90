-- A reply came, and behind it a refusal. Noted in that order the request is answered; the other way round it isn't, and nothing but the order is wrong.
use Rattle.std.proofs.Common.{◌≡◌, List, [], ◌∷◌, ◌++◌, take, Some, None, refl, subst, arith, inl, inr}
use mathlib.Core.List.{IsPrefix}
use Rattle.chan_types.specs.declared.journal.Entry.{Entry}
use Rattle.chan_types.specs.declared.journal.What.TheVariants.{Arrive, Fault, Start}
use Rattle.chan_types.specs.declared.status.Status.TheVariants.{Success}
use Rattle.net_world.specs.declared.answers.Got.TheVariants.{Datagram, Nothing, Failed as LinkFailed}
use Rattle.net_world.specs.declared.answers.Sent.TheVariants.{Failed as NotSent}
use Rattle.net_world.specs.declared.log.WorldCall.{WorldCall}
use Rattle.net_world.specs.declared.log.WorldCall.TheVariants.{Receive, Send, Word}
use Rattle.resolv_options.specs.Defaults.{plain_values}
use Rattle.channel_model.specs.CutShort.{FallsShort, NearlyAgrees, NearlyInOrder}
use Rattle.channel_model.specs.Journal.{past_of}
use Rattle.channel_model.specs.Links.{told}
use Rattle.channel_model.specs.Merge.{bare}
use Rattle.channel_model.specs.Setting.{Setting}
use Rattle.channel_model.specs.Stretch.{Standing, behind}
use Rattle.channel_model.specs.Traffic.{Notice, arrived, asked, datagrams, faulted, faults, messages, noted, of_fault, of_message}
use Rattle.channel_model.specs.Turn.{receiving, HasReceived, HasStarted, WasCut}
use Rattle.channel_examples.specs.SecondReply.{journal, setting}
use Rattle.channel_examples.specs.Words.{accepts, ask_x, channel_with, fate_in, good_reply, journal_of, one_server}
use Rattle.channel_examples.proofs.Words.{all_written, own, query}
use Rattle.dns_message.specs.NameText as NameText
use Rattle.dns_message.specs.Reading as Reading

-- the query is out, and no link is held
abbrev pub waiting_for_it : Standing
waiting_for_it = record { past = past_of (take 2 journal); held = []; unwritten = all_written }

-- the reply and then the refusal
abbrev pub came : List WorldCall
came = Receive (Datagram 0 (good_reply 7)) ∷ Receive (LinkFailed 0 0) ∷ Receive Nothing ∷ []

abbrev pub as_it_came : List Entry
as_it_came = own (Arrive 0 0 (good_reply 7)) ∷ own (Fault 0 0 1) ∷ []

abbrev pub turned_round : List Entry
turned_round = own (Fault 0 0 1) ∷ own (Arrive 0 0 (good_reply 7)) ∷ []

-- so they are noted
pub in_order : HasReceived setting 0 1 waiting_for_it as_it_came came (behind waiting_for_it as_it_came)
in_order = record {
  agrees = record { past_is = refl; held_are = refl; arrivals = refl; sends = refl; links = refl; writes = λ link. refl; faults_are = refl; in_order = refl };
  alone = refl;
  all = inl (record { items = Datagram 0 (good_reply 7) ∷ LinkFailed 0 0 ∷ []; gots_are = refl; no_earlier = refl }, omega arith);
  closed = refl;
}

-- and the request is answered
pub answered : fate_in setting (take 2 journal ++ as_it_came) 1 ≡ Some (bare 1 Success (good_reply 7))
unfolding NameText.units_of Reading.message_read Reading.question_of Reading.record_of Reading.name_of Reading.run_of
answered = refl

-- the other way round the reply is a stray
pub unanswered : fate_in setting (take 2 journal ++ turned_round) 1 ≡ None
unfolding NameText.units_of Reading.message_read Reading.question_of Reading.record_of Reading.name_of Reading.run_of
unanswered = refl

-- though the messages are those that came, and so are the faults
pub same_messages : noted 0 arrived waiting_for_it.past turned_round ≡ told messages waiting_for_it.held came
same_messages = refl

pub same_faults : noted 0 faulted waiting_for_it.past turned_round ≡ told faults waiting_for_it.held came
same_faults = refl

abbrev reply_notice : Notice
reply_notice = of_message (record { server = 0; link = 0; bytes = good_reply 7 })

abbrev fault_notice : Notice
fault_notice = of_fault (record { server = 0; link = 0 })

-- the order refuses it
pub out_of_order : (new : Standing) → HasReceived setting 0 1 waiting_for_it turned_round came new → ⊥
out_of_order new made =
    let same : fault_notice ∷ reply_notice ∷ [] ≡ reply_notice ∷ fault_notice ∷ [] = made.agrees.in_order in
    cc same

-- the two, where want of memory cut the part short behind them
abbrev pub cut_calls : List WorldCall
cut_calls = Receive (Datagram 0 (good_reply 7)) ∷ Receive (LinkFailed 0 0) ∷ []

-- the fault, which came last, may be left out
pub fault_left_out : NearlyAgrees setting 0 waiting_for_it (own (Arrive 0 0 (good_reply 7)) ∷ []) cut_calls
fault_left_out = record {
  arrivals = inl refl;
  sends = inl refl;
  links = inl refl;
  writes = λ link. ([], refl);
  faults_are = inr (record {
    earlier = Receive (Datagram 0 (good_reply 7)) ∷ [];
    last = Receive (LinkFailed 0 0);
    calls_are = refl;
    reached = ([], refl);
    not_passed = (record { server = 0; link = 0 } ∷ [], refl);
  });
  in_order = inl (inr (record {
    earlier = Receive (Datagram 0 (good_reply 7)) ∷ [];
    last = Receive (LinkFailed 0 0);
    calls_are = refl;
    reached = ([], refl);
    not_passed = (fault_notice ∷ [], refl);
  }));
}

-- but the reply may not, since a call stands behind it
pub messages_stop : FallsShort messages waiting_for_it.held cut_calls (noted 0 arrived waiting_for_it.past (own (Fault 0 0 1) ∷ [])) → ⊥
messages_stop (inl same) = cc same
messages_stop (inr stops) = by stops.earlier stops.calls_are stops.reached
  where
    by : (earlier : List WorldCall) → cut_calls ≡ earlier ++ stops.last ∷ [] → IsPrefix (told messages [] earlier) [] → ⊥
    by [] is reached = cc is
    by (x ∷ []) is reached = let same : x ≡ Receive (Datagram 0 (good_reply 7)) = cc in cc (subst (λ call. told messages [] (call ∷ []) ++ reached.0 ≡ []) same reached.1)
    by (x ∷ y ∷ []) is reached = cc is
    by (x ∷ y ∷ z ∷ earlier) is reached = cc is

-- and the fault isn't noted without the message before it
pub reply_left_out : WasCut setting 0 1 receiving waiting_for_it (own (Fault 0 0 1) ∷ []) cut_calls → ⊥
reply_left_out cut = by_cases cut.nearly.in_order
  where
    by_cases : NearlyInOrder [] cut_calls (fault_notice ∷ []) → ⊥
    by_cases (inl (inl same)) = cc same
    by_cases (inl (inr stops)) = cc stops.not_passed.1
    by_cases (inr more) = cc more.0.is_behind

-- ---- sends that fail

-- one try each
abbrev pub once : Setting
once = channel_with (record plain_values { servers = one_server; tries = 1 })

-- two requests were accepted, and nothing was asked
abbrev pub two_wait : Standing
two_wait = record { past = past_of (journal_of (accepts 1 ask_x ∷ accepts 2 ask_x ∷ [])); held = []; unwritten = all_written }

-- neither query can be sent
abbrev pub unsent : List WorldCall
unsent = Word 7 ∷ Send 0 (query 7) NotSent ∷ Word 8 ∷ Send 0 (query 8) NotSent ∷ Word 0 ∷ []

abbrev pub starts_first : List Entry
starts_first = own (Start 1 0 0 0 7 None 0) ∷ own (Start 2 0 0 0 8 None 0) ∷ own (Fault 0 0 0) ∷ own (Fault 0 0 0) ∷ []

-- the queries are those that went out, and the faults those that were told
pub same_sends : noted 0 (asked once) two_wait.past starts_first ≡ told datagrams two_wait.held unsent
unfolding NameText.units_of
same_sends = refl

pub same_failures : noted 0 faulted two_wait.past starts_first ≡ told faults two_wait.held unsent
same_failures = refl

-- but each Fault stands behind its own Start, since it closes every attempt over its link
pub faults_last : (new : Standing) → HasStarted once 0 0 two_wait starts_first unsent new → ⊥
unfolding NameText.units_of
faults_last new made = cc made.agrees.in_order
