-- Turns that want of memory cut short: what may be missing at their end, and that nothing is noted of what didn't happen.
use Rattle.std.proofs.Common.{[], ◌∷◌, None, refl, arith, inl, inr}
use Rattle.chan_types.specs.declared.journal.Entry.{Entry}
use Rattle.chan_types.specs.declared.journal.What.TheVariants.{Arrive, Fault, Start}
use Rattle.net_world.specs.declared.answers.Got.TheVariants.{Datagram}
use Rattle.net_world.specs.declared.answers.Sent.TheVariants.{Sent}
use Rattle.net_world.specs.declared.log.WorldCall.TheVariants.{Receive, Send, Word}
use Rattle.channel_model.specs.CutShort.{FallsShort, MayLackOne, NearlyAgrees}
use Rattle.channel_model.specs.Traffic.{Parcel, Route, datagrams, faults, messages, of_datagram}
use Rattle.channel_model.specs.Turn.{WasCut, starting}
use Rattle.channel_examples.specs.Words.{good_reply}
use Rattle.channel_examples.specs.MixedCase as MixedCase
use Rattle.channel_examples.proofs.Starts.{mixed}
use Rattle.channel_examples.proofs.TruncatedReply.{setting, stands}
use Rattle.channel_examples.proofs.Words.{own, query}
use Rattle.dns_message.specs.NameText as NameText

abbrev start : Entry
start = own (Start 1 0 0 0 7 None 0)

abbrev sending : Parcel
sending = record { server = 0; link = 0; bytes = query 7 }

abbrev reply : Parcel
reply = record { server = 0; link = 0; bytes = good_reply 7 }

-- ---- a Start

-- its query may not be sent any more
pub not_sent : NearlyAgrees setting 0 (stands 1 []) (start ∷ []) (Word 7 ∷ [])
unfolding NameText.units_of
not_sent = record {
  arrivals = inl refl;
  sends = inr (record { last = sending; is_behind = refl });
  links = inl refl;
  writes = λ link. ([], refl);
  faults_are = inl refl;
  in_order = inr (record { last = of_datagram sending; is_behind = refl }, refl);
}

-- but none is sent without a Start
pub sent_for_none : NearlyAgrees setting 0 (stands 1 []) [] (Word 7 ∷ Send 0 (query 7) Sent ∷ []) → ⊥
sent_for_none near = by_cases near.sends
  where
    by_cases : MayLackOne datagrams [] (Word 7 ∷ Send 0 (query 7) Sent ∷ []) [] → ⊥
    by_cases (inl same) = cc same
    by_cases (inr more) = cc more.is_behind

-- ---- what came

-- a message may not be noted any more
pub not_noted : NearlyAgrees setting 0 (stands 2 []) [] (Receive (Datagram 0 (good_reply 7)) ∷ [])
not_noted = record {
  arrivals = inr (record { earlier = []; last = Receive (Datagram 0 (good_reply 7)); calls_are = refl; reached = ([], refl); not_passed = (reply ∷ [], refl) });
  sends = inl refl;
  links = inl refl;
  writes = λ link. ([], refl);
  faults_are = inl refl;
  in_order = inl (inr (record { earlier = []; last = Receive (Datagram 0 (good_reply 7)); calls_are = refl; reached = ([], refl); not_passed = (_, refl) }));
}

-- but none is noted that didn't come, nor is one noted twice
pub forged_message : NearlyAgrees setting 0 (stands 2 []) (own (Arrive 0 0 (good_reply 7)) ∷ []) [] → ⊥
forged_message near = by_cases near.arrivals
  where
    by_cases : FallsShort messages [] [] (reply ∷ []) → ⊥
    by_cases (inl same) = cc same
    by_cases (inr stops) = cc stops.not_passed.1

pub noted_twice : NearlyAgrees setting 0 (stands 2 []) (own (Arrive 0 0 (good_reply 7)) ∷ own (Arrive 0 0 (good_reply 7)) ∷ []) (Receive (Datagram 0 (good_reply 7)) ∷ []) → ⊥
noted_twice near = by_cases near.arrivals
  where
    by_cases : FallsShort messages [] (Receive (Datagram 0 (good_reply 7)) ∷ []) (reply ∷ reply ∷ []) → ⊥
    by_cases (inl same) = cc same
    by_cases (inr stops) = cc stops.not_passed.1

-- and no failure that didn't happen
pub forged_fault : NearlyAgrees setting 0 (stands 2 []) (own (Fault 0 0 1) ∷ []) [] → ⊥
forged_fault near = by_cases near.faults_are
  where
    failure : Route
    failure = record { server = 0; link = 0 }

    by_cases : FallsShort faults [] [] (failure ∷ []) → ⊥
    by_cases (inl same) = cc same
    by_cases (inr stops) = cc stops.not_passed.1

-- ---- words

-- where the case of letters is drawn, the second word of a look may not be drawn any more
pub one_of_two : WasCut MixedCase.setting 0 0 starting (mixed 2) [] (Word 7 ∷ [])
one_of_two = record {
  nearly = record { arrivals = inl refl; sends = inl refl; links = inl refl; writes = λ link. ([], refl); faults_are = inl refl; in_order = inl (inl refl) };
  alone = refl;
  by_rule = (omega arith, refl, inl refl, refl);
}

-- but no more are drawn than those of one look
pub words_too_many : WasCut setting 0 0 starting (stands 2 []) [] (Word 7 ∷ Word 8 ∷ []) → ⊥
words_too_many cut = cc cut.by_rule.1
