-- Parts of a turn that want of memory cut short: their receives, words, servers and closed links still have to be right.
-- Each that isn't so is refused by one condition alone.
use Rattle.std.proofs.Common.{◌≡◌, ℕ, ◌==◌, if◌then◌else◌, List, [], ◌∷◌, ◌++◌, take, Bool, true, false, None, refl, ap, subst, ◌⊎◌, arith, inl, inr}
use Rattle.std.specs.Prelude.{IsFalse, IsTrue, not}
use Rattle.std.specs.List.{list_all, list_any}
use mathlib.Core.List.{IsPrefix}
use Rattle.chan_types.specs.declared.journal.Entry.{Entry}
use Rattle.chan_types.specs.declared.journal.What.TheVariants.{Fault, Start}
use Rattle.chan_types.specs.declared.server_key.ServerKey.{ServerKey}
use Rattle.net_world.specs.declared.answers.Got.{Got}
use Rattle.net_world.specs.declared.answers.Got.TheVariants.{Datagram, Nothing}
use Rattle.net_world.specs.declared.answers.Sent.TheVariants.{Sent}
use Rattle.net_world.specs.declared.answers.Wrote.TheVariants.{Count, Failed as NotWritten}
use Rattle.net_world.specs.declared.log.WorldCall.{WorldCall}
use Rattle.net_world.specs.declared.log.WorldCall.TheVariants.{Close, Receive, Send, Serve, Word, Write}
use Rattle.channel_model.specs.CutShort.{HasOneMore}
use Rattle.channel_model.specs.Frames.{framed}
use Rattle.channel_model.specs.Journal.{past_of}
use Rattle.channel_model.specs.Traffic.{of_datagram}
use Rattle.channel_model.specs.Turn.{EndsWithNothing, IsPartialReceive, WasCut, closing, is_nothing, is_sent_to, receiving, starting, writing}
use Rattle.channel_examples.specs.SetServers as SetServers
use Rattle.channel_examples.specs.SetServers.{at_host, keyed}
use Rattle.channel_examples.specs.Words.{good_reply}
use Rattle.channel_examples.proofs.CutTurns.{not_noted, not_sent}
use Rattle.channel_examples.proofs.FirstFree.{another_than_the_word}
use Rattle.channel_examples.proofs.Starts.{first_host, first_on_it, renewed}
use Rattle.channel_examples.proofs.TruncatedReply.{setting, journal, link_with, queued_second, stands}
use Rattle.channel_examples.proofs.Words.{own, query, word_itself}
use Rattle.dns_message.specs.NameText as NameText
use Rattle.dns_message.specs.Reading as Reading

-- ---- receiving

-- a message came, and can't be noted any more
pub message_not_noted : WasCut setting 0 1 receiving (stands 2 []) [] (Receive (Datagram 0 (good_reply 7)) ∷ [])
message_not_noted = record { nearly = not_noted; alone = refl; by_rule = (record { ends = inr refl; few = omega arith }, ([], refl)) }

-- behind a Nothing it doesn't receive
pub behind_nothing : IsPartialReceive (Nothing ∷ Nothing ∷ []) → ⊥
behind_nothing part = by_end part.ends
  where
    by_items : (items : List Got) → Nothing ∷ Nothing ∷ [] ≡ items ++ Nothing ∷ [] → IsFalse (list_any is_nothing items) → ⊥
    by_items [] same none = cc same
    by_items (got ∷ items) same none = let is : got ≡ Nothing = cc same in cc (none, is)

    by_end : EndsWithNothing (Nothing ∷ Nothing ∷ []) ⊎ IsFalse (list_any is_nothing (Nothing ∷ Nothing ∷ [])) → ⊥
    by_end (inl ends) = by_items ends.items ends.gots_are ends.no_earlier
    by_end (inr none) = cc none

-- and what is of another part isn't in it
pub word_inside : WasCut setting 0 1 receiving (stands 2 []) [] (Receive Nothing ∷ Word 7 ∷ []) → ⊥
word_inside cut = cc cut.alone

-- ---- starting: words

abbrev start : List Entry
start = own (Start 1 0 0 0 7 None 0) ∷ []

-- cut behind a Start whose query was sent
pub behind_a_start : WasCut setting 0 0 starting (stands 1 []) start (Word 7 ∷ Send 0 (query 7) Sent ∷ [])
unfolding NameText.units_of
behind_a_start = record {
  nearly = record { arrivals = inl refl; sends = inl refl; links = inl refl; writes = λ link. ([], refl); faults_are = inl refl; in_order = inl (inl refl) };
  alone = refl;
  by_rule = (omega arith, (word_itself setting 7 (past_of (take 1 journal)) refl refl, refl), inl refl, refl);
}

-- cut behind a Start, before its query was sent
pub query_not_sent : WasCut setting 0 0 starting (stands 1 []) start (Word 7 ∷ [])
unfolding NameText.units_of
query_not_sent = record { nearly = not_sent; alone = refl; by_rule = (omega arith, (word_itself setting 7 (past_of (take 1 journal)) refl refl, refl), inl refl, refl) }

-- the Start has a word, and its identifier is that of the word
pub no_word : WasCut setting 0 0 starting (stands 1 []) start (Send 0 (query 7) Sent ∷ []) → ⊥
no_word cut = cut.by_rule.1

pub another_word : WasCut setting 0 0 starting (stands 1 []) start (Word 8 ∷ Send 0 (query 7) Sent ∷ []) → ⊥
another_word cut = another_than_the_word cut.by_rule.1.0

-- ---- starting: servers

-- the later server is told before its first query
pub told_first : WasCut SetServers.setting 0 2000 starting (renewed 5) first_on_it (Word 9 ∷ Serve 2 (at_host 3) ∷ Send 2 (query 9) Sent ∷ [])
unfolding NameText.units_of
told_first = record {
  nearly = record { arrivals = inl refl; sends = inl refl; links = inl refl; writes = λ link. ([], refl); faults_are = inl refl; in_order = inl (inl refl) };
  alone = refl;
  by_rule = (omega arith, (word_itself SetServers.setting 9 (past_of (take 5 SetServers.journal)) refl refl, refl), inl refl, refl);
}

-- it isn't told with another address
pub told_otherwise : WasCut SetServers.setting 0 2000 starting (renewed 5) first_on_it (Word 9 ∷ Serve 2 (at_host 1) ∷ Send 2 (query 9) Sent ∷ []) → ⊥
unfolding NameText.units_of
told_otherwise cut = by_cases cut.by_rule.2
  where
    by_cases : {Unsent : HasOneMore (keyed 2 3 ∷ []) (keyed 2 1 ∷ []) → Type 0} → (keyed 2 3 ∷ [] ≡ keyed 2 1 ∷ []) ⊎ ((more : HasOneMore (keyed 2 3 ∷ []) (keyed 2 1 ∷ [])) × Unsent more) → ⊥
    by_cases (inl same) = let host : ◌≡◌ {A = ℕ} 3221225987 3221225985 = ap first_host same in omega (arith, host)
    by_cases (inr more) = cc more.0.is_behind

-- nor behind its query
pub told_late : WasCut SetServers.setting 0 2000 starting (renewed 5) first_on_it (Word 9 ∷ Send 2 (query 9) Sent ∷ Serve 2 (at_host 3) ∷ []) → ⊥
told_late cut = cc cut.by_rule.3

-- and none is told without a Start on it
pub told_for_none : WasCut SetServers.setting 0 2000 starting (renewed 5) [] (Word 9 ∷ Serve 2 (at_host 3) ∷ []) → ⊥
told_for_none cut = by_cases cut.by_rule.2
  where
    by_cases : {Unsent : HasOneMore [] (keyed 2 3 ∷ []) → Type 0} → ([] ≡ keyed 2 3 ∷ []) ⊎ ((more : HasOneMore [] (keyed 2 3 ∷ [])) × Unsent more) → ⊥
    by_cases (inl same) = cc same
    by_cases (inr more) = cc more.0.is_behind

-- where memory was wanting it isn't told any more, and its query isn't sent
pub not_told : WasCut SetServers.setting 0 2000 starting (renewed 5) first_on_it (Word 9 ∷ [])
unfolding NameText.units_of
not_told = record {
  nearly = record {
    arrivals = inl refl;
    sends = inr (record { last = record { server = 2; link = 0; bytes = query 9 }; is_behind = refl });
    links = inl refl;
    writes = λ link. ([], refl);
    faults_are = inl refl;
    in_order = inr (record { last = of_datagram (record { server = 2; link = 0; bytes = query 9 }); is_behind = refl }, refl);
  };
  alone = refl;
  by_rule = (
    omega arith,
    (word_itself SetServers.setting 9 (past_of (take 5 SetServers.journal)) refl refl, refl),
    inr (record { last = keyed 2 3; is_behind = refl }, refl),
    refl,
  );
}

-- nothing is sent to a server that wasn't told
abbrev untold_calls : List WorldCall
untold_calls = Word 9 ∷ Send 2 (query 9) Sent ∷ []

pub sent_untold : WasCut SetServers.setting 0 2000 starting (renewed 5) first_on_it untold_calls → ⊥
unfolding NameText.units_of
sent_untold cut = by_cases cut.by_rule.2
  where
    by_cases : (keyed 2 3 ∷ [] ≡ []) ⊎ ((more : HasOneMore (keyed 2 3 ∷ []) []) × IsTrue (list_all (λ call. not (is_sent_to more.last.key call)) untold_calls)) → ⊥
    by_cases (inl same) = cc same
    by_cases (inr more) =
        let is : more.0.last ≡ keyed 2 3 = cc more.0.is_behind in
        cc (subst (λ (server : ServerKey). IsTrue (list_all (λ call. not (is_sent_to server.key call)) untold_calls)) is more.1)

-- ---- writing: the links that fail

-- the query's write fails
abbrev failed : WorldCall
failed = Write 1 (framed (query 8)) NotWritten

-- that nothing of it was written is the beginning of what was to be
none_written : (b c : Bool) → IsPrefix ((if b then [] else []) ++ []) (((if c then framed (query 8) else []) ++ []) ++ [])
none_written true c = (((if c then framed (query 8) else []) ++ []) ++ [], refl)
none_written false c = (((if c then framed (query 8) else []) ++ []) ++ [], refl)

-- cut behind the failure, before its link was closed
pub not_yet_closed : WasCut setting 0 1 writing queued_second (own (Fault 0 1 1) ∷ []) (failed ∷ [])
unfolding NameText.units_of Reading.message_read Reading.question_of Reading.record_of Reading.name_of Reading.run_of
not_yet_closed = record {
  nearly = record { arrivals = inl refl; sends = inl refl; links = inl refl; writes = λ link. none_written (1 == link) (1 == link); faults_are = inl refl; in_order = inl (inl refl) };
  alone = refl;
  by_rule = (refl, (1 ∷ [], refl));
}

-- a link that didn't fail isn't closed
pub closed_for_nothing : WasCut setting 0 1 writing queued_second [] (Write 1 (framed (query 8)) (Count 30) ∷ Close 1 ∷ []) → ⊥
closed_for_nothing cut = cc cut.by_rule.1.1

-- nor one twice that did
pub closed_twice : WasCut setting 0 1 writing queued_second (own (Fault 0 1 1) ∷ []) (failed ∷ Close 1 ∷ Close 1 ∷ []) → ⊥
closed_twice cut = cc cut.by_rule.1.1

-- ---- closing: the links that are held

-- the only link isn't busy any more, and is closed
pub idle_closed : WasCut setting 0 3 closing (stands 5 (link_with [])) [] (Close 1 ∷ [])
unfolding NameText.units_of Reading.message_read Reading.question_of Reading.record_of Reading.name_of Reading.run_of
idle_closed = record {
  nearly = record { arrivals = inl refl; sends = inl refl; links = inl refl; writes = λ link. ([], refl); faults_are = inl refl; in_order = inl (inl refl) };
  alone = refl;
  by_rule = (refl, refl);
}

-- one that isn't held isn't closed, nor is one twice
pub other_closed : WasCut setting 0 3 closing (stands 5 (link_with [])) [] (Close 2 ∷ []) → ⊥
other_closed cut = cc cut.by_rule.0

pub idle_closed_twice : WasCut setting 0 3 closing (stands 5 (link_with [])) [] (Close 1 ∷ Close 1 ∷ []) → ⊥
idle_closed_twice cut = cc cut.by_rule.0
