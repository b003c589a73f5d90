-- The fate of a request, by what was taken and what is ready.
use Rattle.std.proofs.Common.{ap, ap₂, arith, ne_eqb, subst, sym, ◌∙◌}
use Rattle.std.proofs.lemmas.List.{append-nil, take-append-drop, take_all}
use Rattle.std.specs.Prelude.{Err, IfOk, List, None, Ok, Result, Option, Some, [], cond, drop, is_some, length, option_to_list, refl, suc, take, ℕ, ◌++◌, ◌<◌, ◌≤◌, ◌∷◌, ◌≡◌, ◌≢◌}
use Rattle.item_list.specs.declared.no_memory.NoMemory.{NoMemory}
use Rattle.chan_types.specs.declared.answer.Answer.{Answer}
use Rattle.chan_types.specs.declared.journal.Entry.{Entry}
use Rattle.chan_types.specs.declared.journal.What.{What}
use Rattle.chan_types.specs.declared.journal.What.TheVariants.{Take}
use Rattle.chan_types.specs.declared.ticket.Ticket.{Ticket}
use Rattle.channel_model.proofs.JournalLemmas.{fate_stays}
use Rattle.channel_model.proofs.Theorems.{completes_once, fate-kept, front_number, occurrences-append, take-ready, taken_then_ready}
use Rattle.channel_model.specs.Completion.{fate, occurrences, ready, taken, taken_by}
use Rattle.channel_model.specs.Journal.{Past, past_of}
use Rattle.channel_model.specs.Lawful.{IsLawfulPast, first}
use Rattle.channel_model.specs.Meanings.{Takes}
use Rattle.channel_model.specs.Seen.{Happens, Seen, entries_of}
use Rattle.channel_model.specs.Setting.{Setting}
use Rattle.journal_replay.proofs.CheckLemmas.{IsAt}
use Rattle.journal_replay.proofs.FollowLemmas.{added_made, some_same}
use Rattle.journal_replay.specs.Replays.{IsMade, plan_of}
use Rattle.journal_replay.specs.declared.recorded.Recorded.{Recorded}

none_if : (o : Option Answer) → ◌≡◌ {A = ℕ} 0 (cond (is_some o) 1 0) → o ≡ None
none_if None e = refl
none_if (Some answer) e = absurd (omega (arith, e))

module _ (setting : Setting) (number : ℕ) (past : Past) where
  -- where nothing is ready, what wasn't taken hasn't completed
  pub untaken_open : IsLawfulPast setting past → occurrences number (taken past) ≡ 0 → ready setting past ≡ [] → fate setting number past ≡ None
  untaken_open lawful untaken none =
      let all = taken_then_ready setting past lawful ∙ ap (λ ns. taken past ++ ns) none ∙ append-nil (taken past) in
      none_if (fate setting number past) (sym untaken ∙ sym (ap (occurrences number) all) ∙ completes_once setting number past lawful)

  -- behind an entry that doesn't take it, it isn't taken
  pub untaken_behind : (what : What) → taken_by what ≢ Some number → occurrences number (taken past) ≡ 0 → occurrences number (taken (what ∷ past)) ≡ 0
  untaken_behind what other untaken =
      let both = occurrences-append number (taken past) (option_to_list (taken_by what)) in
      let none = not_by (taken_by what) other in
      omega (arith, both, untaken, none)
    where
      not_by : (o : Option ℕ) → o ≢ Some number → occurrences number (option_to_list o) ≡ 0
      not_by None other = refl
      not_by (Some n) other = rw (ne_eqb n number (λ (e : n ≡ number). other (ap Some e))) refl

  -- a request that is taken leaves one fewer ready, and changes no fate
  pub fewer_ready : (n : ℕ) → first (ready setting past) ≡ Some n → length (ready setting past) ≡ suc (length (ready setting (Take n ∷ past)))
  fewer_ready n is = ap length (front_number (ready setting past) n is) ∙ ap (λ (ns : List ℕ). suc (length ns)) (sym (take-ready setting past n))

  pub take_keeps_fate : (n : ℕ) → fate setting number (Take n ∷ past) ≡ fate setting number past
  take_keeps_fate n = fate-kept setting (Take n) past number refl

-- what a request had come to before an index it comes to in the whole journal
pub fate_whole : (setting : Setting) (number : ℕ) (answer : Answer) (journal : List Entry) (index : ℕ) → fate setting number (past_of (take index journal)) ≡ Some answer → fate setting number (past_of journal) ≡ Some answer
fate_whole setting number answer journal index completed = fate_stays setting number answer (take index journal) journal (drop index journal, take-append-drop index journal) completed

-- requests other than this one were taken, and its fate is as it was
pub record IsPassed (number : ℕ) (old new : Seen) : Type 0 where
  pub fate_is : fate new.setting number (past_of new.journal) ≡ fate old.setting number (past_of old.journal)
  pub untaken : occurrences number (taken (past_of new.journal)) ≡ 0

module _ (number : ℕ) (old seen new : Seen) (passed : IsPassed number old seen) where
  module _ (ticket : Ticket Recorded) (h : Happens (Takes plan_of (Some ticket)) 0 0 seen new) where
    made : IsMade (Take ticket.call.number) seen new
    made = added_made seen new (Takes plan_of (Some ticket)) h (Take ticket.call.number) h.meant.0

    -- another request was taken
    pub passed_on : ticket.call.number ≢ number → IsPassed number old new
    passed_on other = record {
      fate_is =
          ap₂ (λ (s : Setting) (p : Past). fate s number p) made.setting made.past
          ∙ take_keeps_fate seen.setting number (past_of seen.journal) ticket.call.number ∙ passed.fate_is;
      untaken =
          ap (λ (p : Past). occurrences number (taken p)) made.past
          ∙ untaken_behind seen.setting number (past_of seen.journal) (Take ticket.call.number) (λ e. other (some_same _ _ e)) passed.untaken;
    }

    -- and fewer are ready
    pub fewer_left : length (ready new.setting (past_of new.journal)) < length (ready seen.setting (past_of seen.journal))
    fewer_left =
        let kept : length (ready new.setting (past_of new.journal)) ≡ length (ready seen.setting (Take ticket.call.number ∷ past_of seen.journal)) =
        ap length (ap₂ (λ (s : Setting) (p : Past). ready s p) made.setting made.past) in
        let one = fewer_ready seen.setting number (past_of seen.journal) ticket.call.number h.meant.1 in
        omega (arith, kept, one)

  -- nothing is ready any more
  pub passed_none : (h : Happens (Takes plan_of None) 0 0 seen new) → None ≡ fate old.setting number (past_of old.journal)
  passed_none h =
      let past_is : past_of new.journal ≡ past_of seen.journal = ap past_of h.journal ∙ ap (λ (added : Option What). past_of (seen.journal ++ entries_of 0 0 added)) h.meant.0 ∙ ap past_of (append-nil seen.journal) in
      let lawful : IsLawfulPast seen.setting (past_of seen.journal) = subst (λ (p : Past). IsLawfulPast seen.setting p) past_is (subst (λ (s : Setting). IsLawfulPast s (past_of new.journal)) h.setting h.lawful.allowed) in
      sym (sym passed.fate_is ∙ untaken_open seen.setting number (past_of seen.journal) lawful passed.untaken h.meant.1)

-- what was found of a request where a table stands is its fate in the whole journal
pub found_at : (setting : Setting) (journal : List Entry) (index : ℕ) (seen : Seen) (number : ℕ) (answer : Answer) → IsAt setting journal index seen → fate seen.setting number (past_of seen.journal) ≡ Some answer
    → Some answer ≡ fate setting number (past_of journal)
found_at setting journal index seen number answer at found =
    sym (fate_whole setting number answer journal index
    (subst (λ (p : Past). fate setting number p ≡ Some answer) at.past_is (subst (λ (s : Setting). fate s number (past_of seen.journal) ≡ Some answer) at.setting_is found)))

-- where all entries were made once more, what is found is the fate in the whole journal
pub found_at_end : (setting : Setting) (journal : List Entry) (index : ℕ) (seen : Seen) (number : ℕ) (result : Result (Option Answer) NoMemory) → IsAt setting journal index seen → length journal ≤ index → IfOk result (λ answer. answer ≡ fate seen.setting number (past_of seen.journal))
    → IfOk result (λ answer. answer ≡ fate setting number (past_of journal))
found_at_end setting journal index seen number (Ok answer) at all is =
    is ∙ ap₂ (λ (s : Setting) (p : Past). fate s number p) at.setting_is (at.past_is ∙ ap past_of (take_all index journal all))
found_at_end setting journal index seen number (Err failed) at all is = tt

-- behind an entry that was made and doesn't take it, it isn't taken
pub untaken_next : (number : ℕ) (what : What) (old new : Seen) → IsMade what old new → taken_by what ≢ Some number → occurrences number (taken (past_of old.journal)) ≡ 0 → occurrences number (taken (past_of new.journal)) ≡ 0
untaken_next number what old new made other untaken =
    ap (λ (p : Past). occurrences number (taken p)) made.past ∙ untaken_behind old.setting number (past_of old.journal) what other untaken
