-- How the channel of a run goes on: by an Accept, and by what a session makes of it.
use Rattle.std.proofs.Common.{◌≡◌, ◌≢◌, ◌∙◌, ℕ, ◌+◌, ◌≤◌, ◌==◌, ◌&&◌, ◌||◌, Bool, true, false, cond, List, [], ◌∷◌, ◌++◌, length, not, refl, ap, sym, subst, arith, inl, inr}
use Rattle.std.specs.Prelude.{Err, None, Ok, Some, filter_map, is_some, option_to_list}
use Rattle.std.specs.List.{list_all}
use Rattle.std.proofs.lemmas.Bool.{and_from, and_parts}
use Rattle.std.proofs.lemmas.List.{append-nil, append_assoc, append_cancel_left, length-append}
use Rattle.chan_types.specs.Plans.{Plan, blank}
use Rattle.chan_types.specs.declared.journal.Entry.{Entry}
use Rattle.chan_types.specs.declared.journal.What.{What}
use Rattle.chan_types.specs.declared.journal.What.TheVariants.{Accept, Arrive, Cancel, Destroy, Expire, Fault, Servers, Start, Take}
use Rattle.chan_types.specs.declared.spec.Spec.{Spec}
use Rattle.chan_types.specs.declared.ticket.Ticket.{Ticket}
use Rattle.channel_model.proofs.Theorems.{call_goes_on, followed_by-append}
use Rattle.channel_model.specs.Completion.{fate, pending, ready, taken, taken_by}
use Rattle.channel_model.specs.Course.{has_no_turn, is_of_turn}
use Rattle.channel_model.specs.Journal.{Past, accepted, accepted_by, followed_by, own_entries, past_of}
use Rattle.channel_model.specs.Known.{Calls, GoesOn, Known}
use Rattle.channel_model.specs.Meanings.{Accepts, Meaning, Takes}
use Rattle.channel_model.specs.Seen.{entries_of}
use Rattle.channel_model.specs.declared.answers.Refused.{Refused}
use Rattle.channel_model.specs.Turn.{parts_of_entry}
use Rattle.channel_session.proofs.BegunLemmas.{begun_behind}
use Rattle.channel_session.specs.Advancing.{AreOfSession, is_of_session, taken_in}
use Rattle.channel_session.specs.Progressing.{IsLeftOver}
use Rattle.channel_session.specs.Sitting.{IsCount, reach_of}
use Rattle.channel_table.specs.Calling.{Owned, known_by_owner}
use Rattle.event_runner.proofs.Theorems.{MayStand, runs_behind}
use Rattle.owner_laws.specs.PlainEntries.{is_plain_entry, leaves_running}
use Rattle.owner_laws.proofs.Owner.{owner_called, owner_went_on}
use Rattle.tool_line.specs.Words.{Text}
use Rattle.channel_session.proofs.Theorems.{taken_behind}
use Rattle.owner_laws.specs.Sessions.{longest_slice}
use Rattle.acache_tool.specs.Bringing.{AsksFor, StandsStill}
use Rattle.acache_tool.specs.Growing.{Grows}
use Rattle.acache_tool.specs.Parts.{asks_for, spec_for}
use Rattle.owner_laws.proofs.ListLemmas.{no_items, own_seats}
use Rattle.acache_tool.proofs.RequestLemmas.{fate_later, past_on}

-- what a session makes leaves the channel running, and accepts nothing
session_runs : (what : What) → (not (length (parts_of_entry what) == 0) || is_some (taken_by what)) ≡ true → (leaves_running what ≡ true) × (accepted_by what ≡ None)
session_runs (Accept number spec script) is = absurd (cc is)
session_runs Cancel is = absurd (cc is)
session_runs Destroy is = absurd (cc is)
session_runs (Take number) is = (refl, refl)
session_runs (Start number leg server link id mix moment) is = (refl, refl)
session_runs (Arrive server link bytes) is = (refl, refl)
session_runs (Expire number leg moment) is = (refl, refl)
session_runs (Fault server link moment) is = (refl, refl)
session_runs (Servers list) is = absurd (cc is)

all_plain : (es : List Entry) → list_all (λ e. e.seat == 0) es ≡ true → list_all is_of_session es ≡ true → list_all is_plain_entry es ≡ true
all_plain [] seats all = refl
all_plain (e ∷ es) seats all =
    let here = and_parts (e.seat == 0) (list_all (λ x. x.seat == 0) es) seats in
    let this = and_parts (is_of_session e) (list_all is_of_session es) all in
    let parts = and_parts (is_of_turn e || is_some (taken_by e.what)) (e.by == 0) this.0 in
    and_from (is_plain_entry e) (list_all is_plain_entry es)
    (and_from ((e.seat == 0) && (e.by == 0)) (leaves_running e.what) (and_from (e.seat == 0) (e.by == 0) here.0 parts.1) (session_runs e.what parts.0).0)
    (all_plain es here.1 this.1)

accepted_on : (past : Past) (es : List Entry) → list_all is_of_session es ≡ true → accepted (followed_by past es) ≡ accepted past
accepted_on past [] all = refl
accepted_on past (e ∷ es) all =
    let this = and_parts (is_of_session e) (list_all is_of_session es) all in
    let parts = and_parts (is_of_turn e || is_some (taken_by e.what)) (e.by == 0) this.0 in
    accepted_on (e.what ∷ past) es this.1 ∙ ap (λ found. accepted past ++ option_to_list found) (session_runs e.what parts.0).1 ∙ append-nil (accepted past)

-- a session went on with the channel
pub grows_on : (takes : List ℕ) (a b : Owned) (goes : GoesOn (known_by_owner a) (known_by_owner b)) → AreOfSession 0 goes.since → taken_in 0 goes.since ≡ takes → Grows [] takes a b
grows_on takes a b goes own took =
    let all : own_entries 0 goes.since ≡ goes.since = owner_went_on a b goes in
    let seats : list_all (λ e. e.seat == 0) goes.since ≡ true = subst (λ es. list_all (λ e. e.seat == 0) es ≡ true) all (own_seats 0 goes.since) in
    let of_session : list_all is_of_session goes.since ≡ true = subst (λ es. list_all is_of_session es ≡ true) all own in
    let past : past_of b.seen ≡ followed_by (past_of a.seen) goes.since = past_on a.seen b.seen goes.since goes.seen in
    record {
      entries = goes.since;
      seen = goes.seen;
      setting = goes.desk.setting;
      voice = goes.desk.voice;
      lawful = goes.lawful;
      plain = all_plain goes.since seats of_session;
      accepts_are = ap accepted past ∙ accepted_on (past_of a.seen) goes.since of_session ∙ sym (append-nil (accepted (past_of a.seen)));
      takes_are = ap taken past ∙ taken_behind (past_of a.seen) goes.since
          ∙ ap (λ l. taken (past_of a.seen) ++ l) (ap (filter_map (λ e. taken_by e.what)) (sym all) ∙ took);
    }

-- nothing was done
pub grows_none : (a : Owned) → Grows [] [] a a
grows_none a = record {
  entries = [];
  seen = sym (append-nil a.seen);
  setting = refl;
  voice = refl;
  lawful = λ was. was;
  plain = refl;
  accepts_are = sym (append-nil (accepted (past_of a.seen)));
  takes_are = sym (append-nil (taken (past_of a.seen)));
}

-- entries of no turn leave a run where it stands
stands_still : (a b : Owned) (call_goes : GoesOn (known_by_owner a) (known_by_owner b)) → has_no_turn call_goes.since ≡ true → StandsStill a b
stands_still a b goes none session log began turns asides here = record {
  count = here.count;
  reading = here.reading;
  runs = runs_behind longest_slice turns asides began log (reach_of session.behind_turn) (known_by_owner a) (known_by_owner b) session.running goes
      (ap has_no_turn (owner_went_on a b goes) ∙ none) (may session.behind_turn here.count) here.runs;
  begun = begun_behind longest_slice turns (known_by_owner a) (known_by_owner b) goes began log here.begun;
}
  where
    may : (behind : Bool) → IsCount behind turns → MayStand turns (reach_of behind) 0 goes.since
    may true count = inr (inl refl)
    may false count = inl count

-- by the entries that a call added
stands_called : (meaning : Meaning) (by : ℕ) (es : List Entry) (a b : Owned) (call : Calls meaning by (known_by_owner a) (known_by_owner b)) → b.seen ≡ a.seen ++ es → has_no_turn es ≡ true → StandsStill a b
stands_called meaning by es a b call seen none =
    let goes = call_goes_on meaning by (known_by_owner a) (known_by_owner b) call in
    let same : goes.since ≡ es = append_cancel_left a.seen goes.since es (sym goes.seen ∙ seen) in
    stands_still a b goes (ap has_no_turn same ∙ none)

pub stands_same : (a : Owned) → StandsStill a a
stands_same a session log began turns asides here = here

-- a name was asked for
pub asks_name : {T : Type 0} (plan : T → Plan) (spec : Spec) (token : T) (number : ℕ) (name : Text) (a b : Owned) → spec ≡ spec_for name → plan token ≡ blank 0 → a.voice ≡ 0 →
    Calls (Accepts plan spec token (Ok number)) a.voice (known_by_owner a) (known_by_owner b) → AsksFor name (Ok tt) a b
asks_name plan spec token number name a b same quiet silent call =
    let happens = owner_called (Accepts plan spec token (Ok number)) a.voice a b call in
    let next : ℕ = length (accepted (past_of a.seen)) + 1 in
    let entry : ℕ → ℕ → Spec → Plan → List Entry = λ by n asks script. record { seat = 0; by = by; what = Accept n asks script } ∷ [] in
    let added : entries_of 0 a.voice happens.added ≡ asks_for next name ∷ [] =
    ap (entries_of 0 a.voice) happens.meant.0
    ∙ ap (λ v. entry v number spec (plan token)) silent ∙ ap (λ n. entry 0 n spec (plan token)) happens.meant.2
    ∙ ap (λ asks. entry 0 next asks (plan token)) same ∙ ap (λ script. entry 0 next (spec_for name) script) quiet in
    let seen : b.seen ≡ a.seen ++ asks_for next name ∷ [] = happens.journal ∙ ap (λ es. a.seen ++ es) added in
    let past : past_of b.seen ≡ followed_by (past_of a.seen) (asks_for next name ∷ []) = past_on a.seen b.seen (asks_for next name ∷ []) seen in (
      record {
        entries = asks_for next name ∷ [];
        seen = seen;
        setting = call.desk.setting;
        voice = call.desk.voice;
        lawful = λ was. call.lawful;
        plain = refl;
        accepts_are = ap accepted past;
        takes_are = ap taken past;
      },
      seen,
      stands_called (Accepts plan spec token (Ok number)) a.voice (asks_for next name ∷ []) a b call seen refl,
    )

-- or it was refused
pub asks_none : {T : Type 0} (plan : T → Plan) (spec : Spec) (token : T) (refused : Refused T) (a b : Owned) →
    Calls (Accepts plan spec token (Err refused)) a.voice (known_by_owner a) (known_by_owner b) → Grows [] [] a b × StandsStill a b
asks_none plan spec token refused a b call =
    let happens = owner_called (Accepts plan spec token (Err refused)) a.voice a b call in
    let seen : b.seen ≡ a.seen ++ [] = happens.journal ∙ ap (λ added. a.seen ++ entries_of 0 a.voice added) happens.meant.0 in
    let same : b.seen ≡ a.seen = seen ∙ append-nil a.seen in (
      record {
        entries = [];
        seen = seen;
        setting = call.desk.setting;
        voice = call.desk.voice;
        lawful = λ was. call.lawful;
        plain = refl;
        accepts_are = ap (λ journal. accepted (past_of journal)) same ∙ sym (append-nil (accepted (past_of a.seen)));
        takes_are = ap (λ journal. taken (past_of journal)) same ∙ sym (append-nil (taken (past_of a.seen)));
      },
      stands_called (Accepts plan spec token (Err refused)) a.voice [] a b call seen refl,
    )

-- what was taken has its fate
pub taken_fate : {T : Type 0} (plan : T → Plan) (ticket : Ticket T) (before new : Known) → Calls (Takes plan (Some ticket)) 0 before new → fate new.setting ticket.call.number (past_of new.seen) ≡ Some ticket.call
taken_fate plan ticket before new call =
    let number : ℕ = ticket.call.number in
    let es : List Entry = entries_of before.seat 0 call.added in
    let here : fate before.setting number (followed_by (past_of call.here) es) ≡ Some ticket.call = fate_later before.setting number (past_of call.here) es ticket.call call.meant.2 in
    let journal : fate before.setting number (past_of (call.here ++ es)) ≡ Some ticket.call = ap (fate before.setting number) (followed_by-append [] call.here es) ∙ here in
    subst (λ setting. fate setting number (past_of new.seen) ≡ Some ticket.call) (sym call.desk.setting)
    (subst (λ seen. fate before.setting number (past_of seen) ≡ Some ticket.call) (sym call.seen) journal)

-- a filtered list isn't longer
own_few : (seat : ℕ) (es : List Entry) → length (own_entries seat es) ≤ length es
own_few seat [] = omega arith
own_few seat (e ∷ es) = by (e.seat == seat) (own_few seat es)
  where
    by : (b : Bool) → length (own_entries seat es) ≤ length es → length (cond b (e ∷ own_entries seat es) (own_entries seat es)) ≤ length (e ∷ es)
    by true h = omega (arith, h)
    by false h = omega (arith, h)

-- where nothing was ready and something is left, a request is pending
pub left_pending : (a b : Owned) → IsLeftOver (known_by_owner a) (known_by_owner b) → pending b.setting (past_of b.seen) ≢ []
left_pending a b left none =
    let first : List Entry = left.from.since in
    let more : List Entry = left.looked.goes_on.since in
    let seen : b.seen ≡ a.seen ++ (first ++ more) = left.looked.goes_on.seen ∙ ap (λ l. l ++ more) left.from.seen ∙ append_assoc a.seen first more in
    let own : b.seen ≡ a.seen ++ own_entries 0 first = left.looked.own ∙ left.from.own in
    let same : own_entries 0 first ≡ first ++ more = append_cancel_left a.seen (own_entries 0 first) (first ++ more) (sym own ∙ seen) in
    let nothing : more ≡ [] = no_items more (omega (arith, own_few 0 first, ap length same, length-append first more)) in
    let here : b.seen ≡ left.before.seen = left.looked.goes_on.seen ∙ ap (λ l. left.before.seen ++ l) nothing ∙ append-nil left.before.seen in
    let ready_here : ready b.setting (past_of b.seen) ≡ [] =
    ap (λ s. ready s (past_of b.seen)) left.looked.goes_on.desk.setting ∙ ap (λ journal. ready left.before.setting (past_of journal)) here ∙ left.none_ready in
    left.some (none, ready_here)
