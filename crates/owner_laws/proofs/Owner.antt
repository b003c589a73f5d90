-- What a call of a channel's one owner did: the journal has nobody else's entries.
use Rattle.std.proofs.Common.{◌≡◌, ◌≢◌, ◌∙◌, ℕ, ◌==◌, ◌||◌, Bool, false, List, [], ◌∷◌, length, ap, sym, subst}
use Rattle.std.specs.Prelude.{Option, Some, unwrap_or}
use Rattle.std.proofs.lemmas.List.{append_cancel_left, append_cancel_right}
use Rattle.chan_types.specs.declared.journal.Entry.{Entry}
use Rattle.net_world.specs.declared.answers.Waited.{Waited}
use Rattle.net_world.specs.declared.log.WorldCall.{WorldCall}
use Rattle.channel_model.specs.Completion.{pending, ready}
use Rattle.channel_model.specs.Course.{skips}
use Rattle.channel_model.specs.Journal.{own_entries, past_of}
use Rattle.channel_model.specs.Known.{Calls, GoesOn}
use Rattle.channel_model.specs.Meanings.{Meaning}
use Rattle.channel_model.specs.Names.{Names}
use Rattle.channel_model.specs.Seen.{Happens, Seen, entries_of}
use Rattle.channel_model.specs.Setting.{Setting}
use Rattle.channel_table.specs.Calling.{Owned, known_by_owner}
use Rattle.event_runner.specs.declared.answers.Paused.{Paused}
use Rattle.event_runner.specs.declared.answers.Paused.TheVariants.{Skipped, WaitFault, Woken}
use Rattle.event_runner.specs.Running.{HasLooked, HasWaited, PausesBy}
use Rattle.event_runner.proofs.Theorems.{waited_here}

-- the channel as its table has it
abbrev pub seen_by : Owned → Seen
seen_by channel = record { setting = channel.setting; journal = channel.seen }

-- channels with the same setting, voice, journal and names of tokens are one; the owner knows the names
pub owned_same : (a b : Owned) → b.setting ≡ a.setting → b.voice ≡ a.voice → b.seen ≡ a.seen → Some b.names ≡ Some a.names → b ≡ a
owned_same a b setting voice seen names =
    let by_setting : Setting → Owned = λ s. record { setting = s; voice = b.voice; seen = b.seen; names = b.names } in
    let by_voice : ℕ → Owned = λ v. record { setting = a.setting; voice = v; seen = b.seen; names = b.names } in
    let by_seen : List Entry → Owned = λ j. record { setting = a.setting; voice = a.voice; seen = j; names = b.names } in
    let by_names : Option Names → Owned = λ known. record { setting = a.setting; voice = a.voice; seen = a.seen; names = unwrap_or known a.names } in
    ap by_setting setting ∙ ap by_voice voice ∙ ap by_seen seen ∙ ap by_names names

-- a call of the owner took effect at the journal's end
abbrev pub owner_called : (meaning : Meaning) (by : ℕ) (a b : Owned) → Calls meaning by (known_by_owner a) (known_by_owner b) → Happens meaning 0 by (seen_by a) (seen_by b)
owner_called meaning by a b call =
    let here : call.here ≡ a.seen = append_cancel_right call.here a.seen (entries_of 0 by call.added) (sym call.seen ∙ call.own) in
    record {
      added = call.added;
      meant = subst (λ journal. meaning a.setting (past_of journal) call.added) here call.meant;
      setting = call.desk.setting;
      journal = call.own;
      lawful = call.lawful;
    }

-- what came while the owner's desk went on is his own
pub owner_went_on : (a b : Owned) (goes : GoesOn (known_by_owner a) (known_by_owner b)) → own_entries 0 goes.since ≡ goes.since
owner_went_on a b goes = append_cancel_left a.seen (own_entries 0 goes.since) goes.since (sym goes.own ∙ goes.seen)

-- a look left the channel as it was
pub looked_same : (a b : Owned) → HasLooked (known_by_owner a) (known_by_owner b) → b ≡ a
looked_same a b looked = owned_same a b looked.goes_on.desk.setting looked.goes_on.desk.voice looked.own looked.names

-- so did a wait
pub waited_same : (latest : ℕ) (outcome : Waited) (a b : Owned) (l m : Option (List WorldCall)) → HasWaited latest outcome (known_by_owner a) (known_by_owner b) l m → b ≡ a
waited_same latest outcome a b l m waited =
    let one = waited.looked in
    let two = waited.looked_again in
    owned_same a b (two.goes_on.desk.setting ∙ one.goes_on.desk.setting) (two.goes_on.desk.voice ∙ one.goes_on.desk.voice) (two.own ∙ one.own) (two.names ∙ one.names)

-- and any pause
pub paused_same : (latest : ℕ) (answer : Paused) (a b : Owned) (l m : Option (List WorldCall)) → PausesBy latest answer (known_by_owner a) (known_by_owner b) l m → b ≡ a
paused_same latest Skipped a b l m skipped = looked_same a b skipped.looked
paused_same latest Woken a b l m waited = waited_same latest _ a b l m waited
paused_same latest WaitFault a b l m waited = waited_same latest _ a b l m waited

-- where a run doesn't go on without a wait, a request is pending
unskipped : (xs : List ℕ) (rest others : Bool) → ((length xs == 0) || rest || others) ≡ false → xs ≢ []
unskipped [] rest others fails none = absurd (cc fails)
unskipped (x ∷ xs) rest others fails none = absurd (cc none)

-- what is ready stays so behind a pause
pub paused_ready : (latest : ℕ) (answer : Paused) (a b : Owned) (l m : Option (List WorldCall)) → PausesBy latest answer (known_by_owner a) (known_by_owner b) l m → ready a.setting (past_of a.seen) ≡ [] → ready b.setting (past_of b.seen) ≡ []
paused_ready latest answer a b l m pauses none = subst (λ c. ready c.setting (past_of c.seen) ≡ []) (sym (paused_same latest answer a b l m pauses)) none

-- behind a wait a request is pending
pub waited_pending : (latest : ℕ) (outcome : Waited) (a b : Owned) (l m : Option (List WorldCall)) → HasWaited latest outcome (known_by_owner a) (known_by_owner b) l m → pending b.setting (past_of b.seen) ≢ []
waited_pending latest outcome a b l m waited =
    let same : b ≡ a = waited_same latest outcome a b l m waited in
    let here : skips a.setting (past_of a.seen) ≡ false = waited_here latest outcome (known_by_owner a) l m (subst (λ c. HasWaited latest outcome (known_by_owner a) (known_by_owner c) l m) same waited) in
    subst (λ c. pending c.setting (past_of c.seen) ≢ []) (sym same) (unskipped (pending a.setting (past_of a.seen)) _ _ here)
