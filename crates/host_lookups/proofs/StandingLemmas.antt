-- A run of a session, where the channel is used between two of its calls.
use Rattle.std.proofs.Common.{Bool, ap, false, refl, subst, sym, true, ◌∙◌}
use Rattle.std.proofs.lemmas.List.{append_cancel_left}
use Rattle.std.specs.Prelude.{Err, None, Ok, Option, Result, Some, [], if◌then◌else◌, ℕ, ◌==◌, ◌∷◌, ◌≡◌}
use Rattle.chan_types.specs.Plans.{Plan}
use Rattle.chan_types.specs.declared.journal.What.{What}
use Rattle.chan_types.specs.declared.journal.What.TheVariants.{Cancel, Destroy}
use Rattle.chan_types.specs.declared.spec.Spec.{Spec}
use Rattle.channel_model.proofs.Theorems.{call_goes_on}
use Rattle.channel_model.specs.Course.{has_no_turn}
use Rattle.channel_model.specs.Journal.{own_entries}
use Rattle.channel_model.specs.Known.{Calls}
use Rattle.channel_model.specs.Meanings.{Accepts, Cancels, Destroys, Meaning}
use Rattle.channel_model.specs.Seen.{entries_of}
use Rattle.channel_model.specs.declared.answers.Refused.{Refused}
use Rattle.channel_session.proofs.Theorems.{stands_between, stands_voice}
use Rattle.channel_table.specs.Calling.{Owned, known_by_owner}
use Rattle.host_lookups.specs.Extending.{StandsStill}

-- by nothing, and by one part behind another
pub still_none : (a : Owned) → StandsStill a a
still_none a sitting log began turns asides here = here

pub still_then : (a b c : Owned) → StandsStill a b → StandsStill b c → StandsStill a c
still_then a b c one two sitting log began turns asides here = two sitting log began turns asides (one sitting log began turns asides here)

-- by another voice
pub still_voice : (a b : Owned) (voice : ℕ) → b ≡ record a { voice = voice } → StandsStill a b
still_voice a b voice is = subst (λ new. StandsStill a new) (sym is) (λ sitting log began turns asides here. stands_voice (known_by_owner a) voice sitting log began turns asides here)

-- what a call adds is no turn's
abbrev is_quiet : Option What → Bool
is_quiet None = true
is_quiet (Some what) = has_no_turn (record { seat = 0; by = 0; what = what } ∷ [])

quiet_entries : (by : ℕ) (added : Option What) → is_quiet added ≡ true → has_no_turn (own_entries 0 (entries_of 0 by added)) ≡ true
quiet_entries by None quiet = refl
quiet_entries by (Some what) quiet = quiet

still_call : (meaning : Meaning) (by : ℕ) (a b : Owned) (call : Calls meaning by (known_by_owner a) (known_by_owner b)) → is_quiet call.added ≡ true → StandsStill a b
still_call meaning by a b call quiet sitting log began turns asides here =
    let goes = call_goes_on meaning by (known_by_owner a) (known_by_owner b) call in
    let since : goes.since ≡ entries_of 0 by call.added = append_cancel_left a.seen goes.since (entries_of 0 by call.added) (sym goes.seen ∙ call.own) in
    stands_between (known_by_owner a) (known_by_owner b) goes (ap (λ es. has_no_turn (own_entries 0 es)) since ∙ quiet_entries by call.added quiet) sitting log began turns asides here

pub still_accept : {T : Type 0} (plan : T → Plan) (spec : Spec) (token : T) (result : Result ℕ (Refused T)) (by : ℕ) (a b : Owned) → Calls (Accepts plan spec token result) by (known_by_owner a) (known_by_owner b) → StandsStill a b
still_accept plan spec token (Ok number) by a b call = still_call (Accepts plan spec token (Ok number)) by a b call (ap is_quiet call.meant.0)
still_accept plan spec token (Err refused) by a b call = still_call (Accepts plan spec token (Err refused)) by a b call (ap is_quiet call.meant.0)

quiet_cancel : (none : Bool) → is_quiet (if none then None else Some Cancel) ≡ true
quiet_cancel true = refl
quiet_cancel false = refl

quiet_destroy : (is_first : Bool) → is_quiet (if is_first then Some Destroy else None) ≡ true
quiet_destroy true = refl
quiet_destroy false = refl

pub still_cancel : (count : ℕ) (by : ℕ) (a b : Owned) → Calls (Cancels count) by (known_by_owner a) (known_by_owner b) → StandsStill a b
still_cancel count by a b call = still_call (Cancels count) by a b call (ap is_quiet call.meant.entry ∙ quiet_cancel (count == 0))

pub still_destroy : (is_first : Bool) (by : ℕ) (a b : Owned) → Calls (Destroys is_first) by (known_by_owner a) (known_by_owner b) → StandsStill a b
still_destroy is_first by a b call = still_call (Destroys is_first) by a b call (ap is_quiet call.meant.entry ∙ quiet_destroy is_first)
