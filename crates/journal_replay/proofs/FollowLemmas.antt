-- An entry that is made once more: what the table's call answers says whether it is the one that was wanted.
use Rattle.std.proofs.Common.{ap, ap₂, arith, eq-eqb, eqb-true, subst, sym, true≢false, ⊎_elim, ◌∙◌}
use Rattle.std.proofs.lemmas.Bool.{cases_Bool}
use Rattle.std.specs.Prelude.{if◌then◌else◌, Bool, Decides, Err, IfSome, List, None, Ok, Option, Some, [], false, length, map, not, refl, true, unwrap_or, ℕ, ◌<◌, ◌++◌, ◌==◌, ◌∷◌, ◌≡◌, ◌≢◌}
use Rattle.chan_types.specs.declared.journal.What.{What}
use Rattle.chan_types.specs.declared.journal.What.TheVariants.{Accept, Arrive, Cancel, Destroy, Expire, Fault, Servers, Take}
use Rattle.chan_types.specs.declared.refusal.Refusal.TheVariants.{Closed}
use Rattle.chan_types.specs.declared.script.Script.{Script}
use Rattle.chan_types.specs.declared.server_key.ServerKey.{ServerKey}
use Rattle.chan_types.specs.declared.spec.Spec.{Spec}
use Rattle.chan_types.specs.declared.ticket.Ticket.{Ticket}
use Rattle.channel_model.proofs.ListLemmas.{none_is_some}
use Rattle.channel_model.proofs.Theorems.{past_of-push}
use Rattle.channel_model.specs.Completion.{pending}
use Rattle.channel_model.specs.Journal.{past_of, is_destroyed}
use Rattle.channel_model.specs.Lawful.{Due, IsAllowed, MayExpire, MaySet, first}
use Rattle.channel_model.specs.Legs.{Leg, leg_of}
use Rattle.channel_model.specs.Servers.{keys_for, rekeyed}
use Rattle.channel_model.specs.Meanings.{Accepts, Arrives, Cancels, Destroys, Expires, Fails, Meaning, SetsServers, Takes}
use Rattle.channel_model.specs.Seen.{Happens, Seen, entries_of}
use Rattle.channel_model.specs.declared.answers.Landed.{Landed}
use Rattle.channel_model.specs.declared.answers.Landed.TheVariants.{Matched, Stray}
use Rattle.channel_model.specs.declared.answers.Lapse.TheVariants.{Expired, NotDue}
use Rattle.channel_model.specs.declared.answers.Refused.{Refused}
use Rattle.net_addr.specs.declared.addr.ServerAddr.{ServerAddr}
use Rattle.journal_replay.specs.Kept.{KnowsKeys}
use Rattle.journal_replay.specs.Replays.{Follows, IsMade, plan_of}
use Rattle.journal_replay.specs.declared.keys.Keys.{Keys}
use Rattle.journal_replay.specs.declared.recorded.Recorded.{Recorded}

-- of two values that are there and the same each is the other
pub some_same : {A : Type 0} (x y : A) → ◌≡◌ {A = Option A} (Some x) (Some y) → x ≡ y
some_same x y e = ap (λ o. unwrap_or o x) e

-- a list of no length is empty
nil_if : {A : Type 0} (xs : List A) → length xs ≡ 0 → xs ≡ []
nil_if [] e = refl
nil_if (x ∷ xs) e = absurd (omega (arith, e))

-- what isn't followed isn't allowed
pub not_allowed : (what : What) (old new : Seen) (b : Bool) → Follows what old new b → b ≡ false → ¬ IsAllowed old.setting (past_of old.journal) what
not_allowed what old new b follows never allowed = true≢false (sym (follows.decides.1 allowed) ∙ never)

module _ (old new : Seen) where
  -- what isn't allowed isn't followed
  pub refused : (what : What) → ¬ IsAllowed old.setting (past_of old.journal) what → Follows what old new false
  refused what never = record { decides = (λ e. absurd (true≢false (sym e)), λ a. absurd (never a)); made = λ e. absurd (true≢false (sym e)) }

  module _ (meaning : Meaning) (h : Happens meaning 0 0 old new) where
    -- what a call added was made
    pub added_made : (what : What) → h.added ≡ Some what → IsMade what old new
    added_made what e = record {
      setting = h.setting;
      past = ap past_of h.journal ∙ ap (λ added. past_of (old.journal ++ entries_of 0 0 added)) e ∙ past_of-push old.journal (record { seat = 0; by = 0; what = what });
      lawful = h.lawful;
    }

    -- where a test says that what was added is what is wanted, and what is wanted passes it, it decides
    pub followed : (what : What) (b : Bool) → (b ≡ true → IsAllowed old.setting (past_of old.journal) what × (h.added ≡ Some what)) → (IsAllowed old.setting (past_of old.journal) what → b ≡ true) → Follows what old new b
    followed what b so only = record { decides = (λ e. (so e).0, only); made = λ e. added_made what (so e).1 }

  -- accept: the number that it gives is the wanted one
  pub accepted_follows : (number given : ℕ) (copy spec : Spec) (script : Script) (token : Recorded) (h : Happens (Accepts plan_of copy token (Ok given)) 0 0 old new)
      → copy ≡ spec → plan_of token ≡ script → Follows (Accept number spec script) old new (given == number)
  accepted_follows number given copy spec script token h same planned =
      followed (Accepts plan_of copy token (Ok given)) h (Accept number spec script) (given == number)
      (λ e. let is : given ≡ number = eqb-true given number e in
      ((h.meant.1, sym is ∙ h.meant.2), h.meant.0 ∙ (λ k. Some (Accept (is k) (same k) (planned k)))))
      (λ a. eq-eqb given number (h.meant.2 ∙ sym a.1))

  -- it refuses as closed what isn't allowed
  pub closed_refuses : (number : ℕ) (copy spec : Spec) (script : Script) (token : Recorded) (refusal : Refused Recorded) (h : Happens (Accepts plan_of copy token (Err refusal)) 0 0 old new)
      → refusal.why ≡ Closed → Follows (Accept number spec script) old new false
  closed_refuses number copy spec script token refusal h closed =
      refused (Accept number spec script) (λ a. true≢false (sym (h.meant.1.0 closed) ∙ a.0))

  -- cancel: something was pending
  pub cancelled_follows : (count : ℕ) (h : Happens (Cancels count) 0 0 old new) → Follows Cancel old new (not (count == 0))
  cancelled_follows count h = ⊎_elim
      (λ (none : (count == 0) ≡ true).
      let empty : pending old.setting (past_of old.journal) ≡ [] = nil_if _ (sym h.meant.all_pending ∙ eqb-true count 0 none) in
      subst (λ b. Follows Cancel old new (not b)) (sym none) (refused Cancel (λ some. some empty)))
      (λ (some : (count == 0) ≡ false).
      subst (λ b. Follows Cancel old new (not b)) (sym some)
      (followed (Cancels count) h Cancel true
      (λ e. ((λ none. true≢false (sym (eq-eqb count 0 (h.meant.all_pending ∙ ap length none)) ∙ some)), h.meant.entry ∙ ap (λ b. if b then None else Some Cancel) some))
      (λ a. refl)))
      (cases_Bool (count == 0))

  -- destroy: it was the first
  pub destroyed_follows : (is_first : Bool) (h : Happens (Destroys is_first) 0 0 old new) → Follows Destroy old new is_first
  destroyed_follows is_first h =
      followed (Destroys is_first) h Destroy is_first
      (λ e. (open_if (is_destroyed (past_of old.journal)) (sym h.meant.answer ∙ e), h.meant.entry ∙ ap (λ b. if b then Some Destroy else None) e))
      (λ a. h.meant.answer ∙ ap not a)
    where
      open_if : (b : Bool) → not b ≡ true → b ≡ false
      open_if true e = absurd (true≢false (sym e))
      open_if false e = refl

  -- take: the first ready request is the wanted one
  pub taken_follows : (number own : ℕ) (ticket : Ticket Recorded) (h : Happens (Takes plan_of (Some ticket)) 0 0 old new) → own ≡ ticket.call.number → Follows (Take number) old new (own == number)
  taken_follows number own ticket h own_is =
      followed (Takes plan_of (Some ticket)) h (Take number) (own == number)
      (λ e. let is : ticket.call.number ≡ number = sym own_is ∙ eqb-true own number e in
      (h.meant.1 ∙ ap Some is, h.meant.0 ∙ ap (λ n. Some (Take n)) is))
      (λ a. eq-eqb own number (own_is ∙ some_same ticket.call.number number (sym h.meant.1 ∙ a)))

  -- none is ready
  pub untaken_refuses : (number : ℕ) (h : Happens (Takes plan_of None) 0 0 old new) → Follows (Take number) old new false
  untaken_refuses number h = refused (Take number) (λ a. none_is_some number (sym (ap first h.meant.1) ∙ a))

  -- arrive: a message is always allowed
  pub arrived_follows : (server link : ℕ) (bytes : List ℕ) (landed : Landed) (h : Happens (Arrives server link bytes (Ok landed)) 0 0 old new) → Follows (Arrive server link bytes) old new true
  arrived_follows server link bytes (Matched number leg) h = followed (Arrives server link bytes (Ok (Matched number leg))) h (Arrive server link bytes) true (λ e. (tt, h.meant.0)) (λ a. refl)
  arrived_follows server link bytes Stray h = followed (Arrives server link bytes (Ok Stray)) h (Arrive server link bytes) true (λ e. (tt, h.meant.0)) (λ a. refl)

  -- fault: so is a link that fails
  pub failed_follows : (server link moment count : ℕ) (h : Happens (Fails server link moment (Ok count)) 0 0 old new) → Follows (Fault server link moment) old new true
  failed_follows server link moment count h = followed (Fails server link moment (Ok count)) h (Fault server link moment) true (λ e. (tt, h.meant.0)) (λ a. refl)

  -- expire: the leg that is due first is the wanted one
  pub expired_follows : (number leg moment due due_leg : ℕ) (b : Bool) (h : Happens (Expires moment (Ok (Expired due due_leg))) 0 0 old new)
      → (b ≡ true → (due ≡ number) × (due_leg ≡ leg)) → ((due ≡ number) × (due_leg ≡ leg) → b ≡ true) → Follows (Expire number leg moment) old new b
  expired_follows number leg moment due due_leg b h to from =
      followed (Expires moment (Ok (Expired due due_leg))) h (Expire number leg moment) b
      (λ e. (
        subst (λ (l : Leg). MayExpire old.setting (past_of old.journal) l moment) (ap₂ leg_of (to e).0 (to e).1) h.meant.1,
        h.meant.0 ∙ ap₂ (λ n l. Some (Expire n l moment)) (to e).0 (to e).1,
      ))
      (λ a. let one : ◌≡◌ {A = Due} (record { at = h.meant.1.due_at; leg = leg_of due due_leg }) (record { at = a.due_at; leg = leg_of number leg }) = some_same _ _ (sym h.meant.1.first ∙ a.first) in
      from (ap (λ (d : Due). d.leg.request) one, ap (λ (d : Due). d.leg.number) one))

  pub expired_second : (number leg moment due due_leg : ℕ) (h : Happens (Expires moment (Ok (Expired due due_leg))) 0 0 old new) → due ≡ number → Follows (Expire number leg moment) old new (due_leg == leg)
  expired_second number leg moment due due_leg h same =
      expired_follows number leg moment due due_leg (due_leg == leg) h (λ e. (same, eqb-true due_leg leg e)) (λ both. eq-eqb due_leg leg both.1)

  pub expired_other : (number leg moment due due_leg : ℕ) (h : Happens (Expires moment (Ok (Expired due due_leg))) 0 0 old new) → due ≢ number → Follows (Expire number leg moment) old new false
  expired_other number leg moment due due_leg h other =
      expired_follows number leg moment due due_leg false h (λ e. absurd (true≢false (sym e))) (λ both. absurd (other both.0))

  -- none is due
  pub undue_refuses : (number leg moment : ℕ) (h : Happens (Expires moment (Ok NotDue)) 0 0 old new) → Follows (Expire number leg moment) old new false
  undue_refuses number leg moment h =
      refused (Expire number leg moment) (λ a. let later : moment < a.due_at = subst (λ (o : Option Due). IfSome o (λ due. moment < due.at)) a.first h.meant.1 in absurd (omega (arith, later, a.due)))

  -- servers: they have their keys by the rule
  pub set_follows : (list : List ServerKey) (addresses : List ServerAddr) (count : ℕ) (h : Happens (SetsServers addresses (Ok count)) 0 0 old new)
      → list ≡ keys_for old.setting addresses (past_of old.journal) → Follows (Servers list) old new true
  set_follows list addresses count h are =
      followed (SetsServers addresses (Ok count)) h (Servers list) true
      (λ e. (subst (MaySet old.setting (past_of old.journal)) (sym are) h.meant.1, h.meant.0 ∙ ap (λ l. Some (Servers l)) (sym are)))
      (λ a. refl)

-- servers that were found to have their keys are set
pub kept_set_follows : (old new : Seen) (keys : Keys) (list : List ServerKey) (addresses : List ServerAddr) (count : ℕ) (kept : Bool) → KnowsKeys keys old
    → Decides kept (list ≡ rekeyed (map (λ server. server.address) list) keys.list keys.greatest) → kept ≡ true → addresses ≡ map (λ server. server.address) list
    → Happens (SetsServers addresses (Ok count)) 0 0 old new → Follows (Servers list) old new true
kept_set_follows old new keys list addresses count kept known decides is addresses_are h =
    set_follows old new list addresses count h (decides.0 is ∙ (λ k. rekeyed (sym addresses_are k) (known.list k) (known.greatest k)))
