-- A channel's journal that goes on by calls, turns and deliveries, and answers that are fates in it.
use Rattle.std.proofs.Common.{ap, refl, sym, subst, inl, inr, ◌∙◌, append_assoc}
use Rattle.std.proofs.lemmas.List.{append-nil, map-append}
use Rattle.std.specs.List.{AllByRecursion}
use Rattle.std.specs.Prelude.{Bool, Err, List, None, Ok, Option, Result, Some, [], false, if◌then◌else◌, option_to_list, true, ℕ, ◌++◌, ◌==◌, ◌∷◌, ◌≡◌}
use Rattle.chan_types.specs.Plans.{Plan}
use Rattle.chan_types.specs.declared.answer.Answer.{Answer}
use Rattle.chan_types.specs.declared.ticket.Ticket.{Ticket}
use Rattle.chan_types.specs.declared.journal.Entry.{Entry}
use Rattle.chan_types.specs.declared.journal.What.{What}
use Rattle.chan_types.specs.declared.journal.What.TheVariants.{Cancel, Destroy}
use Rattle.chan_types.specs.declared.spec.Spec.{Spec}
use Rattle.channel_model.proofs.Theorems.{call_goes_on, each-append, each-then, followed_by-append}
use Rattle.channel_model.specs.Completion.{fate, taken, taken_by}
use Rattle.channel_model.specs.Journal.{past_of}
use Rattle.channel_model.specs.Known.{Calls, GoesOn}
use Rattle.channel_model.specs.Lawful.{IsLawful}
use Rattle.channel_model.specs.Meanings.{Accepts, Cancels, Destroys, Meaning}
use Rattle.channel_model.specs.Seen.{entries_of}
use Rattle.channel_model.specs.declared.answers.Refused.{Refused}
use Rattle.channel_model.specs.Setting.{Setting}
use Rattle.channel_session.proofs.Theorems.{taken_alone}
use Rattle.channel_session.specs.Advancing.{IsCutOff, taken_in}
use Rattle.channel_session.specs.Progressing.{ComesTo, IsCome}
use Rattle.channel_session.specs.Sitting.{Moment, Sitting, moment_of}
use Rattle.channel_session.specs.declared.progress.Progress.{Progress}
use Rattle.channel_session.specs.declared.progress.Progress.TheVariants.{Completed, Disturbed, Over, Stalled, WaitFault}
use Rattle.channel_table.specs.Calling.{Owned, known_by_owner}
use Rattle.item_list.specs.declared.no_memory.NoMemory.{NoMemory}
use Rattle.net_world.specs.declared.log.WorldCall.{WorldCall}
use Rattle.host_lookups.specs.Answered.{IsUnused}
use Rattle.host_lookups.specs.Extending.{AreFates, Extends, TakesNone}
use Rattle.host_lookups.proofs.AnswerLemmas.{fate_later, taken_fate}

-- by nothing
pub extends_none : (a : Owned) → Extends a a
extends_none a = record { since = []; seen = sym (append-nil a.seen); setting = refl; lawful = λ was. was }

-- by another voice
pub extends_voice : (a b : Owned) (voice : ℕ) → b ≡ record a { voice = voice } → Extends a b
extends_voice a b voice is = subst (λ new. Extends a new) (sym is) (record { since = []; seen = sym (append-nil a.seen); setting = refl; lawful = λ was. was })

-- by one part behind another
pub extends_then : (a b c : Owned) → Extends a b → Extends b c → Extends a c
extends_then a b c one two = record {
  since = one.since ++ two.since;
  seen = two.seen ∙ ap (λ journal. journal ++ two.since) one.seen ∙ append_assoc a.seen one.since two.since;
  setting = two.setting ∙ one.setting;
  lawful = λ was. two.lawful (one.lawful was);
}

-- by whatever lets the owner's desk go on
pub extends_on : (a b : Owned) → GoesOn (known_by_owner a) (known_by_owner b) → Extends a b
extends_on a b goes = record { since = goes.since; seen = goes.seen; setting = goes.desk.setting; lawful = goes.lawful }

-- by a call
pub extends_call : (meaning : Meaning) (by : ℕ) (a b : Owned) → Calls meaning by (known_by_owner a) (known_by_owner b) → Extends a b
extends_call meaning by a b call = extends_on a b (call_goes_on meaning by (known_by_owner a) (known_by_owner b) call)

-- whatever a session comes to, its desk went on
pub came_on : {T : Type 0} (plan : T → Plan) (name : T → ℕ) (most f g : ℕ) (result : Result (Progress T) NoMemory) (old new : Moment) → ComesTo plan name most f g result old new → GoesOn old.known new.known
came_on plan name most f g (Ok (Completed ticket)) old new come = come.0.2.goes_on
came_on plan name most f g (Ok Over) old new come = come.0.2.goes_on
came_on plan name most f g (Ok WaitFault) old new come = come.0.2.goes_on
came_on plan name most f g (Ok Stalled) old new come = come.0.goes_on
came_on plan name most f g (Ok Disturbed) old new come = elim come.0 [ inl advanced ↦ advanced.2.goes_on | inr rested ↦ rested.2.goes_on ]
came_on plan name most f g (Err fault) old new come = come.goes_on

-- the requests that a call takes
abbrev takes_of : Option What → List ℕ
takes_of None = []
takes_of (Some what) = option_to_list (taken_by what)

takes_added : (seen : List Entry) (by : ℕ) (added : Option What) → takes_of added ≡ [] → taken (past_of (seen ++ entries_of 0 by added)) ≡ taken (past_of seen)
takes_added seen by None none = ap (λ es. taken (past_of es)) (append-nil seen)
takes_added seen by (Some what) none =
    ap taken (followed_by-append [] seen (record { seat = 0; by = by; what = what } ∷ []))
    ∙ ap (λ numbers. taken (past_of seen) ++ numbers) none ∙ append-nil (taken (past_of seen))

-- a call that takes none
takes_none : (meaning : Meaning) (by : ℕ) (a b : Owned) (call : Calls meaning by (known_by_owner a) (known_by_owner b)) → takes_of call.added ≡ [] → TakesNone a b
takes_none meaning by a b call none = ap (λ es. taken (past_of es)) call.own ∙ takes_added a.seen by call.added none

pub accept_takes : {T : Type 0} (plan : T → Plan) (spec : Spec) (token : T) (result : Result ℕ (Refused T)) (by : ℕ) (a b : Owned) → Calls (Accepts plan spec token result) by (known_by_owner a) (known_by_owner b) → TakesNone a b
accept_takes plan spec token (Ok number) by a b call = takes_none (Accepts plan spec token (Ok number)) by a b call (ap takes_of call.meant.0)
accept_takes plan spec token (Err refused) by a b call = takes_none (Accepts plan spec token (Err refused)) by a b call (ap takes_of call.meant.0)

by_cancel : (none : Bool) → takes_of (if none then None else Some Cancel) ≡ []
by_cancel true = refl
by_cancel false = refl

by_destroy : (is_first : Bool) → takes_of (if is_first then Some Destroy else None) ≡ []
by_destroy true = refl
by_destroy false = refl

pub cancel_takes : (count : ℕ) (by : ℕ) (a b : Owned) → Calls (Cancels count) by (known_by_owner a) (known_by_owner b) → TakesNone a b
cancel_takes count by a b call = takes_none (Cancels count) by a b call (ap takes_of call.meant.entry ∙ by_cancel (count == 0))

pub destroy_takes : (is_first : Bool) (by : ℕ) (a b : Owned) → Calls (Destroys is_first) by (known_by_owner a) (known_by_owner b) → TakesNone a b
destroy_takes is_first by a b call = takes_none (Destroys is_first) by a b call (ap takes_of call.meant.entry ∙ by_destroy is_first)

-- the request that a session hands out, if it hands out one
abbrev pub handed : {T : Type 0} → Result (Progress T) NoMemory → List ℕ
handed (Ok (Completed ticket)) = ticket.call.number ∷ []
handed (Ok Over) = []
handed (Ok WaitFault) = []
handed (Ok Stalled) = []
handed (Ok Disturbed) = []
handed (Err fault) = []

-- it took that one, and no other
took_on : (numbers : List ℕ) (a b : Owned) (goes : GoesOn (known_by_owner a) (known_by_owner b)) → taken_in 0 goes.since ≡ numbers → taken (past_of b.seen) ≡ taken (past_of a.seen) ++ numbers
took_on numbers a b goes takes = taken_alone (known_by_owner a) (known_by_owner b) refl refl goes ∙ ap (λ es. taken (past_of a.seen) ++ es) takes

pub came_took : {T : Type 0} (plan : T → Plan) (name : T → ℕ) (most f g : ℕ) (result : Result (Progress T) NoMemory) (a b : Owned) (s t : Sitting) (l m : Option (List WorldCall)) →
    ComesTo plan name most f g result (moment_of (known_by_owner a) s l) (moment_of (known_by_owner b) t m) → taken (past_of b.seen) ≡ taken (past_of a.seen) ++ handed result
came_took plan name most f g (Ok (Completed ticket)) a b s t l m come = took_on (ticket.call.number ∷ []) a b come.0.2.goes_on come.0.2.takes
came_took plan name most f g (Ok Over) a b s t l m come = took_on [] a b come.0.2.goes_on come.0.2.takes
came_took plan name most f g (Ok WaitFault) a b s t l m come = took_on [] a b come.0.2.goes_on come.0.2.takes
came_took plan name most f g (Ok Stalled) a b s t l m come = took_on [] a b come.0.goes_on come.0.takes
came_took plan name most f g (Ok Disturbed) a b s t l m come = elim come.0 [ inl advanced ↦ took_on [] a b advanced.2.goes_on advanced.2.takes | inr rested ↦ took_on [] a b rested.2.goes_on rested.2.takes ]
came_took plan name most f g (Err fault) a b s t l m come = took_on [] a b come.goes_on come.takes

-- where it hands out none it takes none
pub came_none : {T : Type 0} (plan : T → Plan) (name : T → ℕ) (most f g : ℕ) (result : Result (Progress T) NoMemory) (a b : Owned) (s t : Sitting) (l m : Option (List WorldCall)) →
    handed result ≡ [] → ComesTo plan name most f g result (moment_of (known_by_owner a) s l) (moment_of (known_by_owner b) t m) → TakesNone a b
came_none plan name most f g result a b s t l m none come =
    came_took plan name most f g result a b s t l m come ∙ ap (λ es. taken (past_of a.seen) ++ es) none ∙ append-nil (taken (past_of a.seen))

-- and so it does where memory is wanting
pub cut_none : (most : ℕ) (a b : Owned) (s t : Sitting) (l m : Option (List WorldCall)) → IsCutOff most (moment_of (known_by_owner a) s l) (moment_of (known_by_owner b) t m) → TakesNone a b
cut_none most a b s t l m cut = took_on [] a b cut.goes_on cut.takes ∙ append-nil (taken (past_of a.seen))

-- what is a fate stays one where the journal goes on, and the journal stays lawful
still : (setting : Setting) (answers : List Answer) (a b : Owned) → a.setting ≡ setting → AreFates setting a.seen answers → Extends a b →
    IsLawful setting b.seen × AllByRecursion (λ answer. fate setting answer.number (past_of b.seen) ≡ Some answer) answers
still setting answers a b same fates extends =
    let is : b.setting ≡ setting = extends.setting ∙ same in (
      subst (λ at. IsLawful at b.seen) is (extends.lawful (subst (λ at. IsLawful at a.seen) (sym same) fates.lawful)),
      subst (λ journal. AllByRecursion (λ answer. fate setting answer.number (past_of journal) ≡ Some answer) answers) (sym extends.seen)
          (each-then (λ answer. fate setting answer.number (past_of a.seen) ≡ Some answer) (λ answer. fate setting answer.number (past_of (a.seen ++ extends.since)) ≡ Some answer) answers
          (λ answer is_fate. fate_later setting answer.number answer a.seen extends.since is_fate) fates.each),
    )

-- answers stay those of the requests that were taken, where none is
pub fates_later : (setting : Setting) (answers : List Answer) (a b : Owned) → a.setting ≡ setting → AreFates setting a.seen answers → Extends a b → TakesNone a b → AreFates setting b.seen answers
fates_later setting answers a b same fates extends none =
    let is = still setting answers a b same fates extends in record { lawful = is.0; each = is.1; taken_are = none ∙ fates.taken_are }

-- and one more that a session hands out is one too
pub fates_more : {T : Type 0} (plan : T → Plan) (name : T → ℕ) (ticket : Ticket T) (setting : Setting) (answers : List Answer) (most f g : ℕ) (a b : Owned) (s t : Sitting) (l m : Option (List WorldCall)) →
    a.setting ≡ setting → AreFates setting a.seen answers → IsCome plan name most f g (Completed ticket) (moment_of (known_by_owner a) s l) (moment_of (known_by_owner b) t m) →
    (b.setting ≡ setting) × AreFates setting b.seen (answers ++ ticket.call ∷ [])
fates_more plan name ticket setting answers most f g a b s t l m same fates come =
    let extends = extends_on a b come.0.2.goes_on in
    let before = still setting answers a b same fates extends in
    let is : b.setting ≡ setting = extends.setting ∙ same in
    let new : fate setting ticket.call.number (past_of b.seen) ≡ Some ticket.call =
    subst (λ at. fate at ticket.call.number (past_of b.seen) ≡ Some ticket.call) is (taken_fate plan ticket come.1.before (known_by_owner b) come.1.takes) in (
      is,
      record {
        lawful = before.0;
        each = each-append (λ answer. fate setting answer.number (past_of b.seen) ≡ Some answer) answers (ticket.call ∷ []) before.1 (new, tt);
        taken_are = came_took plan name most f g (Ok (Completed ticket)) a b s t l m come ∙ ap (λ numbers. numbers ++ ticket.call.number ∷ []) fates.taken_are
            ∙ sym (map-append (λ answer. answer.number) answers (ticket.call ∷ []));
      },
    )

-- before a channel's first answer
pub fates_begun : (answers : List Answer) (a b : Owned) → answers ≡ [] → IsUnused a → Extends a b → taken (past_of b.seen) ≡ [] → AreFates b.setting b.seen answers
fates_begun answers a b is new extends none =
    let empty : IsLawful a.setting a.seen = subst (λ journal. IsLawful a.setting journal) (sym new.empty) (record { allowed = tt }) in
    subst (λ told. AreFates b.setting b.seen told) (sym is) (record { lawful = extends.lawful empty; each = tt; taken_are = none })
