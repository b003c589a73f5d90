-- One request of a channel: what its owner's journal has behind it, and what its answer is there.
use Rattle.std.proofs.Common.{ap, sym, subst, ◌+◌, ◌∙◌, length}
use Rattle.std.proofs.lemmas.List.{append_cancel_left, append_cancel_right}
use Rattle.std.specs.List.{list_all}
use Rattle.std.specs.Prelude.{List, Ok, Option, Some, [], true, ℕ, ◌++◌, ◌∷◌, ◌≡◌}
use Rattle.chan_types.specs.Plans.{Plan, blank}
use Rattle.chan_types.specs.declared.answer.Answer.{Answer}
use Rattle.chan_types.specs.declared.journal.Entry.{Entry}
use Rattle.chan_types.specs.declared.journal.What.TheVariants.{Accept}
use Rattle.chan_types.specs.declared.spec.Spec.{Spec}
use Rattle.chan_types.specs.declared.ticket.Ticket.{Ticket}
use Rattle.channel_model.proofs.Theorems.{fate-one, followed_by-append}
use Rattle.channel_model.specs.Completion.{fate}
use Rattle.channel_model.specs.Journal.{Past, accepted, followed_by, own_entries, past_of}
use Rattle.channel_model.specs.Known.{Calls, Known}
use Rattle.channel_model.specs.Lawful.{IsLawful}
use Rattle.channel_model.specs.Meanings.{Accepts, Takes}
use Rattle.channel_model.specs.Seen.{entries_of}
use Rattle.channel_model.specs.Setting.{Setting}
use Rattle.channel_session.specs.Advancing.{is_of_session}
use Rattle.channel_session.specs.Progressing.{IsCome}
use Rattle.channel_session.specs.Sitting.{Sitting, moment_of}
use Rattle.channel_session.specs.declared.progress.Progress.TheVariants.{Completed}
use Rattle.channel_table.specs.Calling.{Owned, known_by_owner}
use Rattle.net_world.specs.declared.log.WorldCall.{WorldCall}
use Rattle.host_lookups.specs.Answered.{IsAnswered, IsUnused, asked, first_asked}

-- a fate stays behind further entries
pub fate_behind : (setting : Setting) (number : ℕ) (answer : Answer) (past : Past) (es : List Entry) → fate setting number past ≡ Some answer → fate setting number (followed_by past es) ≡ Some answer
fate_behind setting number answer past [] is = is
fate_behind setting number answer past (e ∷ es) is = fate_behind setting number answer (e.what ∷ past) es (fate-one setting number answer e.what past is)

-- and so in a journal that goes on
pub fate_later : (setting : Setting) (number : ℕ) (answer : Answer) (journal more : List Entry) → fate setting number (past_of journal) ≡ Some answer → fate setting number (past_of (journal ++ more)) ≡ Some answer
fate_later setting number answer journal more is =
    subst (λ past. fate setting number past ≡ Some answer) (sym (followed_by-append [] journal more)) (fate_behind setting number answer (past_of journal) more is)

-- the answer of a ticket that was taken is its request's fate where the desk then stands
pub taken_fate : {T : Type 0} (plan : T → Plan) (ticket : Ticket T) (old new : Known) → Calls (Takes plan (Some ticket)) 0 old new → fate new.setting ticket.call.number (past_of new.seen) ≡ Some ticket.call
taken_fate plan ticket old new call =
    subst (λ s. fate s ticket.call.number (past_of new.seen) ≡ Some ticket.call) (sym call.desk.setting)
    (subst (λ journal. fate old.setting ticket.call.number (past_of journal) ≡ Some ticket.call) (sym call.seen)
    (fate_later old.setting ticket.call.number ticket.call call.here (entries_of old.seat 0 call.added) call.meant.2))

-- the owner of a channel, on no request's command, asked this with a callback of this script: one entry more
pub asked_once : {T : Type 0} (plan : T → Plan) (about spec : Spec) (token : T) (script : Plan) (number : ℕ) (a b : Owned) → about ≡ spec → plan token ≡ script → a.voice ≡ 0 →
    Calls (Accepts plan about token (Ok number)) a.voice (known_by_owner a) (known_by_owner b) → b.seen ≡ a.seen ++ asked (length (accepted (past_of a.seen)) + 1) spec script ∷ []
asked_once plan about spec token script number a b same scripted silent call =
    let here : call.here ≡ a.seen = append_cancel_right call.here a.seen (entries_of 0 a.voice call.added) (sym call.seen ∙ call.own) in
    let entry : ℕ → ℕ → Spec → Plan → List Entry = λ by n asks with_script. record { seat = 0; by = by; what = Accept n asks with_script } ∷ [] in
    let next : ℕ = length (accepted (past_of a.seen)) + 1 in
    let is : number ≡ next = call.meant.2 ∙ ap (λ journal. length (accepted (past_of journal)) + 1) here in
    let added : entries_of 0 a.voice call.added ≡ asked next spec script ∷ [] =
    ap (entries_of 0 a.voice) call.meant.0
    ∙ ap (λ v. entry v number about (plan token)) silent ∙ ap (λ n. entry 0 n about (plan token)) is
    ∙ ap (λ asks. entry 0 next asks (plan token)) same ∙ ap (λ with_script. entry 0 next spec with_script) scripted in
    call.own ∙ ap (λ es. a.seen ++ es) added

-- the same of a channel that nobody has used, with a callback that commands nothing: that is all of the journal
pub asked_first : {T : Type 0} (plan : T → Plan) (about spec : Spec) (token : T) (number : ℕ) (a b : Owned) → about ≡ spec → plan token ≡ blank 0 → IsUnused a →
    Calls (Accepts plan about token (Ok number)) a.voice (known_by_owner a) (known_by_owner b) → b.seen ≡ first_asked spec ∷ []
asked_first plan about spec token number a b same quiet new call =
    asked_once plan about spec token (blank 0) number a b same quiet new.silent call
    ∙ ap (λ journal. journal ++ asked (length (accepted (past_of journal)) + 1) spec (blank 0) ∷ []) new.empty

-- a session that then hands out a ticket has the answer
pub answered : {T : Type 0} (plan : T → Plan) (name : T → ℕ) (ticket : Ticket T) (spec : Spec) (answer : Answer) (setting : Setting) (most f g : ℕ) (a b : Owned) (s t : Sitting) (l m : Option (List WorldCall)) →
    a.seen ≡ first_asked spec ∷ [] → a.setting ≡ setting → IsLawful a.setting a.seen → answer ≡ ticket.call →
    IsCome plan name most f g (Completed ticket) (moment_of (known_by_owner a) s l) (moment_of (known_by_owner b) t m) → IsAnswered setting spec answer
answered plan name ticket spec answer setting most f g a b s t l m asked same lawful is come =
    let advances = come.0.2 in
    let goes = advances.goes_on in
    let seen : b.seen ≡ first_asked spec ∷ goes.since = goes.seen ∙ ap (λ journal. journal ++ goes.since) asked in
    let set : b.setting ≡ setting = goes.desk.setting ∙ same in
    let fated : fate b.setting ticket.call.number (past_of b.seen) ≡ Some ticket.call = taken_fate plan ticket come.1.before (known_by_owner b) come.1.takes in
    subst (λ told. IsAnswered setting spec told) (sym is) (record {
      since = goes.since;
      of_session = subst (λ es. list_all is_of_session es ≡ true) (append_cancel_left a.seen (own_entries 0 goes.since) goes.since (sym goes.own ∙ goes.seen)) advances.own;
      lawful = subst (λ at. IsLawful at (first_asked spec ∷ goes.since)) set (subst (λ journal. IsLawful b.setting journal) seen (goes.lawful lawful));
      its_fate = subst (λ at. fate at ticket.call.number (past_of (first_asked spec ∷ goes.since)) ≡ Some ticket.call) set
          (subst (λ journal. fate b.setting ticket.call.number (past_of journal) ≡ Some ticket.call) seen fated);
    })
