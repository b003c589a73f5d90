-- The closing of a channel: its Destroy, and the Take behind it, if there is one.
use Rattle.std.proofs.Common.{◌≡◌, ◌∙◌, List, [], ◌∷◌, ◌++◌, refl, ap, sym, Bool, true, false, if◌then◌else◌}
use Rattle.std.specs.Prelude.{None, Some, not}
use Rattle.std.proofs.lemmas.List.{append-nil, append_assoc}
use Rattle.chan_types.specs.Plans.{Plan}
use Rattle.chan_types.specs.declared.answer.Answer.{Answer}
use Rattle.chan_types.specs.declared.journal.What.TheVariants.{Destroy}
use Rattle.chan_types.specs.declared.ticket.Ticket.{Ticket}
use Rattle.channel_model.specs.Completion.{pending, ready}
use Rattle.channel_model.specs.Journal.{is_destroyed, past_of}
use Rattle.channel_model.specs.Known.{Calls}
use Rattle.channel_model.specs.Meanings.{Destroys, Takes}
use Rattle.channel_model.specs.Seen.{entries_of}
use Rattle.channel_table.specs.Calling.{Owned, known_by_owner}
use Rattle.owner_laws.proofs.Destroyed.{pending_destroyed}
use Rattle.owner_laws.proofs.Owner.{owner_called}
use Rattle.acache_tool.specs.Closing.{Closes, closing, take_entry}
use Rattle.acache_tool.proofs.OwnerLemmas.{taken_fate}
use Rattle.acache_tool.proofs.RequestLemmas.{past_on}

module _ (is_first : Bool) (a b c : Owned) (calls : List Answer) (silent : a.voice ≡ 0) (opened : is_destroyed (past_of a.seen) ≡ false) (destroyed : Calls (Destroys is_first) a.voice (known_by_owner a) (known_by_owner b)) where
  seen_destroyed : b.seen ≡ a.seen ++ closing ∷ []
  seen_destroyed =
      let happens = owner_called (Destroys is_first) a.voice a b destroyed in
      let first_one : is_first ≡ true = happens.meant.answer ∙ ap not opened in
      let added : happens.added ≡ Some Destroy = happens.meant.entry ∙ ap (λ is. if is then Some Destroy else None) first_one in
      happens.journal ∙ ap (λ x. a.seen ++ entries_of 0 a.voice x) added ∙ ap (λ by. a.seen ++ record { seat = 0; by = by; what = Destroy } ∷ []) silent

  none_destroyed : pending a.setting (past_of (a.seen ++ closing ∷ [])) ≡ []
  none_destroyed = ap (pending a.setting) (past_on a.seen (a.seen ++ closing ∷ []) (closing ∷ []) refl) ∙ pending_destroyed a.setting (past_of a.seen)

  -- a request was ready
  pub closes_some : {T : Type 0} (plan : T → Plan) (ticket : Ticket T) (call : Answer) (after : List Answer) → call ≡ ticket.call → after ≡ calls ++ call ∷ [] →
      Calls (Takes plan (Some ticket)) 0 (known_by_owner b) (known_by_owner c) → Closes a c calls after
  closes_some plan ticket call after is_call added took =
      let happens = owner_called (Takes plan (Some ticket)) 0 b c took in
      let seen : c.seen ≡ b.seen ++ take_entry ticket.call.number ∷ [] = happens.journal ∙ ap (λ x. b.seen ++ entries_of 0 0 x) happens.meant.0 in
      record {
        answer = Some ticket.call;
        setting = took.desk.setting ∙ destroyed.desk.setting;
        seen = seen ∙ ap (λ l. l ++ take_entry ticket.call.number ∷ []) seen_destroyed ∙ append_assoc a.seen (closing ∷ []) (take_entry ticket.call.number ∷ []);
        calls = added ∙ ap (λ x. calls ++ x ∷ []) is_call;
        lawful = took.lawful;
        fated = taken_fate plan ticket (known_by_owner b) (known_by_owner c) took;
        none_pending = none_destroyed;
      }

  -- none was
  pub closes_none : {T : Type 0} (plan : T → Plan) → Calls (Takes {T = T} plan None) 0 (known_by_owner b) (known_by_owner c) → Closes a c calls calls
  closes_none {T} plan took =
      let happens = owner_called (Takes {T = T} plan None) 0 b c took in
      let seen : c.seen ≡ b.seen = happens.journal ∙ ap (λ x. b.seen ++ entries_of 0 0 x) happens.meant.0 ∙ append-nil b.seen in
      record {
        answer = None;
        setting = took.desk.setting ∙ destroyed.desk.setting;
        seen = seen ∙ seen_destroyed;
        calls = sym (append-nil calls);
        lawful = took.lawful;
        fated = ap (λ s. ready s (past_of c.seen)) took.desk.setting ∙ ap (λ journal. ready b.setting (past_of journal)) seen ∙ happens.meant.1;
        none_pending = none_destroyed;
      }
