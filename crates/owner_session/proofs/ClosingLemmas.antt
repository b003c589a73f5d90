-- The closing of a channel: its Destroy, unless a callback has destroyed it, and the deliveries behind that.
use Rattle.std.proofs.Common.{◌≡◌, ◌∙◌, ◌==◌, ◌&&◌, ◌||◌, Bool, true, false, not, cond, List, [], ◌∷◌, ◌++◌, Option, None, is_some, length, option_map, refl, sym, ap, subst, inl, inr}
use Rattle.std.specs.Prelude.{Some, ◌⊎◌}
use Rattle.std.proofs.lemmas.Bool.{and_from, and_parts}
use Rattle.std.proofs.lemmas.List.{append-nil}
use Rattle.std.specs.List.{cons_option, list_all}
use Rattle.chan_types.specs.declared.journal.Entry.{Entry}
use Rattle.chan_types.specs.declared.journal.What.{What}
use Rattle.chan_types.specs.declared.journal.What.TheVariants.{Accept, Arrive, Cancel, Destroy, Expire, Fault, Servers, Start, Take}
use Rattle.channel_model.specs.Commands.{Asking, accepted_for}
use Rattle.channel_model.specs.Completion.{ready, taken_by}
use Rattle.channel_model.specs.Course.{has_no_turn, is_of_turn}
use Rattle.channel_model.specs.Journal.{Accepted, accepted_by, followed_by, is_destroy, is_destroyed, past_of}
use Rattle.channel_model.specs.Known.{Calls}
use Rattle.channel_model.specs.Lawful.{IsLawful}
use Rattle.channel_model.specs.Meanings.{Destroys}
use Rattle.channel_model.specs.Names.{NamesBecome}
use Rattle.event_runner.proofs.PauseLemmas.{names_same}
use Rattle.channel_model.specs.Seen.{entries_of}
use Rattle.channel_model.specs.Turn.{parts_of_entry}
use Rattle.channel_model.proofs.Theorems.{followed_by-append, past_of-push}
use Rattle.channel_table.specs.Calling.{Owned, known_by_owner}
use Rattle.ticket_delivery.proofs.Theorems.{destroyed_later, destroyed_pending}
use Rattle.owner_session.specs.Closing.{Closes, closing, is_delivery}
use Rattle.owner_session.specs.Delivering.{DeliversAll, IsIdle}
use Rattle.owner_session.specs.Kinds.{has_servers, is_cancel, is_of_session, is_ruled, is_servers}
use Rattle.owner_session.specs.declared.caller.Caller.{Caller}
use Rattle.owner_laws.proofs.ListLemmas.{denies}
use Rattle.seat_laws.proofs.ListLemmas.{first_passes}
use Rattle.owner_session.proofs.ListLemmas.{none_of}
use Rattle.owner_session.proofs.MoveLemmas.{quiet_all}
use Rattle.owner_laws.proofs.Owner.{owned_same, owner_called}

-- a denial that fails
undenied : (x : Bool) → not x ≡ false → x ≡ true
undenied true is = refl
undenied false is = absurd (cc is)

-- what a destroy of the owner does: the closing entry, or nothing where the channel was destroyed
pub destroy_is : (is_first : Bool) (a b : Owned) → Calls (Destroys is_first) 0 (known_by_owner a) (known_by_owner b) →
    ((is_destroyed (past_of a.seen) ≡ false) × (b.seen ≡ a.seen ++ closing ∷ [])) ⊎ ((is_destroyed (past_of a.seen) ≡ true) × (b ≡ a))
destroy_is is_first a b call = by is_first call
  where
    by : (f : Bool) → Calls (Destroys f) 0 (known_by_owner a) (known_by_owner b) → ((is_destroyed (past_of a.seen) ≡ false) × (b.seen ≡ a.seen ++ closing ∷ [])) ⊎ ((is_destroyed (past_of a.seen) ≡ true) × (b ≡ a))
    by true c = let h = owner_called (Destroys true) 0 a b c in inl (denies (is_destroyed (past_of a.seen)) (sym h.meant.answer), h.journal ∙ ap (λ o. a.seen ++ entries_of 0 0 o) h.meant.entry)
    by false c =
        let h = owner_called (Destroys false) 0 a b c in
        inr (
          undenied (is_destroyed (past_of a.seen)) (sym h.meant.answer),
          owned_same a b c.desk.setting c.desk.voice (h.journal ∙ ap (λ o. a.seen ++ entries_of 0 0 o) h.meant.entry ∙ append-nil a.seen)
              (names_same (Some a.names) (Some b.names) (subst (λ o. NamesBecome o (Some a.names) (Some b.names)) h.meant.entry c.names)),
        )

-- the channel is destroyed then
pub destroy_destroys : (is_first : Bool) (a b : Owned) → Calls (Destroys is_first) 0 (known_by_owner a) (known_by_owner b) → is_destroyed (past_of b.seen) ≡ true
destroy_destroys is_first a b call = by (destroy_is is_first a b call)
  where
    by : ((is_destroyed (past_of a.seen) ≡ false) × (b.seen ≡ a.seen ++ closing ∷ [])) ⊎ ((is_destroyed (past_of a.seen) ≡ true) × (b ≡ a)) → is_destroyed (past_of b.seen) ≡ true
    by (inl first) = ap (λ j. is_destroyed (past_of j)) first.1 ∙ ap is_destroyed (past_of-push a.seen closing)
    by (inr later) = subst (λ o. is_destroyed (past_of o.seen) ≡ true) (sym later.1) later.0

-- a channel that was closed has a lawful journal
pub closes_lawful : {B : Type 0} (a b : Caller B) → IsIdle a → Closes a b → IsLawful b.alone.setting b.alone.seen
closes_lawful a b idle f =
    let idle_d : IsIdle (record a { alone = f.destroyed }) = record { no_command = idle.no_command; own_voice = f.destroys.desk.voice ∙ idle.own_voice } in
    (quiet_all (record a { alone = f.destroyed }) b idle_d f.delivered).0.lawful f.destroys.lawful

-- the owner destroyed the channel, and delivered what was ready then
pub closes : {B : Type 0} (is_first : Bool) (a : Caller B) (d : Owned) (b : Caller B) → IsIdle a → Calls (Destroys is_first) a.alone.voice (known_by_owner a.alone) (known_by_owner d) → DeliversAll (record a { alone = d }) b →
    ready b.alone.setting (past_of b.alone.seen) ≡ [] → Closes a b
closes is_first a d b idle voiced delivers none =
    let call : Calls (Destroys is_first) 0 (known_by_owner a.alone) (known_by_owner d) = subst (λ v. Calls (Destroys is_first) v (known_by_owner a.alone) (known_by_owner d)) idle.own_voice voiced in
    let idle_d : IsIdle (record a { alone = d }) = record { no_command = idle.no_command; own_voice = call.desk.voice ∙ idle.own_voice } in
    let q = quiet_all (record a { alone = d }) b idle_d delivers in
    let lawful : IsLawful b.alone.setting b.alone.seen = q.0.lawful call.lawful in
    let past_is : past_of b.alone.seen ≡ followed_by (past_of d.seen) q.0.since = ap past_of q.0.seen ∙ followed_by-append [] d.seen q.0.since in
    record {
      is_first = is_first;
      destroyed = d;
      destroys = call;
      delivered = delivers;
      none_pending = destroyed_pending b.alone.setting (past_of b.alone.seen) lawful.allowed (ap is_destroyed past_is ∙ destroyed_later (past_of d.seen) q.0.since (destroy_destroys is_first a.alone d call));
      none_ready = none;
    }

-- ---- what is delivered behind it

-- a first entry accepts nothing on nobody's command where the entries accept nothing so
none_first : (b : Bool) (found : Option Accepted) (rest : List Asking) → cons_option (cond b (option_map (λ request. record { spec = request.spec; script = request.script }) found) None) rest ≡ [] →
    (b ≡ true → found ≡ None) × (rest ≡ [])
none_first true None rest is = (λ own. refl, is)
none_first true (Some request) rest is = absurd (cc is)
none_first false found rest is = (λ own. absurd (cc own), is)

delivered : (what : What) (own : Bool) → (own && is_cancel what) ≡ false → (own && is_destroy what) ≡ false → is_servers what ≡ false → not (not (length (parts_of_entry what) == 0)) ≡ true → (own ≡ true → accepted_by what ≡ None) →
    (is_some (taken_by what) || not own) ≡ true
delivered (Accept number spec script) true cancels destroys sets of_turn accepts = absurd (cc (accepts refl))
delivered (Accept number spec script) false cancels destroys sets of_turn accepts = refl
delivered Cancel true cancels destroys sets of_turn accepts = absurd (cc cancels)
delivered Cancel false cancels destroys sets of_turn accepts = refl
delivered Destroy true cancels destroys sets of_turn accepts = absurd (cc destroys)
delivered Destroy false cancels destroys sets of_turn accepts = refl
delivered (Take number) own cancels destroys sets of_turn accepts = refl
delivered (Start number leg server link id mix moment) own cancels destroys sets of_turn accepts = absurd (cc of_turn)
delivered (Arrive server link bytes) own cancels destroys sets of_turn accepts = absurd (cc of_turn)
delivered (Expire number leg moment) own cancels destroys sets of_turn accepts = absurd (cc of_turn)
delivered (Fault server link moment) own cancels destroys sets of_turn accepts = absurd (cc of_turn)
delivered (Servers list) own cancels destroys sets of_turn accepts = absurd (cc sets)

-- entries of a session are deliveries that are no turn's, set no servers, and accept nothing on nobody's command
pub deliveries : (es : List Entry) → accepted_for 0 es ≡ [] → list_all is_of_session es ≡ true → has_no_turn es ≡ true → has_servers es ≡ false → list_all is_delivery es ≡ true
deliveries [] asks session turns sets = refl
deliveries (e ∷ es) asks session turns sets =
    let of_session = first_passes is_of_session e es session in
    let ruled = and_parts (is_ruled e) (not ((e.by == 0) && is_destroy e.what)) of_session.0 in
    let cancels = (and_parts (e.seat == 0) (not ((e.by == 0) && is_cancel e.what)) ruled.0).1 in
    let asked = none_first (e.by == 0) (accepted_by e.what) (accepted_for 0 es) asks in
    let turn = first_passes (λ x. not (is_of_turn x)) e es turns in
    let set = none_of (is_servers e.what) (has_servers es) sets in
    and_from (is_delivery e) (list_all is_delivery es)
    (delivered e.what (e.by == 0) (denies ((e.by == 0) && is_cancel e.what) cancels) (denies ((e.by == 0) && is_destroy e.what) ruled.1) set.0 turn.0 asked.0) (deliveries es asked.1 of_session.1 turn.1 set.1)
