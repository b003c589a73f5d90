-- Messages of a link that a desk is handed one by one.
use Rattle.event_runner.proofs.Base.{◌≡◌, ◌∙◌, ℕ, List, [], ◌∷◌, ◌++◌, map, drop, true, Result, Ok, Err, Option, Some, refl, ap, sym, subst, OnOk, is_err, slice_range, append-nil, append_assoc, map-append, Entry, What, Arrive, NoMemory, Landed, Matched, Stray, left_in-append, messages_in-append, own-append, own-others, own_added, left_in, messages_in, Past, own_entries, Calls, Known, Arrives, Meaning, entries_of, Setting, Delivers, HasDelivered, HasDeliveredSome, AreMadeInTurns, EndsAt, IsUncut}
use Rattle.event_runner.proofs.TrailLemmas.{goes_of, made_one, made_others, made_trans, trail_call, trail_none, trail_of, trail_trans}

-- what an arrive adds
pub arrive_adds : (server link : ℕ) (bytes : List ℕ) (landed : Landed) (setting : Setting) (past : Past) (added : Option What) →
    Arrives server link bytes (Ok landed) setting past added → added ≡ Some (Arrive server link bytes)
arrive_adds server link bytes (Matched number leg) setting past added h = h.0
arrive_adds server link bytes Stray setting past added h = h.0

-- a call's own entry is what it added
pub call_own : (meaning : Meaning) (old new : Known) (call : Calls meaning 0 old new) →
    own_entries old.seat (call.stands.others ++ entries_of old.seat 0 call.added) ≡ entries_of old.seat 0 call.added
call_own meaning old new call =
    own-append old.seat call.stands.others (entries_of old.seat 0 call.added)
    ∙ ap (λ l. l ++ own_entries old.seat (entries_of old.seat 0 call.added)) (own-others old.seat call.stands.others call.stands.by_others)
    ∙ own_added old.seat 0 call.added

-- a desk was handed messages, and these are left of the bytes
pub record HasHanded (server link : ℕ) (initial current : List ℕ) (old new : Known) : Type 0 where
  pub front : List (List ℕ)
  pub messages : messages_in [] initial ≡ front ++ messages_in [] current
  pub left : left_in [] initial ≡ left_in [] current
  pub delivered : HasDelivered server link front old new

pub handed_none : (server link : ℕ) (bytes : List ℕ) (known : Known) → HasHanded server link bytes bytes known known
handed_none server link bytes known = record { front = []; messages = refl; left = refl; delivered = record { goes_on = goes_of known known [] (trail_none known); made = refl; notes = refl } }

-- one message more
delivered_more : (server link : ℕ) (front : List (List ℕ)) (message : List ℕ) (a b c : Known) (landed : Landed) →
    HasDelivered server link front a b → Calls (Arrives server link message (Ok landed)) 0 b c → HasDelivered server link (front ++ message ∷ []) a c
delivered_more server link front message a b c landed x call =
    let es : List Entry = call.stands.others ++ entries_of b.seat 0 call.added in
    let own : own_entries a.seat es ≡ entries_of b.seat 0 call.added = subst (λ seat. own_entries seat es ≡ entries_of b.seat 0 call.added) x.goes_on.desk.seat (call_own _ b c call) in
    let adds = arrive_adds server link message landed _ _ call.added call.meant in
    let last : map (λ (e : Entry). e.what) (own_entries a.seat es) ≡ Arrive server link message ∷ [] =
    ap (map (λ (e : Entry). e.what)) own ∙ ap (λ o. map (λ (e : Entry). e.what) (entries_of b.seat 0 o)) adds in
    record {
      goes_on = goes_of a c (x.goes_on.since ++ es) (trail_trans a b c x.goes_on.since es (trail_of a b x.goes_on) (trail_call _ 0 b c call));
      made =
          made_trans a b x.goes_on.since es x.goes_on.desk.seat x.made
          (subst (λ o. AreMadeInTurns b.seat (call.stands.others ++ entries_of b.seat 0 o)) (sym adds) (made_one b.seat call.stands.others (Arrive server link message) call.stands.by_others refl));
      notes =
          ap (map (λ (e : Entry). e.what)) (own-append a.seat x.goes_on.since es)
          ∙ map-append (λ (e : Entry). e.what) (own_entries a.seat x.goes_on.since) (own_entries a.seat es)
          ∙ ap (λ l. l ++ map (λ (e : Entry). e.what) (own_entries a.seat es)) x.notes
          ∙ ap (λ l. map (λ m. Arrive server link m) front ++ l) last
          ∙ sym (map-append (λ m. Arrive server link m) front (message ∷ []));
    }

pub handed_more : (server link : ℕ) (initial current : List ℕ) (end : ℕ) (a b c : Known) (landed : Landed) →
    HasHanded server link initial current a b → EndsAt current end → Calls (Arrives server link (slice_range current 2 end) (Ok landed)) 0 b c →
    HasHanded server link initial (drop end current) a c
handed_more server link initial current end a b c landed x ends call = record {
  front = x.front ++ slice_range current 2 end ∷ [];
  messages = x.messages ∙ ap (λ l. x.front ++ l) ends.message ∙ sym (append_assoc x.front (slice_range current 2 end ∷ []) (messages_in [] (drop end current)));
  left = x.left ∙ ends.left;
  delivered = delivered_more server link x.front (slice_range current 2 end) a b c landed x.delivered call;
}

-- the next message found no memory
pub handed_cut : (server link : ℕ) (initial current message : List ℕ) (a b c : Known) (fault : NoMemory) →
    HasHanded server link initial current a b → Calls (Arrives server link message (Err fault)) 0 b c → HasDeliveredSome server link (messages_in [] initial) a c
handed_cut server link initial current message a b c fault x call =
    let d = x.delivered in
    let es : List Entry = call.stands.others ++ entries_of b.seat 0 call.added in
    let none : own_entries a.seat es ≡ [] =
    subst (λ seat. own_entries seat es ≡ entries_of b.seat 0 call.added) d.goes_on.desk.seat (call_own _ b c call) ∙ ap (λ o. entries_of b.seat 0 o) call.meant in
    record {
      goes_on = goes_of a c (d.goes_on.since ++ es) (trail_trans a b c d.goes_on.since es (trail_of a b d.goes_on) (trail_call _ 0 b c call));
      made =
          made_trans a b d.goes_on.since es d.goes_on.desk.seat d.made
          (subst (λ o. AreMadeInTurns b.seat (call.stands.others ++ entries_of b.seat 0 o)) (sym call.meant)
          (subst (AreMadeInTurns b.seat) (sym (append-nil call.stands.others)) (made_others b.seat call.stands.others call.stands.by_others)));
      handed = x.front;
      not_more = (messages_in [] current, sym x.messages);
      notes =
          ap (map (λ (e : Entry). e.what)) (own-append a.seat d.goes_on.since es ∙ ap (λ l. own_entries a.seat d.goes_on.since ++ l) none ∙ append-nil (own_entries a.seat d.goes_on.since))
          ∙ d.notes;
    }

-- all messages were handed
pub handed_all : (server link : ℕ) (initial current : List ℕ) (a b : Known) → HasHanded server link initial current a b → IsUncut current → HasDelivered server link (messages_in [] initial) a b
handed_all server link initial current a b x uncut =
    let all : messages_in [] initial ≡ x.front = x.messages ∙ ap (λ l. x.front ++ l) uncut.none ∙ append-nil x.front in
    subst (λ ms. HasDelivered server link ms a b) (sym all) x.delivered

-- bytes behind bytes without a whole frame
pub behind_uncut : (bytes piece : List ℕ) → IsUncut bytes → messages_in [] (bytes ++ piece) ≡ messages_in bytes piece
behind_uncut bytes piece uncut = messages_in-append [] bytes piece ∙ rw (uncut.none, uncut.all_left) refl

pub left_behind_uncut : (bytes piece : List ℕ) → IsUncut bytes → left_in [] (bytes ++ piece) ≡ left_in bytes piece
left_behind_uncut bytes piece uncut = left_in-append [] bytes piece ∙ rw uncut.all_left refl

-- what stands behind want of memory
pub delivers_err : (server link : ℕ) (messages : List (List ℕ)) (result : Result Unit NoMemory) (a b : Known) → is_err result ≡ true →
    HasDeliveredSome server link messages a b → Delivers server link messages result a b
delivers_err server link messages (Ok done) a b err x = absurd (cc err)
delivers_err server link messages (Err fault) a b err x = x

-- none of the messages was handed
pub delivered_none : (server link : ℕ) (messages : List (List ℕ)) (known : Known) → HasDeliveredSome server link messages known known
delivered_none server link messages known = record { goes_on = goes_of known known [] (trail_none known); made = refl; handed = []; not_more = (messages, refl); notes = refl }

-- a piece behind bytes without a whole frame: the messages, and what is left
module _ (bytes old piece all : List ℕ) (uncut : IsUncut bytes) (view : bytes ≡ old) (added : all ≡ bytes ++ piece) where
  pub fed : (server link : ℕ) (result : Result Unit NoMemory) (a b : Known) → Delivers server link (messages_in [] all) result a b → Delivers server link (messages_in old piece) result a b
  fed server link result a b x =
      let same : messages_in [] all ≡ messages_in old piece = ap (messages_in []) added ∙ behind_uncut bytes piece uncut ∙ ap (λ o. messages_in o piece) view in
      subst (λ ms. Delivers server link ms result a b) same x

  pub fed_left : (result : Result Unit NoMemory) (new : List ℕ) → OnOk result (new ≡ left_in [] all) → OnOk result (new ≡ left_in old piece)
  fed_left (Ok done) new x = x ∙ ap (left_in []) added ∙ left_behind_uncut bytes piece uncut ∙ ap (λ o. left_in o piece) view
  fed_left (Err fault) new x = tt
