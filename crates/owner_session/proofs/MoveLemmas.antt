-- Parts of a session: what the owner's journal gets by a delivery or a turn, one behind the other, while what was kept stays kept.
use Rattle.std.proofs.Common.{◌≡◌, ◌≢◌, ◌∙◌, ℕ, ◌+◌, ◌≤◌, ◌<◌, ◌==◌, ◌&&◌, Bool, true, false, not, cond, List, [], ◌∷◌, ◌++◌, Option, Some, None, is_some, length, refl, sym, ap, subst, arith, eq-eqb, ne_eqb}
use Rattle.std.proofs.lemmas.Bool.{and_from, and_parts}
use Rattle.std.proofs.lemmas.List.{append-nil, append_assoc, length-append}
use Rattle.std.proofs.lemmas.List.Folds.{list_all-append}
use Rattle.std.specs.List.{AllByRecursion, cons_option, list_all}
use Rattle.std.specs.Prelude.{option_map}
use Rattle.chan_types.specs.Gives.{gives}
use Rattle.chan_types.specs.declared.command.Command.{Command}
use Rattle.chan_types.specs.declared.journal.Entry.{Entry}
use Rattle.chan_types.specs.declared.journal.What.{What}
use Rattle.chan_types.specs.declared.journal.What.TheVariants.{Accept, Arrive, Cancel, Destroy, Expire, Fault, Servers, Start, Take}
use Rattle.chan_types.specs.declared.ticket.Ticket.{Ticket}
use Rattle.channel_model.proofs.Theorems.{IsLawfulPast-before, followed_by-append, names_stay_behind, names_stay_refl, names_stay_trans, past_of-push, taken_once}
use Rattle.channel_model.specs.Commands.{AllBecame, Asking, accepted_for, asking_in, positions_from}
use Rattle.channel_model.specs.Completion.{occurrences, ready, taken, taken_by}
use Rattle.channel_model.specs.Course.{has_no_turn, is_of_turn}
use Rattle.channel_model.specs.Journal.{Accepted, accepted_by, followed_by, is_destroy, own_entries, past_of}
use Rattle.channel_model.specs.Known.{Calls, GoesOn}
use Rattle.channel_model.specs.Lawful.{IsLawful, IsLawfulPast, first}
use Rattle.channel_model.specs.Meanings.{Takes}
use Rattle.channel_model.specs.Names.{NamesBecome, NamesStay}
use Rattle.channel_model.specs.Seen.{Happens, entries_of}
use Rattle.channel_model.specs.Turn.{parts_of_entry}
use Rattle.channel_table.specs.Calling.{Owned, known_by_owner}
use Rattle.completion_ticket.specs.States.{CallbackState, CalledState}
use Rattle.event_runner.proofs.PauseLemmas.{names_same}
use Rattle.event_runner.specs.Goes.{AreMadeInTurns, is_made_in_turn}
use Rattle.owner_session.specs.Delivering.{DeliversAll, DeliversOne, DeliversSome, IsIdle, Spends}
use Rattle.owner_session.specs.Places.{PlacesState}
use Rattle.owner_session.specs.Kinds.{has_servers, is_cancel, is_of_session, is_ruled, is_servers}
use Rattle.channel_table.specs.Commanded.{IsOfCommand}
use Rattle.owner_session.specs.Session.{HasObeyed, IsKept}
use Rattle.owner_session.specs.declared.caller.Caller.{Caller}
use Rattle.seat_laws.proofs.ListLemmas.{each_follows, each_passes, first_passes}
use Rattle.owner_laws.proofs.ListLemmas.{denies}
use Rattle.owner_session.proofs.DeliveryLemmas.{take_entry}
use Rattle.owner_session.proofs.KeptLemmas.{commanded_of_session, kept_more, kept_one}
use Rattle.owner_session.proofs.ListLemmas.{all_pass, any_of, none_any}
use Rattle.owner_session.proofs.ObeyLemmas.{done_of, is_plain}
use Rattle.owner_session.proofs.SilentLemmas.{accepted_parts}
use Rattle.owner_laws.proofs.Owner.{owned_same, owner_called, owner_went_on, seen_by}
use Rattle.ticket_delivery.proofs.Theorems.{IsCommanded, all_commanded, all_entries, all_handed_on, command_takes, entries_weigh, gives_less, take_weighs}
use Rattle.ticket_delivery.specs.Performing.{plan_of}
use Rattle.ticket_delivery.specs.Weight.{weight}

-- a part of a session: the journal went on with entries of the one seat, none of which accepts a request on nobody's command
pub record Moves {B : Type 0} (old new : Caller B) : Type 0 where
  pub since : List Entry
  pub seen : new.alone.seen ≡ old.alone.seen ++ since
  pub setting : new.alone.setting ≡ old.alone.setting
  pub voice : new.alone.voice ≡ old.alone.voice
  pub hand : new.hand ≡ old.hand
  pub asked_none : accepted_for 0 since ≡ []
  pub of_session : list_all is_of_session since ≡ true
  pub lawful : IsLawful old.alone.setting old.alone.seen → IsLawful new.alone.setting new.alone.seen
  pub names : NamesStay since (Some old.alone.names) (Some new.alone.names)
  pub kept : HasObeyed old.alone.setting old.alone.seen old.hand.orders old.calls old.lost → HasObeyed new.alone.setting new.alone.seen new.hand.orders new.calls new.lost

-- entries of a session are ruled, and of the one seat
pub session_ruled : (es : List Entry) → list_all is_of_session es ≡ true → list_all is_ruled es ≡ true
session_ruled es h = all_pass is_of_session is_ruled (λ e is. (and_parts (is_ruled e) (not ((e.by == 0) && is_destroy e.what)) is).0) es h

pub ruled_seats : (es : List Entry) → list_all is_ruled es ≡ true → list_all (λ e. e.seat == 0) es ≡ true
ruled_seats es h = all_pass is_ruled (λ e. e.seat == 0) (λ e is. (and_parts (e.seat == 0) (not ((e.by == 0) && is_cancel e.what)) is).0) es h

pub session_seats : (es : List Entry) → list_all is_of_session es ≡ true → list_all (λ e. e.seat == 0) es ≡ true
session_seats es h = ruled_seats es (session_ruled es h)

-- the entries of a seat that made all
pub own_all : (es : List Entry) → list_all (λ e. e.seat == 0) es ≡ true → own_entries 0 es ≡ es
own_all [] all = refl
own_all (e ∷ es) all =
    let parts = first_passes (λ x. x.seat == 0) e es all in
    rw parts.0 (ap (λ l. e ∷ l) (own_all es parts.1))

module _ {B : Type 0} where
  -- nothing was done
  abbrev pub moves_none : (a : Caller B) → Moves a a
  moves_none a = record {
    since = [];
    seen = sym (append-nil a.alone.seen);
    setting = refl;
    voice = refl;
    hand = refl;
    asked_none = refl;
    of_session = refl;
    lawful = λ was. was;
    names = names_stay_refl (Some a.alone.names);
    kept = λ was. was;
  }

  -- one part and then another
  abbrev pub moves_trans : (a b c : Caller B) → Moves a b → Moves b c → Moves a c
  moves_trans a b c p q = record {
    since = p.since ++ q.since;
    seen = q.seen ∙ ap (λ l. l ++ q.since) p.seen ∙ append_assoc a.alone.seen p.since q.since;
    setting = q.setting ∙ p.setting;
    voice = q.voice ∙ p.voice;
    hand = q.hand ∙ p.hand;
    asked_none = accepted_parts 0 p.since q.since ∙ ap (λ l. l ++ accepted_for 0 q.since) p.asked_none ∙ q.asked_none;
    of_session = list_all-append is_of_session p.since q.since ∙ and_from (list_all is_of_session p.since) (list_all is_of_session q.since) p.of_session q.of_session;
    lawful = λ was. q.lawful (p.lawful was);
    names = names_stay_trans p.since q.since (Some a.alone.names) (Some b.alone.names) (Some c.alone.names) p.names q.names;
    kept = λ was. q.kept (p.kept was);
  }

  -- the owner stays idle
  pub moves_idle : (a b : Caller B) → Moves a b → IsIdle a → IsIdle b
  moves_idle a b m idle = record { no_command = ap (λ hand. hand.commands) m.hand ∙ idle.no_command; own_voice = m.voice ∙ idle.own_voice }

  -- and what is kept stays so
  pub moves_kept : (a b : Caller B) → Moves a b → IsKept a → IsKept b
  moves_kept a b m kept = (moves_idle a b m kept.0, m.kept kept.1)

  -- the owner's desk goes on
  abbrev pub moves_go_on : (a b : Caller B) → Moves a b → GoesOn (known_by_owner a.alone) (known_by_owner b.alone)
  moves_go_on a b m = record {
    desk = record { setting = m.setting; home = refl; seat = refl; voice = m.voice };
    since = m.since;
    seen = m.seen;
    lawful = m.lawful;
    own = m.seen ∙ ap (λ l. a.alone.seen ++ l) (sym (own_all m.since (session_seats m.since m.of_session)));
    names = m.names;
  }

  -- places play no part in it
  abbrev pub moves_placed : (a b : Caller B) (places : PlacesState B) → Moves a b → Moves a (record b { places = places })
  moves_placed a b places m = record {
    since = m.since;
    seen = m.seen;
    setting = m.setting;
    voice = m.voice;
    hand = m.hand;
    asked_none = m.asked_none;
    of_session = m.of_session;
    lawful = m.lawful;
    names = m.names;
    kept = m.kept;
  }

  -- by entries on nobody's command that take and accept nothing
  abbrev pub moves_plain : (a : Caller B) (c : Owned) (es : List Entry) → c.seen ≡ a.alone.seen ++ es → c.setting ≡ a.alone.setting → c.voice ≡ a.alone.voice →
      (IsLawful a.alone.setting a.alone.seen → IsLawful c.setting c.seen) → NamesStay es (Some a.alone.names) (Some c.names) → list_all is_plain es ≡ true → list_all is_of_session es ≡ true → accepted_for 0 es ≡ [] → Moves a (record a { alone = c })
  moves_plain a c es seen setting voice lawful names plain of_session none = record {
    since = es;
    seen = seen;
    setting = setting;
    voice = voice;
    hand = refl;
    asked_none = none;
    of_session = of_session;
    lawful = lawful;
    names = names;
    kept = λ was.
        subst (λ s. HasObeyed s c.seen a.hand.orders a.calls a.lost) (sym setting)
        (subst (λ j. HasObeyed a.alone.setting j a.hand.orders a.calls a.lost) (sym seen)
        (kept_more a.alone.setting a.alone.seen a.hand.orders a.calls a.lost was es
        (subst (IsLawful a.alone.setting) seen (subst (λ s. IsLawful s c.seen) setting (lawful was.lawful))) plain (session_ruled es of_session)));
  }

-- ---- turns

-- an event of a turn takes and accepts nothing, and neither cancels nor destroys nor sets servers
turn_is : (what : What) → not (length (parts_of_entry what) == 0) ≡ true → (taken_by what ≡ None) × (accepted_by what ≡ None) × (is_cancel what ≡ false) × (is_destroy what ≡ false) × (is_servers what ≡ false)
turn_is (Accept number spec script) of_turn = absurd (cc of_turn)
turn_is Cancel of_turn = absurd (cc of_turn)
turn_is Destroy of_turn = absurd (cc of_turn)
turn_is (Take number) of_turn = absurd (cc of_turn)
turn_is (Start number leg server link id mix moment) of_turn = (refl, refl, refl, refl, refl)
turn_is (Arrive server link bytes) of_turn = (refl, refl, refl, refl, refl)
turn_is (Expire number leg moment) of_turn = (refl, refl, refl, refl, refl)
turn_is (Fault server link moment) of_turn = (refl, refl, refl, refl, refl)
turn_is (Servers list) of_turn = absurd (cc of_turn)

-- the entry was made by the one seat in a turn
abbrev is_turned : Entry → Bool
is_turned e = (e.seat == 0) && is_made_in_turn e

turned_plain : (e : Entry) → is_turned e ≡ true → is_plain e ≡ true
turned_plain e h =
    let seat = and_parts (e.seat == 0) (is_made_in_turn e) h in
    let made = and_parts (is_of_turn e) (e.by == 0) seat.1 in
    and_from ((e.seat == 0) && (e.by == 0)) (not (is_some (taken_by e.what))) (and_from (e.seat == 0) (e.by == 0) seat.0 made.1) (ap (λ o. not (is_some o)) (turn_is e.what made.0).0)

turned_of_session : (e : Entry) → is_turned e ≡ true → is_of_session e ≡ true
turned_of_session e h =
    let seat = and_parts (e.seat == 0) (is_made_in_turn e) h in
    let made = and_parts (is_of_turn e) (e.by == 0) seat.1 in
    let is = turn_is e.what made.0 in
    and_from (is_ruled e) (not ((e.by == 0) && is_destroy e.what))
    (and_from (e.seat == 0) (not ((e.by == 0) && is_cancel e.what)) seat.0 (by (e.by == 0) (is_cancel e.what) is.2))
    (by (e.by == 0) (is_destroy e.what) is.3)
  where
    by : (a b : Bool) → b ≡ false → not (a && b) ≡ true
    by true b fails = ap not fails
    by false b fails = refl

turned_unset : (e : Entry) → is_turned e ≡ true → is_servers e.what ≡ false
turned_unset e h = (turn_is e.what (and_parts (is_of_turn e) (e.by == 0) (and_parts (e.seat == 0) (is_made_in_turn e) h).1).0).4

-- entries that accept nothing
unasked : (test : Entry → Bool) → ((e : Entry) → test e ≡ true → accepted_by e.what ≡ None) → (es : List Entry) → list_all test es ≡ true → accepted_for 0 es ≡ []
unasked test none [] all = refl
unasked test none (e ∷ es) all =
    let now = first_passes test e es all in
    by (e.by == 0) (asking_in e.what) (asks_none (accepted_by e.what) (none e now.0)) (unasked test none es now.1)
  where
    asks_none : (found : Option Accepted) → found ≡ None → ◌≡◌ {A = Option Asking} (option_map (λ request. record { spec = request.spec; script = request.script }) found) None
    asks_none None is = refl
    asks_none (Some r) is = absurd (cc is)

    by : (b : Bool) (found : Option Asking) → found ≡ None → accepted_for 0 es ≡ [] → cons_option (cond b found None) (accepted_for 0 es) ≡ []
    by true None is rest = rest
    by true (Some x) is rest = absurd (cc is)
    by false found is rest = rest

module _ {B : Type 0} (a : Caller B) (c : Owned) (goes : GoesOn (known_by_owner a.alone) (known_by_owner c)) (made : AreMadeInTurns 0 goes.since) where
  turned_all : list_all is_turned goes.since ≡ true
  turned_all = both_all goes.since (subst (λ l. list_all (λ e. e.seat == 0) l ≡ true) (owner_went_on a.alone c goes) (own_seats goes.since))
      (subst (λ l. list_all is_made_in_turn l ≡ true) (owner_went_on a.alone c goes) made)
    where
      own_seats : (es : List Entry) → list_all (λ e. e.seat == 0) (own_entries 0 es) ≡ true
      own_seats [] = refl
      own_seats (e ∷ es) = by_seat (e.seat == 0) refl (own_seats es)
        where
          by_seat : (b : Bool) → (e.seat == 0) ≡ b → list_all (λ x. x.seat == 0) (own_entries 0 es) ≡ true → list_all (λ x. x.seat == 0) (cond b (e ∷ own_entries 0 es) (own_entries 0 es)) ≡ true
          by_seat true is rest = and_from (e.seat == 0) (list_all (λ x. x.seat == 0) (own_entries 0 es)) is rest
          by_seat false is rest = rest

      both_all : (es : List Entry) → list_all (λ e. e.seat == 0) es ≡ true → list_all is_made_in_turn es ≡ true → list_all is_turned es ≡ true
      both_all [] seats turns = refl
      both_all (e ∷ es) seats turns =
          let one = first_passes (λ x. x.seat == 0) e es seats in
          let two = first_passes is_made_in_turn e es turns in
          and_from (is_turned e) (list_all is_turned es) (and_from (e.seat == 0) (is_made_in_turn e) one.0 two.0) (both_all es one.1 two.1)

  -- a turn, or a part of one
  pub moves_turn : Moves a (record a { alone = c })
  moves_turn = moves_plain a c goes.since goes.seen goes.desk.setting goes.desk.voice goes.lawful goes.names
      (all_pass is_turned is_plain turned_plain goes.since turned_all) (all_pass is_turned is_of_session turned_of_session goes.since turned_all)
      (unasked is_turned (λ e h. (turn_is e.what (and_parts (is_of_turn e) (e.by == 0) (and_parts (e.seat == 0) (is_made_in_turn e) h).1).0).1) goes.since turned_all)

  -- takes nothing
  pub turn_plain : list_all is_plain moves_turn.since ≡ true
  unfolding moves_turn
  turn_plain = all_pass is_turned is_plain turned_plain goes.since turned_all

  -- sets no servers
  pub turn_unset : has_servers moves_turn.since ≡ false
  unfolding moves_turn
  turn_unset = none_any is_turned (λ e. is_servers e.what) turned_unset goes.since turned_all

-- ---- deliveries

-- what a callback commanded is no entry of a turn, and sets no servers
command_is : (what : What) → IsOfCommand what → (not (not (length (parts_of_entry what) == 0)) ≡ true) × (is_servers what ≡ false)
command_is (Accept number spec script) of_command = (refl, refl)
command_is Cancel of_command = (refl, refl)
command_is Destroy of_command = (refl, refl)
command_is (Take number) of_command = absurd of_command
command_is (Start number leg server link id mix moment) of_command = absurd of_command
command_is (Arrive server link bytes) of_command = absurd of_command
command_is (Expire number leg moment) of_command = absurd of_command
command_is (Fault server link moment) of_command = absurd of_command
command_is (Servers list) of_command = absurd of_command

-- the first of a list stands in it
first_counts : (n : ℕ) (ns : List ℕ) → first ns ≡ Some n → 1 ≤ occurrences n ns
first_counts n [] is = absurd (cc is)
first_counts n (m ∷ ns) is = let same : Some m ≡ Some n = is in let m_is : m ≡ n = cc in ap_le (m == n) (eq-eqb m n m_is)
  where
    ap_le : (b : Bool) → b ≡ true → 1 ≤ cond b (occurrences n ns + 1) (occurrences n ns)
    ap_le true h = omega arith
    ap_le false h = absurd (cc h)

-- what a callback commanded isn't accepted on nobody's command
pub commanded_asks : (by : ℕ) → by ≢ 0 → (es : List Entry) → AllByRecursion (IsCommanded by) es → accepted_for 0 es ≡ []
commanded_asks by some [] each = refl
commanded_asks by some (e ∷ es) each = by_number (e.by == 0) (ne_eqb e.by 0 (λ zero_. some (sym each.0.1 ∙ zero_))) (commanded_asks by some es each.1)
  where
    by_number : (b : Bool) → b ≡ false → accepted_for 0 es ≡ [] → cons_option (cond b (asking_in e.what) None) (accepted_for 0 es) ≡ []
    by_number true fails rest = absurd (cc fails)
    by_number false fails rest = rest

module _ {B : Type 0} (called : CalledState) (a b : Caller B) (idle : IsIdle a) (ticket : Ticket CallbackState) (took : Owned)
    (call : Calls (Takes plan_of (Some ticket)) 0 (known_by_owner a.alone) (known_by_owner took)) (s : Spends ticket called (record a { alone = took }) b) where
  abbrev request : ℕ
  request = ticket.call.number

  happens : Happens (Takes plan_of (Some ticket)) 0 0 (seen_by a.alone) (seen_by took)
  happens = owner_called (Takes plan_of (Some ticket)) 0 a.alone took call

  took_seen : took.seen ≡ a.alone.seen ++ take_entry request ∷ []
  took_seen = happens.journal ∙ ap (λ o. a.alone.seen ++ entries_of 0 0 o) happens.meant.0

  abbrev commanded_since : List Entry
  commanded_since = s.performed.since

  abbrev commands : List Command
  commands = gives ticket.token.plan ticket.call a.hand.orders

  abbrev whole : List Entry
  whole = a.alone.seen ++ take_entry request ∷ commanded_since

  -- what its callback commanded
  pub one_commanded : AllByRecursion (IsCommanded request) commanded_since
  one_commanded = all_commanded commands request took b.alone s.count s.performed

  pub one_seen : b.alone.seen ≡ whole
  one_seen = s.performed.seen ∙ ap (λ l. l ++ commanded_since) took_seen ∙ append_assoc a.alone.seen (take_entry request ∷ []) commanded_since

  b_setting : b.alone.setting ≡ a.alone.setting
  b_setting = s.performed.setting ∙ call.desk.setting

  lawful_before : IsLawfulPast a.alone.setting (past_of a.alone.seen)
  lawful_before =
      IsLawfulPast-before a.alone.setting (past_of a.alone.seen) (take_entry request ∷ [])
      (subst (IsLawfulPast a.alone.setting) (ap past_of took_seen ∙ past_of-push a.alone.seen (take_entry request))
      (subst (λ k. IsLawful k took.seen) call.desk.setting call.lawful).allowed)

  pub one_untaken : occurrences request (taken (past_of a.alone.seen)) ≡ 0
  one_untaken = omega (arith, taken_once a.alone.setting (past_of a.alone.seen) request lawful_before, first_counts request (ready a.alone.setting (past_of a.alone.seen)) happens.meant.1)

  pub one_numbered : request ≢ 0
  one_numbered = (done_of a.alone.setting (past_of a.alone.seen) lawful_before request ticket.call happens.meant.2).numbered

  one_longer : length took.seen ≡ length a.alone.seen + 1
  one_longer = ap length took_seen ∙ length-append a.alone.seen (take_entry request ∷ [])

  -- the request's token is gone, and those of the requests that its callback asked are new
  pub one_names : NamesStay (take_entry request ∷ commanded_since) (Some a.alone.names) (Some b.alone.names)
  unfolding happens
  one_names =
      let taken_names : NamesStay (take_entry request ∷ []) (Some a.alone.names) (Some took.names) =
      subst (λ o. NamesStay (entries_of 0 0 o) (Some a.alone.names) (Some took.names)) happens.meant.0 (names_stay_behind 0 0 call.added [] (Some a.alone.names) (Some took.names) call.names) in
      names_stay_trans (take_entry request ∷ []) commanded_since (Some a.alone.names) (Some took.names) (Some b.alone.names) taken_names s.performed.names

  pub one_lawful : IsLawful b.alone.setting b.alone.seen
  one_lawful = s.performed.lawful call.lawful

  -- the delivery of a request
  pub moves_one : Moves a b
  moves_one = record {
    since = take_entry request ∷ commanded_since;
    seen = one_seen;
    setting = b_setting;
    voice = s.voice ∙ call.desk.voice;
    hand = s.hand;
    asked_none = commanded_asks request one_numbered commanded_since one_commanded;
    of_session = each_passes (IsCommanded request) is_of_session (commanded_of_session request one_numbered) commanded_since one_commanded;
    lawful = λ was. one_lawful;
    names = one_names;
    kept = λ was.
        subst (λ k. HasObeyed k b.alone.seen b.hand.orders b.calls b.lost) (sym b_setting)
        (subst (λ j. HasObeyed a.alone.setting j b.hand.orders b.calls b.lost) (sym one_seen)
        (subst (λ h. HasObeyed a.alone.setting whole h.orders b.calls b.lost) (sym s.hand)
        (subst (λ cs. HasObeyed a.alone.setting whole a.hand.orders cs b.lost) (sym s.calls)
        (kept_one a.alone.setting a.alone.seen a.hand.orders a.calls a.lost was commanded_since ticket.call ticket.token.plan s.performed.outcomes b.lost
        (subst (IsLawful a.alone.setting) one_seen (subst (λ k. IsLawful k b.alone.seen) b_setting one_lawful))
        happens.meant.2 happens.meant.3 one_untaken one_commanded
        (subst (λ n. AllBecame a.alone.setting whole n commands s.performed.outcomes) one_longer
        (subst (λ j. AllBecame a.alone.setting j (length took.seen) commands s.performed.outcomes) one_seen
        (subst (λ k. AllBecame k b.alone.seen (length took.seen) commands s.performed.outcomes) call.desk.setting s.performed.became)))
        (ap (λ n. positions_from (λ (entry : Entry). true) n commanded_since) (sym one_longer) ∙ all_entries commands request took b.alone s.count s.performed)
        (omega (arith, s.lost, s.performed.lost))))));
  }

  pub one_quiet : has_no_turn moves_one.since ≡ true
  unfolding moves_one
  one_quiet = each_passes (IsCommanded request) (λ e. not (is_of_turn e)) (λ e c. (command_is e.what c.2).0) commanded_since one_commanded

  pub one_unset : has_servers moves_one.since ≡ false
  unfolding moves_one
  one_unset = none_any (λ e. not (is_servers e.what)) (λ e. is_servers e.what) (λ e h. denies (is_servers e.what) h) commanded_since
      (each_passes (IsCommanded request) (λ e. not (is_servers e.what)) (λ e c. ap not (command_is e.what c.2).1) commanded_since one_commanded)

  -- takes weight away
  pub one_weighs : weight (past_of b.alone.seen) < weight (past_of a.alone.seen)
  one_weighs =
      let past_is : past_of b.alone.seen ≡ followed_by (Take request ∷ past_of a.alone.seen) commanded_since = ap past_of one_seen ∙ followed_by-append [] a.alone.seen (take_entry request ∷ commanded_since) in
      omega (
        arith,
        ap weight past_is,
        entries_weigh (Take request ∷ past_of a.alone.seen) commanded_since (each_follows (IsCommanded request) (λ e. taken_by e.what ≡ None) (λ e c. command_takes e.what c.2) commanded_since one_commanded),
        all_handed_on commands request took b.alone s.count s.performed,
        gives_less ticket.token.plan ticket.call a.hand.orders,
        take_weighs (past_of a.alone.seen) request ticket.token.plan one_untaken happens.meant.3,
      )

-- ---- several deliveries

-- a part without an entry of a turn, and without one that sets servers
abbrev pub MovesQuietly : {B : Type 0} → Caller B → Caller B → Type 0
MovesQuietly a b = (m : Moves a b) × (has_no_turn m.since ≡ true) × (has_servers m.since ≡ false)

module _ {B : Type 0} where
  quiet_none : (a : Caller B) → MovesQuietly a a
  quiet_none a = (moves_none a, refl, refl)

  quiet_trans : (a b c : Caller B) → MovesQuietly a b → MovesQuietly b c → MovesQuietly a c
  quiet_trans a b c p q = (
    moves_trans a b c p.0 q.0,
    list_all-append (λ e. not (is_of_turn e)) p.0.since q.0.since ∙ and_from (has_no_turn p.0.since) (has_no_turn q.0.since) p.1 q.1,
    any_of (λ e. is_servers e.what) p.0.since q.0.since p.2 q.2,
  )

  quiet_placed : (a b : Caller B) (places : PlacesState B) → MovesQuietly a b → MovesQuietly a (record b { places = places })
  quiet_placed a b places q = (moves_placed a b places q.0, q.1, q.2)

  pub quiet_one : (called : CalledState) (a b : Caller B) → IsIdle a → DeliversOne (Some called) a b → MovesQuietly a b
  quiet_one called a b idle d = (moves_one called a b idle d.0 d.1 d.2 d.4, one_quiet called a b idle d.0 d.1 d.2 d.4, one_unset called a b idle d.0 d.1 d.2 d.4)

  pub quiet_some : (called : List CalledState) (a b : Caller B) → IsIdle a → DeliversSome called a b → MovesQuietly a b
  quiet_some [] a b idle d = subst (λ x. MovesQuietly a x) (sym d) (quiet_none a)
  quiet_some (c ∷ called) a b idle d =
      let one = quiet_placed a d.0 d.1 (quiet_one c a d.0 idle d.2) in
      let next : Caller B = record d.0 { places = d.1 } in
      quiet_trans a next b one (quiet_some called next b (moves_idle a next one.0 idle) d.3)

  -- nothing was ready
  pub same_none : (a b : Caller B) → DeliversOne None a b → b ≡ a
  same_none a b d =
      let nothing : Option (Ticket CallbackState) = None in
      let h = owner_called (Takes plan_of nothing) 0 a.alone b.alone d.0 in
      let same : b.alone ≡ a.alone = owned_same a.alone b.alone d.0.desk.setting d.0.desk.voice (h.journal ∙ ap (λ o. a.alone.seen ++ entries_of 0 0 o) h.meant.0 ∙ append-nil a.alone.seen)
      (names_same (Some a.alone.names) (Some b.alone.names) (subst (λ o. NamesBecome o (Some a.alone.names) (Some b.alone.names)) h.meant.0 d.0.names)) in
      d.1 ∙ ap (λ o. record a { alone = o }) same

  pub still_idle : (a b : Caller B) → IsIdle a → DeliversOne None a b → IsIdle b
  still_idle a b idle d = subst IsIdle (sym (same_none a b d)) idle

  pub none_ready : (a b : Caller B) → DeliversOne None a b → ready b.alone.setting (past_of b.alone.seen) ≡ []
  none_ready a b d =
      let nothing : Option (Ticket CallbackState) = None in
      subst (λ x. ready x.alone.setting (past_of x.alone.seen) ≡ []) (sym (same_none a b d)) (owner_called (Takes plan_of nothing) 0 a.alone b.alone d.0).meant.1

  -- all that was ready
  pub quiet_all : (a b : Caller B) → IsIdle a → DeliversAll a b → MovesQuietly a b
  quiet_all a b idle d = subst (λ x. MovesQuietly a x) (sym (same_none d.middle b d.none)) (quiet_some d.called a d.middle idle d.some)

  -- one more delivery behind others
  pub delivers_last : (called : List CalledState) (last : CalledState) (a b c : Caller B) (places : PlacesState B) → DeliversSome called a b → DeliversOne (Some last) b c →
      DeliversSome (called ++ last ∷ []) a (record c { places = places })
  delivers_last [] last a b c places some one = (c, places, subst (λ x. DeliversOne (Some last) x c) some one, refl)
  delivers_last (d ∷ called) last a b c places some one = (some.0, some.1, some.2, delivers_last called last (record some.0 { places = some.1 }) b c places some.3 one)

  pub weighs_less : (called : CalledState) (a b : Caller B) → IsIdle a → DeliversOne (Some called) a b → weight (past_of b.alone.seen) < weight (past_of a.alone.seen)
  weighs_less called a b idle d = one_weighs called a b idle d.0 d.1 d.2 d.4
