-- The desk of the tests: nothing was asked, so nothing is pending or ready, waits or is in flight.
use Rattle.event_runner.proofs.Base.{◌≡◌, ℕ, ◌<◌, List, [], ◌∷◌, ◌++◌, filter, map, refl, ap, ap₂, sym, subst, true, false, None, Some, Ok, Err, Result, list_any, IfSome, filter_map, flat_map, is_err, is_some, length, not, option_map, append-nil, Entry, What, Accept, Arrive, Cancel, Destroy, Expire, Fault, Servers, Start, Take, lawful_push, past_of-push, completed_at, completed_by, is_open, pending, ready, waiting, waiting_of, flight, in_flight, started, Past, accepted, is_destroyed, past_of, Calls, went_over, closes, IsAllowed, IsLawfulPast, due_of, first_due, least, Accepts, Arrives, Cancels, Destroys, Expires, Fails, Meaning, SetsServers, Starts, Takes, TellsBusy, TellsCounts, TellsDue, Idle, Landed, Stray, NotDue, ChannelClosed, Closed, Script, Spec, NoMemory, ServerAddr, IsClosed, known_of, plain_setting}

none_accepted : (past : Past) → IsClosed past → accepted past ≡ []
none_accepted [] c = absurd c
none_accepted (Accept number spec script ∷ past) c = absurd c
none_accepted (Cancel ∷ past) c = absurd c
none_accepted (Destroy ∷ past) c = ap (λ p. accepted p ++ []) c
none_accepted (Take number ∷ past) c = absurd c
none_accepted (Start number leg server link id mix moment ∷ past) c = absurd c
none_accepted (Arrive server link bytes ∷ past) c = ap (λ l. l ++ []) (none_accepted past c)
none_accepted (Expire number leg moment ∷ past) c = absurd c
none_accepted (Fault server link moment ∷ past) c = ap (λ l. l ++ []) (none_accepted past c)
none_accepted (Servers list ∷ past) c = absurd c

none_started : (past : Past) → IsClosed past → started past ≡ []
none_started [] c = absurd c
none_started (Accept number spec script ∷ past) c = absurd c
none_started (Cancel ∷ past) c = absurd c
none_started (Destroy ∷ past) c = ap started c
none_started (Take number ∷ past) c = absurd c
none_started (Start number leg server link id mix moment ∷ past) c = absurd c
none_started (Arrive server link bytes ∷ past) c = none_started past c
none_started (Expire number leg moment ∷ past) c = absurd c
none_started (Fault server link moment ∷ past) c = none_started past c
none_started (Servers list ∷ past) c = absurd c

pub was_destroyed : (past : Past) → IsClosed past → is_destroyed past ≡ true
was_destroyed [] c = absurd c
was_destroyed (Accept number spec script ∷ past) c = absurd c
was_destroyed (Cancel ∷ past) c = absurd c
was_destroyed (Destroy ∷ past) c = refl
was_destroyed (Take number ∷ past) c = absurd c
was_destroyed (Start number leg server link id mix moment ∷ past) c = absurd c
was_destroyed (Arrive server link bytes ∷ past) c = was_destroyed past c
was_destroyed (Expire number leg moment ∷ past) c = absurd c
was_destroyed (Fault server link moment ∷ past) c = was_destroyed past c
was_destroyed (Servers list ∷ past) c = absurd c

none_completed : (what : What) (past : Past) → accepted (what ∷ past) ≡ [] → completed_at plain_setting what past ≡ []
none_completed what past none =
    ap (λ a. filter (λ request. is_some (completed_by plain_setting request what past)) (filter (is_open plain_setting past) (map (λ r. r.number) a))) none

pub none_ready : (past : Past) → IsClosed past → ready plain_setting past ≡ []
none_ready [] c = absurd c
none_ready (Accept number spec script ∷ past) c = absurd c
none_ready (Cancel ∷ past) c = absurd c
none_ready (Destroy ∷ past) c = ap₂ (λ a b. a ++ b) (ap (ready plain_setting) c) (none_completed Destroy past (none_accepted (Destroy ∷ past) c))
none_ready (Take number ∷ past) c = absurd c
none_ready (Start number leg server link id mix moment ∷ past) c = absurd c
none_ready (Arrive server link bytes ∷ past) c =
    ap₂ (λ a b. a ++ b) (none_ready past c) (none_completed (Arrive server link bytes) past (none_accepted (Arrive server link bytes ∷ past) c))
none_ready (Expire number leg moment ∷ past) c = absurd c
none_ready (Fault server link moment ∷ past) c =
    ap₂ (λ a b. a ++ b) (none_ready past c) (none_completed (Fault server link moment) past (none_accepted (Fault server link moment ∷ past) c))
none_ready (Servers list ∷ past) c = absurd c

pub none_pending : (past : Past) → IsClosed past → pending plain_setting past ≡ []
none_pending past c = ap (λ a. filter (is_open plain_setting past) (map (λ r. r.number) a)) (none_accepted past c)

pub none_waiting : (past : Past) → IsClosed past → waiting plain_setting past ≡ []
none_waiting past c = ap (flat_map (waiting_of plain_setting past)) (none_pending past c)

pub none_flying : (past : Past) → IsClosed past → in_flight plain_setting past ≡ []
none_flying past c = ap (filter_map (λ leg. flight plain_setting leg past)) (none_started past c)

was_lawful : (past : Past) → IsClosed past → IsLawfulPast plain_setting past
was_lawful [] c = absurd c
was_lawful (Accept number spec script ∷ past) c = absurd c
was_lawful (Cancel ∷ past) c = absurd c
was_lawful (Destroy ∷ past) c = (ap is_destroyed c, subst (IsLawfulPast plain_setting) (sym c) tt)
was_lawful (Take number ∷ past) c = absurd c
was_lawful (Start number leg server link id mix moment ∷ past) c = absurd c
was_lawful (Arrive server link bytes ∷ past) c = (tt, was_lawful past c)
was_lawful (Expire number leg moment ∷ past) c = absurd c
was_lawful (Fault server link moment ∷ past) c = (tt, was_lawful past c)
was_lawful (Servers list ∷ past) c = absurd c

-- a call that adds nothing
pub adds_nothing : (meaning : Meaning) (by : ℕ) (journal : List Entry) → IsClosed (past_of journal) → meaning plain_setting (past_of journal) None → Calls meaning by (known_of journal) (known_of journal)
adds_nothing meaning by journal c meant = record {
  here = journal;
  added = None;
  meant = meant;
  desk = record { setting = refl; home = refl; seat = refl; voice = refl };
  stands = record { others = []; parts = sym (append-nil journal); by_others = tt };
  seen = sym (append-nil journal);
  own = sym (append-nil journal);
  names = refl;
  lawful = record { allowed = was_lawful (past_of journal) c };
}

-- one that adds this
pub adds_entry : (meaning : Meaning) (by : ℕ) (old new : List Entry) (what : What) → IsClosed (past_of old) → new ≡ old ++ record { seat = 0; by = by; what = what } ∷ [] → IsAllowed plain_setting (past_of old) what
    → meaning plain_setting (past_of old) (Some what) → Calls meaning by (known_of old) (known_of new)
adds_entry meaning by old new what c is allowed meant = record {
  here = old;
  added = Some what;
  meant = meant;
  desk = record { setting = refl; home = refl; seat = refl; voice = refl };
  stands = record { others = []; parts = sym (append-nil old); by_others = tt };
  seen = is;
  own = is;
  names = refl;
  lawful = lawful_push plain_setting old new (record { seat = 0; by = by; what = what }) (record { allowed = was_lawful (past_of old) c }) is allowed;
}

-- and the journal stays that of a closed channel
pub stays_closed : (old new : List Entry) (entry : Entry) → new ≡ old ++ entry ∷ [] → IsClosed (entry.what ∷ past_of old) → IsClosed (past_of new)
stays_closed old new entry is c = rw (is, past_of-push old entry) c

none_due : (past : Past) → IsClosed past → first_due plain_setting past ≡ None
none_due past c = ap (λ fs. least (map (due_of plain_setting past) fs)) (none_flying past c)

module _ (journal : List Entry) (c : IsClosed (past_of journal)) where
  pub refuses : {T : Type 0} (plan : T → Script) (spec : Spec) (token : T) → Calls (Accepts plan spec token (Err (record { why = Closed; spec = spec; token = token }))) 0 (known_of journal) (known_of journal)
  refuses plan spec token =
      adds_nothing (Accepts plan spec token (Err (record { why = Closed; spec = spec; token = token }))) 0 journal c (refl, (λ _. was_destroyed (past_of journal) c, λ _. refl), refl, refl)

  pub cancels : Calls (Cancels 0) 0 (known_of journal) (known_of journal)
  cancels = adds_nothing (Cancels 0) 0 journal c (record { all_pending = sym (ap length (none_pending (past_of journal) c)); entry = refl })

  pub destroys : Calls (Destroys false) 0 (known_of journal) (known_of journal)
  destroys = adds_nothing (Destroys false) 0 journal c (record { answer = sym (ap not (was_destroyed (past_of journal) c)); entry = refl })

  pub takes : {T : Type 0} (plan : T → Script) → Calls (Takes plan None) 0 (known_of journal) (known_of journal)
  takes plan = adds_nothing (Takes plan None) 0 journal c (refl, none_ready (past_of journal) c)

  pub idles : (word bits at : ℕ) → Calls (Starts word bits at (Ok Idle)) 0 (known_of journal) (known_of journal)
  idles word bits at = adds_nothing (Starts word bits at (Ok Idle)) 0 journal c (refl, none_waiting (past_of journal) c)

  pub expires : (at : ℕ) → Calls (Expires at (Ok NotDue)) 0 (known_of journal) (known_of journal)
  expires at = adds_nothing (Expires at (Ok NotDue)) 0 journal c (refl, subst (λ o. IfSome o (λ due. at < due.at)) (sym (none_due (past_of journal) c)) tt)

  pub tells_due : Calls (TellsDue None) 0 (known_of journal) (known_of journal)
  tells_due = adds_nothing (TellsDue None) 0 journal c (record { nothing = refl; answer = sym (ap (λ o. option_map (λ d. d.at) o) (none_due (past_of journal) c)) })

  pub tells_counts : Calls (TellsCounts (record { pending = 0; ready = 0; waiting = 0; flying = 0 })) 0 (known_of journal) (known_of journal)
  tells_counts = adds_nothing (TellsCounts (record { pending = 0; ready = 0; waiting = 0; flying = 0 })) 0 journal c (record {
    nothing = refl;
    requests_pending = sym (ap length (none_pending (past_of journal) c));
    requests_ready = sym (ap length (none_ready (past_of journal) c));
    legs_waiting = sym (ap length (none_waiting (past_of journal) c));
    legs_flying = sym (ap length (none_flying (past_of journal) c));
  })

  pub tells_busy : (server link : ℕ) → Calls (TellsBusy server link false) 0 (known_of journal) (known_of journal)
  tells_busy server link = adds_nothing (TellsBusy server link false) 0 journal c (record {
    nothing = refl;
    answer = sym (ap (λ fs. list_any (λ a. went_over a server link) fs) (none_flying (past_of journal) c));
  })

  pub sets : (servers : List ServerAddr) → Calls (SetsServers servers (Err ChannelClosed)) 0 (known_of journal) (known_of journal)
  sets servers = adds_nothing (SetsServers servers (Err ChannelClosed)) 0 journal c
      (refl, (λ _. was_destroyed (past_of journal) c, λ _. refl), (λ e. absurd (cc e), λ p. absurd (cc (p.0, was_destroyed (past_of journal) c))))

-- a link that fails, and a message that comes
module _ (now old new : List Entry) (same : now ≡ old) (c : IsClosed (past_of old)) where
  pub faults : (server link at : ℕ) → new ≡ old ++ record { seat = 0; by = 0; what = Fault server link at } ∷ [] → Calls (Fails server link at (Ok 0)) 0 (known_of now) (known_of new)
  faults server link at is =
      subst (λ j. Calls (Fails server link at (Ok 0)) 0 (known_of j) (known_of new)) (sym same)
      (adds_entry (Fails server link at (Ok 0)) 0 old new (Fault server link at) c is tt
      (refl, sym (ap (λ fs. length (filter (λ a. went_over a server link) fs)) (none_flying (past_of old) c))))

  pub arrives : (server link : ℕ) (bytes copy : List ℕ) → copy ≡ bytes → new ≡ old ++ record { seat = 0; by = 0; what = Arrive server link copy } ∷ [] → Calls (Arrives server link bytes (Ok Stray)) 0 (known_of now) (known_of new)
  arrives server link bytes copy eq is =
      subst (λ b. Calls (Arrives server link b (Ok Stray)) 0 (known_of now) (known_of new)) eq
      (subst (λ j. Calls (Arrives server link copy (Ok Stray)) 0 (known_of j) (known_of new)) (sym same)
      (adds_entry (Arrives server link copy (Ok Stray)) 0 old new (Arrive server link copy) c is tt
      (refl, ap (λ fs. list_any (λ a. closes plain_setting a (Arrive server link copy) (past_of old)) fs) (none_flying (past_of old) c))))

  module _ (kept : new ≡ old) where
    pub faults_not : (server link at : ℕ) (result : Result ℕ NoMemory) → is_err result ≡ true → Calls (Fails server link at result) 0 (known_of now) (known_of new)
    faults_not server link at (Ok count) err = absurd (cc err)
    faults_not server link at (Err fault) err =
        subst (λ j. Calls (Fails server link at (Err fault)) 0 (known_of now) (known_of j)) (sym kept)
        (subst (λ j. Calls (Fails server link at (Err fault)) 0 (known_of j) (known_of old)) (sym same) (adds_nothing (Fails server link at (Err fault)) 0 old c refl))

    pub arrives_not : (server link : ℕ) (bytes : List ℕ) (result : Result Landed NoMemory) → is_err result ≡ true → Calls (Arrives server link bytes result) 0 (known_of now) (known_of new)
    arrives_not server link bytes (Ok landed) err = absurd (cc err)
    arrives_not server link bytes (Err fault) err =
        subst (λ j. Calls (Arrives server link bytes (Err fault)) 0 (known_of now) (known_of j)) (sym kept)
        (subst (λ j. Calls (Arrives server link bytes (Err fault)) 0 (known_of j) (known_of old)) (sym same) (adds_nothing (Arrives server link bytes (Err fault)) 0 old c refl))
