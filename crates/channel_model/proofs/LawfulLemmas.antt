-- What a lawful past says of legs: those that start were idle, those that have ended don't fly, and no two in flight share an identifier.
use Rattle.std.proofs.Common.{subst, sym, true≢false, ⊎_elim, ◌∙◌, eq-eqb, ap}
use Rattle.std.proofs.lemmas.Bool.{and_parts, cases_Bool, false_from_ne_true}
use Rattle.std.specs.List.{AllByRecursion}
use Rattle.std.specs.Prelude.{IsTrue, ℕ, ◌≡◌, refl, Option, unwrap_or, option_map, [], None, Some, ⊤, is_none, true, ◌∷◌, List, ◌||◌, IsFalse, ◌==◌, IfSome, ◌++◌}
use Rattle.chan_types.specs.declared.journal.Entry.{Entry}
use Rattle.chan_types.specs.declared.journal.What.{What}
use Rattle.chan_types.specs.declared.journal.What.TheVariants.{Accept, Cancel, Destroy, Take, Start, Arrive, Expire, Fault, Servers}
use Rattle.chan_types.specs.declared.spec.Spec.{Spec}
use Rattle.channel_model.proofs.FlightLemmas.{flight-cases, is_leg-says, in_flight-none, is_leg-itself, flight-leg}
use Rattle.channel_model.proofs.ListLemmas.{each-map, each-then, each-filter, each-flat_map, each-any, first_of, none_is_some}
use Rattle.channel_model.specs.Completion.{is_idle, is_open, legs_at, waiting_of, current_legs, waiting, pending, requests}
use Rattle.channel_model.specs.Flight.{flight, Attempt, begun_by, has_leg, is_of_leg, begun_or}
use Rattle.channel_model.specs.InFlight.{IsInFlight, NoneCloses}
use Rattle.channel_model.specs.Journal.{Past, spec_of, past_of}
use Rattle.channel_model.specs.Lawful.{first, IsAllowed, MayStart, IsLawfulPast, is_used, IsLawful}
use Rattle.channel_model.specs.LegEnd.{leg_end, LegEnd}
use Rattle.channel_model.specs.Legs.{Leg, leg_of, legs_of, is_leg}
use Rattle.channel_model.specs.Search.{Stand, asking, over, stand_of}
use Rattle.channel_model.specs.Setting.{Setting}

module _ (setting : Setting) (past : Past) where
  -- a leg that waits is idle, and its request is open
  abbrev pub Waits : Leg → Type 0
  Waits leg = IsTrue (is_idle setting past leg) × IsTrue (is_open setting past leg.request)

  -- the legs at which a search stands are its request's
  pub legs_of_request : (request : ℕ) (spec : Spec) (stand : Stand) → AllByRecursion (λ leg. leg.request ≡ request) (legs_at setting request spec stand)
  legs_of_request request spec (asking c) = each-map (λ leg. leg.request ≡ request) (leg_of request) (legs_of spec c) (λ _. refl)
  legs_of_request request spec (over answer) = tt

  legs_if_asked : (request : ℕ) (stand : Spec → Stand) (asked : Option Spec)
      → AllByRecursion (λ leg. leg.request ≡ request) (unwrap_or (option_map (λ spec. legs_at setting request spec (stand spec)) asked) [])
  legs_if_asked request stand None = tt
  legs_if_asked request stand (Some spec) = legs_of_request request spec (stand spec)

  waiting_of_open : (request : ℕ) → IsTrue (is_open setting past request) × ⊤ → AllByRecursion Waits (waiting_of setting past request)
  waiting_of_open request unfinished =
      each-then (λ leg. IsTrue (is_idle setting past leg) × (leg.request ≡ request)) Waits (waiting_of setting past request)
      (λ leg h. (h.0, subst (λ n. IsTrue (is_open setting past n)) (sym h.1) unfinished.0))
      (each-filter (λ leg. leg.request ≡ request) (is_idle setting past) (current_legs setting past request)
      (legs_if_asked request (λ spec. stand_of setting request spec past) (spec_of request past)))

  -- all legs that wait do
  pub each_waits : AllByRecursion Waits (waiting setting past)
  each_waits =
      each-flat_map (λ request. IsTrue (is_open setting past request) × ⊤) Waits (waiting_of setting past) (pending setting past) waiting_of_open
      (each-filter (λ request. ⊤) (is_open setting past) (requests past) (each-any (λ request. ⊤) (requests past) (λ _. tt)))

  -- and so does the first
  pub first_waits : (leg : Leg) → first (waiting setting past) ≡ Some leg → Waits leg
  first_waits leg e = first_of Waits (waiting setting past) leg each_waits e

-- there is no value where a test says so
pub none_says : {A : Type 0} (o : Option A) → is_none o ≡ true → o ≡ None
none_says None e = refl
none_says (Some x) e = absurd (true≢false (sym e))

module _ (setting : Setting) where
  -- an idle leg isn't in flight, and hasn't ended
  pub idle_says : (past : Past) (leg : Leg) → IsTrue (is_idle setting past leg) → (flight setting leg past ≡ None) × (leg_end setting leg past ≡ None)
  idle_says past leg idle =
      let parts = and_parts (is_none (flight setting leg past)) (is_none (leg_end setting leg past)) idle in
      (none_says _ parts.0, none_says _ parts.1)

  -- an attempt that begins was allowed to
  pub start_allowed : (past : Past) (what : What) (a : Attempt) → IsAllowed setting past what → begun_by what ≡ Some a → MayStart setting past a.leg a.server a.link a.id a.mix
  start_allowed past (Accept number spec script) a allowed begun = none_is_some a begun
  start_allowed past Cancel a allowed begun = none_is_some a begun
  start_allowed past Destroy a allowed begun = none_is_some a begun
  start_allowed past (Take number) a allowed begun = none_is_some a begun
  start_allowed past (Start number leg server link id mix moment) a allowed begun =
      let same : ◌≡◌ {A = Attempt} (record { leg = leg_of number leg; server = server; link = link; id = id; mix = mix; moment = moment }) a = cc in
      subst (λ (x : Attempt). MayStart setting past x.leg x.server x.link x.id x.mix) same allowed
  start_allowed past (Arrive server link bytes) a allowed begun = none_is_some a begun
  start_allowed past (Expire number leg moment) a allowed begun = none_is_some a begun
  start_allowed past (Fault server link moment) a allowed begun = none_is_some a begun
  start_allowed past (Servers list) a allowed begun = none_is_some a begun

  -- the leg of an attempt that begins was idle
  pub start_idle : (past : Past) (what : What) (a : Attempt) → IsAllowed setting past what → begun_by what ≡ Some a
      → (flight setting a.leg past ≡ None) × (leg_end setting a.leg past ≡ None)
  start_idle past what a allowed begun =
      idle_says past a.leg (first_waits setting past a.leg (start_allowed past what a allowed begun).waits).0

  -- a leg that is in flight hasn't ended
  pub flight_open : (leg : Leg) (past : Past) (a : Attempt) → IsLawfulPast setting past → flight setting leg past ≡ Some a → leg_end setting leg past ≡ None
  flight_open leg [] a lawful e = none_is_some a e
  flight_open leg (what ∷ past) a lawful e = ⊎_elim
      (λ h. let idle = start_idle past what a lawful.0 h.0 in
      subst (λ l. leg_end setting l (what ∷ past) ≡ None) (sym h.1) (rw idle.0 idle.1))
      (λ h. rw (h.0, h.1) (flight_open leg past a lawful.1 h.0))
      (flight-cases setting leg what past a e)

  ended_open : (leg : Leg) (past : Past) (end : LegEnd) (o : Option Attempt) → IsLawfulPast setting past → leg_end setting leg past ≡ Some end → flight setting leg past ≡ o → flight setting leg past ≡ None
  ended_open leg past end None lawful ended e = e
  ended_open leg past end (Some a) lawful ended e = none_is_some end (sym (flight_open leg past a lawful e) ∙ ended)

  -- a leg that has ended isn't in flight
  pub ended_lands : (leg : Leg) (past : Past) (end : LegEnd) → IsLawfulPast setting past → leg_end setting leg past ≡ Some end → flight setting leg past ≡ None
  ended_lands leg past end lawful ended = ended_open leg past end (flight setting leg past) lawful ended refl

  in_list : (P : Leg → Type 0) (legs : List Leg) (leg : Leg) → AllByRecursion P legs → has_leg leg legs ≡ true → P leg
  in_list P [] leg each has = absurd (true≢false (sym has))
  in_list P (l ∷ legs) leg each has = ⊎_elim
      (λ here. subst P (sym (is_leg-says leg l.request l.number here)) each.0)
      (λ other. in_list P legs leg each.1 (subst (λ b. (b || has_leg leg legs) ≡ true) other has))
      (cases_Bool (is_leg leg l.request l.number))

  -- a leg that waits isn't in flight and hasn't ended, and its request is open
  pub waits_says : (past : Past) (leg : Leg) → has_leg leg (waiting setting past) ≡ true → Waits setting past leg
  waits_says past leg has = in_list (Waits setting past) (waiting setting past) leg (each_waits setting past) has

  -- an identifier that isn't used is no attempt's in flight
  unused_apart : (leg : Leg) (past : Past) (a : Attempt) (id : ℕ) → flight setting leg past ≡ Some a → IsFalse (is_used setting id past) → a.id ≡ id → ⊥
  unused_apart leg past a id flies unused same =
      true≢false (sym (eq-eqb a.id id same) ∙ in_flight-none setting (λ c. c.id == id) leg past a flies unused)

  -- legs in flight with one identifier are one leg
  pub one_leg : (past : Past) → IsLawfulPast setting past → (leg other : Leg) (a b : Attempt) → flight setting leg past ≡ Some a → flight setting other past ≡ Some b → a.id ≡ b.id → leg ≡ other
  one_leg [] lawful leg other a b flies also same = none_is_some a flies
  one_leg (what ∷ past) lawful leg other a b flies also same = ⊎_elim
      (λ h. ⊎_elim
      (λ k. let one : a ≡ b = cc in h.1 ∙ ap (λ x. x.leg) one ∙ sym k.1)
      (λ k. absurd (unused_apart other past b a.id k.0 (start_allowed past what a lawful.0 h.0).own_id (sym same)))
      (flight-cases setting other what past b also))
      (λ h. ⊎_elim
      (λ k. absurd (unused_apart leg past a b.id h.0 (start_allowed past what b lawful.0 k.0).own_id same))
      (λ k. one_leg past lawful.1 leg other a b h.0 k.0 same)
      (flight-cases setting other what past b also))
      (flight-cases setting leg what past a flies)

  -- an attempt in flight is so in the words of positions
  pub flies_by_position : (past : Past) (leg : Leg) (a : Attempt) → flight setting leg past ≡ Some a → IsInFlight setting a past
  flies_by_position [] leg a e = none_is_some a e
  flies_by_position (what ∷ past) leg a e = ⊎_elim
      (λ h. record { newer = []; start = what; older = past; parts = refl; begun = h.0; spared = tt })
      (λ h. let r = flies_by_position past leg a h.0 in
      record { newer = what ∷ r.newer; start = r.start; older = r.older; parts = ap (λ p. what ∷ p) r.parts; begun = r.begun; spared = (rw (← r.parts) h.1, r.spared) })
      (flight-cases setting leg what past a e)

  kept_flying : (leg : Leg) (begun : Option Attempt) (a : Attempt) → IfSome begun (λ c. IsFalse (is_of_leg leg c)) → begun_or leg begun (Some a) ≡ Some a
  kept_flying leg None a others = refl
  kept_flying leg (Some c) a others = rw others refl

  not_again : (past : Past) (what : What) (a : Attempt) (begun : Option Attempt) → IsAllowed setting past what → flight setting a.leg past ≡ Some a → begun_by what ≡ begun
      → IfSome begun (λ c. IsFalse (is_of_leg a.leg c))
  not_again past what a None allowed flies is = tt
  not_again past what a (Some c) allowed flies is = false_from_ne_true (is_of_leg a.leg c)
      (λ own. none_is_some a (sym (start_idle past what c allowed is).0 ∙ subst (λ l. flight setting l past ≡ Some a) (is_leg-says a.leg c.leg.request c.leg.number own) flies))

  stays_by_position : (a : Attempt) (newer : List What) (start : What) (older : Past) → IsLawfulPast setting (newer ++ start ∷ older) → begun_by start ≡ Some a
      → NoneCloses setting a newer (start ∷ older) → flight setting a.leg (newer ++ start ∷ older) ≡ Some a
  stays_by_position a [] start older lawful begun spared = rw (begun, is_leg-itself a.leg) refl
  stays_by_position a (what ∷ newer) start older lawful begun spared =
      let flies : flight setting a.leg (newer ++ start ∷ older) ≡ Some a = stays_by_position a newer start older lawful.1 begun spared.1 in
      let others = not_again (newer ++ start ∷ older) what a (begun_by what) lawful.0 flies refl in
      rw (flies, spared.0) (kept_flying a.leg (begun_by what) a others)

  -- what is in flight in the words of positions is so
  pub position_flies : (past : Past) (a : Attempt) → IsLawfulPast setting past → IsInFlight setting a past → flight setting a.leg past ≡ Some a
  position_flies past a lawful r =
      rw r.parts (stays_by_position a r.newer r.start r.older (subst (IsLawfulPast setting) r.parts lawful) r.begun r.spared)

-- the same of journals
pub position_of_flight : (setting : Setting) (journal : List Entry) (leg : Leg) (a : Attempt) → flight setting leg (past_of journal) ≡ Some a → (leg ≡ a.leg) × IsInFlight setting a (past_of journal)
position_of_flight setting journal leg a flies = (flight-leg setting leg (past_of journal) a flies, flies_by_position setting (past_of journal) leg a flies)

pub flight_of_position : (setting : Setting) (journal : List Entry) (a : Attempt) → IsLawful setting journal → IsInFlight setting a (past_of journal) → flight setting a.leg (past_of journal) ≡ Some a
flight_of_position setting journal a lawful flies = position_flies setting (past_of journal) a lawful.allowed flies

pub ended_isnt_in_flight : (setting : Setting) (journal : List Entry) (leg : Leg) (end : LegEnd) → IsLawful setting journal → leg_end setting leg (past_of journal) ≡ Some end → flight setting leg (past_of journal) ≡ None
ended_isnt_in_flight setting journal leg end lawful ended = ended_lands setting leg (past_of journal) end lawful.allowed ended

pub waiting_is_idle : (setting : Setting) (journal : List Entry) (leg : Leg) → IsTrue (has_leg leg (waiting setting (past_of journal))) → IsTrue (is_idle setting (past_of journal) leg) × IsTrue (is_open setting (past_of journal) leg.request)
waiting_is_idle setting journal leg waits = waits_says setting (past_of journal) leg waits

pub identifiers_differ : (setting : Setting) (journal : List Entry) (leg other : Leg) (a b : Attempt) → IsLawful setting journal → flight setting leg (past_of journal) ≡ Some a → flight setting other (past_of journal) ≡ Some b → a.id ≡ b.id → leg ≡ other
identifiers_differ setting journal leg other a b lawful flies also same = one_leg setting (past_of journal) lawful.allowed leg other a b flies also same
