-- A leg in flight is one of the candidate at which its request stands, and the request is pending; so is one that waits.
use Rattle.std.proofs.Common.{◌≡◌, ◌∙◌, ℕ, true, [], ◌∷◌, Option, Some, None, refl, ap, sym, subst, map, ⊎_elim, true≢false}
use Rattle.std.proofs.lemmas.Bool.{and_from}
use Rattle.std.specs.List.{list_any}
use Rattle.std.specs.Prelude.{IsFalse, IsTrue, is_none, option_map, unwrap_or}
use Rattle.chan_types.specs.declared.journal.What.{What}
use Rattle.chan_types.specs.declared.journal.What.TheVariants.{Accept, Arrive, Cancel, Destroy, Expire, Fault, Servers, Start, Take}
use Rattle.chan_types.specs.declared.spec.Spec.{Spec}
use Rattle.channel_model.proofs.Theorems.{accept-pending, asking_no_answer, flight-cases, flight_open, in_flight-none, next_unasked, pending-behind, spec_of-later, start_allowed}
use Rattle.channel_model.specs.AtOnce.{at_once}
use Rattle.channel_model.specs.Completion.{completed_by, current_legs, is_idle, legs_at, occurrences, pending, requests, waiting, waiting_of}
use Rattle.channel_model.specs.Flight.{Attempt, begun_by, closes, flight, in_flight}
use Rattle.channel_model.specs.Journal.{Past, accepted_by, spec_of}
use Rattle.channel_model.specs.Lawful.{IsLawfulPast}
use Rattle.channel_model.specs.LegEnd.{leg_end}
use Rattle.channel_model.specs.Legs.{Leg, leg_of, legs_of}
use Rattle.channel_model.specs.Questions.{candidates_of}
use Rattle.channel_model.specs.Search.{Stand, asking, over, search_answer, stand_at, stand_of}
use Rattle.channel_model.specs.Setting.{Setting}
use Rattle.channel_progress.proofs.AskingLemmas.{open_asks, pending_says}
use Rattle.channel_progress.proofs.CandidateLemmas.{candidates_some}
use Rattle.channel_progress.proofs.StandLemmas.{asks_says, asks_stays}
use Rattle.channel_progress.proofs.LeftLemmas.{legs_from}
use Rattle.channel_progress.proofs.ListLemmas.{Has, filter-has, first-has, flat_map-has, has-filter, has-flat_map, has-left, has-map, map-has}

module _ (setting : Setting) where
  -- the leg is one of those of a pending request that are asked now
  pub record IsCurrent (past : Past) (leg : Leg) : Type 0 where
    pub pends : Has leg.request (pending setting past)
    pub spec : Spec
    pub asks : spec_of leg.request past ≡ Some spec
    pub at : ℕ
    pub stands : stand_of setting leg.request spec past ≡ asking at
    pub among : Has leg.number (legs_of spec at)

  -- a leg of the candidate at which a request stands
  at_stand : (past : Past) (request : ℕ) (leg : Leg) (spec : Spec) (stand : Stand) → Has request (pending setting past) → spec_of request past ≡ Some spec → stand_of setting request spec past ≡ stand
      → Has leg (legs_at setting request spec stand) → IsCurrent past leg
  at_stand past request leg spec (asking c) pends asks stands h =
      let from = map-has (leg_of request) leg (legs_of spec c) h in
      subst (IsCurrent past) (sym from.2) (record { pends = pends; spec = spec; asks = asks; at = c; stands = stands; among = from.1 })
  at_stand past request leg spec (over answer) pends asks stands h = absurd h

  -- a leg that waits is
  pub waits_current : (past : Past) (leg : Leg) → Has leg (waiting setting past) → IsCurrent past leg
  waits_current past leg h =
      let from = has-flat_map (waiting_of setting past) leg (pending setting past) h in
      let own = has-filter leg (is_idle setting past) (current_legs setting past from.0) from.2 in
      by_spec from.0 from.1 (spec_of from.0 past) refl own.0
    where
      by_spec : (request : ℕ) → Has request (pending setting past) → (o : Option Spec) → spec_of request past ≡ o
          → Has leg (unwrap_or (option_map (λ spec. legs_at setting request spec (stand_of setting request spec past)) o) []) → IsCurrent past leg
      by_spec request pends None is h = absurd h
      by_spec request pends (Some spec) is h = at_stand past request leg spec (stand_of setting request spec past) pends is refl h

  -- a request that no entry completes stays pending
  still_pends : (what : What) (past : Past) (request : ℕ) → accepted_by what ≡ None → completed_by setting request what past ≡ None → Has request (pending setting past) → Has request (pending setting (what ∷ past))
  still_pends what past request accepts completes pends =
      rw (pending-behind setting what past accepts)
      (filter-has request (λ number. is_none (completed_by setting number what past)) (pending setting past) pends (ap is_none completes))

  module _ (past : Past) (leg : Leg) (was : IsCurrent past leg) where
    -- while the leg hasn't ended, its request stands at that candidate
    still_stands : (what : What) → leg_end setting leg (what ∷ past) ≡ None → stand_of setting leg.request was.spec (what ∷ past) ≡ asking was.at
    still_stands what open' = asks_stays setting what past leg.request was.spec was.at leg.number was.among open' 0 (candidates_of setting was.spec) was.stands

    -- and is asked now, if its request is pending
    still_current : (what : What) → leg_end setting leg (what ∷ past) ≡ None → Has leg.request (pending setting (what ∷ past)) → IsCurrent (what ∷ past) leg
    still_current what open' pends = record { pends = pends; spec = was.spec; asks = spec_of-later leg.request what past was.spec was.asks; at = was.at; stands = still_stands what open'; among = was.among }

    -- and its request has no answer
    no_answer : (what : What) → leg_end setting leg (what ∷ past) ≡ None → search_answer setting leg.request (what ∷ past) ≡ None
    no_answer what open' = asking_no_answer setting leg.request (what ∷ past) was.spec was.at (spec_of-later leg.request what past was.spec was.asks) (still_stands what open')

    -- and it stays so while its attempt is in flight
    stays_current : (what : What) (a : Attempt) → IsLawfulPast setting (what ∷ past) → leg_end setting leg (what ∷ past) ≡ None → IsFalse (closes setting a what past) → IsCurrent (what ∷ past) leg
    stays_current (Accept number spec script) a lawful open' spared =
        let new : occurrences number (requests past) ≡ 0 = ap (λ n. occurrences n (requests past)) lawful.0.1 ∙ next_unasked setting past lawful.1 in
        still_current (Accept number spec script) open' (rw (accept-pending setting past number spec script new) (has-left leg.request (pending setting past) _ was.pends))
    stays_current Cancel a lawful open' spared = absurd (true≢false spared)
    stays_current Destroy a lawful open' spared = absurd (true≢false spared)
    stays_current (Take number) a lawful open' spared = still_current (Take number) open' (still_pends (Take number) past leg.request refl refl was.pends)
    stays_current (Start number k server link id mix moment) a lawful open' spared =
        still_current (Start number k server link id mix moment) open' (still_pends (Start number k server link id mix moment) past leg.request refl refl was.pends)
    stays_current (Arrive server link bytes) a lawful open' spared =
        still_current (Arrive server link bytes) open' (still_pends (Arrive server link bytes) past leg.request refl (no_answer (Arrive server link bytes) open') was.pends)
    stays_current (Expire number k moment) a lawful open' spared =
        still_current (Expire number k moment) open' (still_pends (Expire number k moment) past leg.request refl (no_answer (Expire number k moment) open') was.pends)
    stays_current (Fault server link moment) a lawful open' spared =
        still_current (Fault server link moment) open' (still_pends (Fault server link moment) past leg.request refl (no_answer (Fault server link moment) open') was.pends)
    stays_current (Servers list) a lawful open' spared = still_current (Servers list) open' (still_pends (Servers list) past leg.request refl refl was.pends)

  -- a Start leaves its leg current
  begins_current : (past : Past) (what : What) (a : Attempt) → IsLawfulPast setting (what ∷ past) → begun_by what ≡ Some a → leg_end setting a.leg (what ∷ past) ≡ None → IsCurrent (what ∷ past) a.leg
  begins_current past what a lawful begun open' =
      let was = waits_current past a.leg (first-has a.leg (waiting setting past) (start_allowed setting past what a lawful.0 begun).waits) in
      stays_current past a.leg was what a lawful open' (spared what begun)
    where
      spared : (w : What) → begun_by w ≡ Some a → IsFalse (closes setting a w past)
      spared (Accept number spec script) e = refl
      spared Cancel e = absurd cc
      spared Destroy e = absurd cc
      spared (Take number) e = refl
      spared (Start number k server link id mix moment) e = refl
      spared (Arrive server link bytes) e = absurd cc
      spared (Expire number k moment) e = absurd cc
      spared (Fault server link moment) e = absurd cc
      spared (Servers list) e = absurd cc

  -- a leg in flight is current
  pub flies_current : (past : Past) (leg : Leg) (a : Attempt) → IsLawfulPast setting past → flight setting leg past ≡ Some a → IsCurrent past leg
  flies_current [] leg a lawful flies = absurd cc
  flies_current (what ∷ past) leg a lawful flies = ⊎_elim
      (λ h. subst (IsCurrent (what ∷ past)) (sym h.1)
      (begins_current past what a lawful h.0 (flight_open setting a.leg (what ∷ past) a lawful (subst (λ l. flight setting l (what ∷ past) ≡ Some a) h.1 flies))))
      (λ h. stays_current past leg (flies_current past leg a lawful.1 h.0) what a lawful (flight_open setting leg (what ∷ past) a lawful flies) h.1)
      (flight-cases setting leg what past a flies)

  -- a current leg is one of all that its request has
  pub current_among : (past : Past) (leg : Leg) (c : IsCurrent past leg) → IsLawfulPast setting past → Has leg (legs_from leg.request c.spec 0 (candidates_of setting c.spec))
  current_among past leg c lawful =
      let says = pending_says setting past leg.request c.pends in
      let same : says.0 ≡ c.spec = one_spec says.0 c.spec (sym says.1 ∙ c.asks) in
      let asking_it = open_asks setting leg.request past says.0 lawful says.1 says.2 in
      let some = candidates_some setting leg.request c.spec (subst (λ s. at_once setting leg.request s ≡ None) same asking_it.not_at_once) in
      let stands = subst (λ names. stand_at setting leg.request c.spec past 0 names ≡ asking c.at) some.2 c.stands in
      let among = (asks_says setting leg.request past c.spec c.at 0 some.0 some.1 stands).among leg.number c.among in
      subst (λ names. Has leg (legs_from leg.request c.spec 0 names)) (sym some.2) among
    where
      one_spec : (s t : Spec) → ◌≡◌ {A = Option Spec} (Some s) (Some t) → s ≡ t
      one_spec s t e = cc

  -- a pending request has a leg that hasn't ended, among all its legs: in flight, or waiting
  pub record HasLeg (past : Past) (request : ℕ) : Type 0 where
    pub spec : Spec
    pub asks : spec_of request past ≡ Some spec
    pub leg : Leg
    pub among : Has leg (legs_from request spec 0 (candidates_of setting spec))
    pub unended : leg_end setting leg past ≡ None
    pub busy : IsTrue (is_none (flight setting leg past)) → Has leg (waiting setting past)

  -- each pending request has one
  pub pending_leg : (past : Past) (request : ℕ) → IsLawfulPast setting past → Has request (pending setting past) → HasLeg past request
  pending_leg past request lawful pends =
      let says = pending_says setting past request pends in
      let asking_it = open_asks setting request past says.0 lawful says.1 says.2 in
      let some = candidates_some setting request says.0 asking_it.not_at_once in
      let stands = subst (λ names. stand_at setting request says.0 past 0 names ≡ asking asking_it.at) some.2 asking_it.stands in
      let a = asks_says setting request past says.0 asking_it.at 0 some.0 some.1 stands in
      let k = a.unended.0 in
      let leg : Leg = leg_of request k in
      let current : current_legs setting past request ≡ map (leg_of request) (legs_of says.0 asking_it.at) =
      ap (λ o. unwrap_or (option_map (λ s. legs_at setting request s (stand_of setting request s past)) o) []) says.1 ∙ ap (legs_at setting request says.0) asking_it.stands in
      let own : Has leg (current_legs setting past request) = subst (Has leg) (sym current) (has-map (leg_of request) k (legs_of says.0 asking_it.at) a.unended.1) in
      record {
        spec = says.0;
        asks = says.1;
        leg = leg;
        among = subst (λ names. Has leg (legs_from request says.0 0 names)) (sym some.2) (a.among k a.unended.1);
        unended = a.unended.2;
        busy = λ idle. flat_map-has (waiting_of setting past) request leg (pending setting past) pends
            (filter-has leg (is_idle setting past) (current_legs setting past request) own (and_from (is_none (flight setting leg past)) (is_none (leg_end setting leg past)) idle (ap is_none a.unended.2)));
      }

  -- so that where a request is pending and no leg waits, an attempt is in flight
  pub some_flies : (past : Past) (request : ℕ) → IsLawfulPast setting past → Has request (pending setting past) → waiting setting past ≡ [] → in_flight setting past ≡ [] → ⊥
  some_flies past request lawful pends none idle =
      let h = pending_leg past request lawful pends in
      by_flight h.leg (flight setting h.leg past) refl h.busy
    where
      by_flight : (leg : Leg) (o : Option Attempt) → flight setting leg past ≡ o → (IsTrue (is_none (flight setting leg past)) → Has leg (waiting setting past)) → ⊥
      by_flight leg None is busy = subst (Has leg) none (busy (ap is_none is))
      by_flight leg (Some a) is busy = true≢false (in_flight-none setting (λ b. true) leg past a is (ap (list_any (λ (b : Attempt). true)) idle))
