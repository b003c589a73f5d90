-- What a run looks at behind its turns: it is the same behind a Fault that closes no attempt, and a Start puts one more in flight.
use Rattle.std.proofs.Common.{◌≡◌, ◌∙◌, ℕ, ◌+◌, ◌≤◌, suc, true, false, [], ◌∷◌, ◌++◌, Option, Some, None, refl, ap, ap₂, arith, length}
use Rattle.std.proofs.lemmas.List.{append-nil}
use Rattle.std.specs.List.{list_any}
use Rattle.std.specs.Prelude.{IsFalse, filter, filter_map, find, flat_map, is_none, is_some, not, option_map, unwrap_or, ◌&&◌, ◌==◌}
use Rattle.chan_types.specs.declared.journal.What.TheVariants.{Fault, Start}
use Rattle.chan_types.specs.declared.spec.Spec.{Spec}
use Rattle.channel_model.proofs.Theorems.{Spares, accepted-none, as_many-length, asking_no_answer, fault_spares, filter-same, filter_all, filter_none, if_that, in_flight-begun, in_flight-closed, in_flight-none, pending-behind, ready-behind, spared-end, spared-flight, spec_of-later, stand_of-same, start-ready, start_idle}
use Rattle.channel_model.specs.Completion.{completed_by, current_legs, is_idle, legs_at, pending, ready, waiting, waiting_of}
use Rattle.channel_model.specs.Flight.{Attempt, begun_by, closes, flight, in_flight}
use Rattle.channel_model.specs.Journal.{Accepted, Past, spec_of}
use Rattle.channel_model.specs.Lawful.{IsLawfulPast}
use Rattle.channel_model.specs.LegEnd.{leg_end}
use Rattle.channel_model.specs.Legs.{Leg, leg_of}
use Rattle.channel_model.specs.Search.{stand_of}
use Rattle.channel_model.specs.Setting.{Setting}
use Rattle.channel_progress.proofs.AskingLemmas.{open_asks, pending_says}
use Rattle.channel_progress.proofs.ListLemmas.{Has, each-from, flat_map-same, none-has}

-- how many attempts were begun
abbrev pub begun_in : Past → ℕ
begun_in past = length (filter_map begun_by past)

module _ (setting : Setting) where
  -- what is ready, what waits and what is in flight is the same
  pub record SameView (old new : Past) : Type 0 where
    pub ready_same : ready setting new ≡ ready setting old
    pub waiting_same : waiting setting new ≡ waiting setting old
    pub in_flight_same : in_flight setting new ≡ in_flight setting old

  -- what is ready is the same, and what was begun is in flight
  pub record BeginsAll (old new : Past) : Type 0 where
    pub ready_same : ready setting new ≡ ready setting old
    pub flies : length (in_flight setting old) + begun_in new ≤ length (in_flight setting new) + begun_in old

  -- nothing happened
  pub same_refl : (past : Past) → SameView past past
  same_refl past = record { ready_same = refl; waiting_same = refl; in_flight_same = refl }

  -- one stretch behind another
  pub same_trans : (a b c : Past) → SameView a b → SameView b c → SameView a c
  same_trans a b c x y = record { ready_same = y.ready_same ∙ x.ready_same; waiting_same = y.waiting_same ∙ x.waiting_same; in_flight_same = y.in_flight_same ∙ x.in_flight_same }

  -- nothing happened
  pub begins_refl : (past : Past) → BeginsAll past past
  begins_refl past = record { ready_same = refl; flies = omega arith }

  -- one stretch behind another
  pub begins_trans : (a b c : Past) → BeginsAll a b → BeginsAll b c → BeginsAll a c
  begins_trans a b c x y = record { ready_same = y.ready_same ∙ x.ready_same; flies = omega (arith, x.flies, y.flies) }

  module _ (server link moment : ℕ) (past : Past) (lawful : IsLawfulPast setting past) (none : list_any (λ a. closes setting a (Fault server link moment) past) (in_flight setting past) ≡ false) where
    -- such a Fault spares each leg
    spares : (leg : Leg) → Spares setting (Fault server link moment) past leg
    spares leg =
        fault_spares setting past leg server link moment
        (if_that (λ a. IsFalse (closes setting a (Fault server link moment) past)) (flight setting leg past)
        (λ a flies. in_flight-none setting (λ b. closes setting b (Fault server link moment) past) leg past a flies none))

    -- so that each has ended as before
    end_same : (leg : Leg) → leg_end setting leg (Fault server link moment ∷ past) ≡ leg_end setting leg past
    end_same leg = spared-end setting (Fault server link moment) past leg (spares leg)

    -- each search stands where it stood
    stand_same : (request : ℕ) (spec : Spec) → stand_of setting request spec (Fault server link moment ∷ past) ≡ stand_of setting request spec past
    stand_same request spec = stand_of-same setting request (Fault server link moment ∷ past) past (λ k. end_same (leg_of request k)) spec

    -- no pending request completes
    completes_none : (request : ℕ) → Has request (pending setting past) → completed_by setting request (Fault server link moment) past ≡ None
    completes_none request pends =
        let says = pending_says setting past request pends in
        let asks = open_asks setting request past says.0 lawful says.1 says.2 in
        asking_no_answer setting request (Fault server link moment ∷ past) says.0 asks.at (spec_of-later request (Fault server link moment) past says.0 says.1) (stand_same request says.0 ∙ asks.stands)

    -- the same are pending
    pending_same : pending setting (Fault server link moment ∷ past) ≡ pending setting past
    pending_same =
        pending-behind setting (Fault server link moment) past refl
        ∙ filter_all (λ number. is_none (completed_by setting number (Fault server link moment) past)) (pending setting past)
        (each-from (λ number. is_none (completed_by setting number (Fault server link moment) past) ≡ true) (pending setting past) (λ number h. ap is_none (completes_none number h)))

    -- the same are ready
    is_same_ready : ready setting (Fault server link moment ∷ past) ≡ ready setting past
    is_same_ready =
        ready-behind setting (Fault server link moment) past refl refl
        ∙ ap (λ numbers. ready setting past ++ numbers)
        (filter_none (λ number. is_some (completed_by setting number (Fault server link moment) past)) (pending setting past)
        (each-from (λ number. is_some (completed_by setting number (Fault server link moment) past) ≡ false) (pending setting past) (λ number h. ap is_some (completes_none number h))))
        ∙ append-nil (ready setting past)

    -- the same legs are asked
    legs_same : (request : ℕ) → current_legs setting (Fault server link moment ∷ past) request ≡ current_legs setting past request
    legs_same request =
        ap (λ o. unwrap_or (option_map (λ spec. legs_at setting request spec (stand_of setting request spec (Fault server link moment ∷ past))) o) [])
        (ap (λ l. option_map (λ (r : Accepted). r.spec) (find (λ (r : Accepted). r.number == request) l)) (accepted-none (Fault server link moment) past refl))
        ∙ by_spec (spec_of request past)
      where
        by_spec : (o : Option Spec) → unwrap_or (option_map (λ spec. legs_at setting request spec (stand_of setting request spec (Fault server link moment ∷ past))) o) []
            ≡ unwrap_or (option_map (λ spec. legs_at setting request spec (stand_of setting request spec past)) o) []
        by_spec None = refl
        by_spec (Some spec) = ap (legs_at setting request spec) (stand_same request spec)

    -- and the same wait
    waits_same : (request : ℕ) → waiting_of setting (Fault server link moment ∷ past) request ≡ waiting_of setting past request
    waits_same request =
        filter-same (is_idle setting (Fault server link moment ∷ past)) (is_idle setting past) (current_legs setting (Fault server link moment ∷ past) request)
        (λ leg. ap₂ (λ f e. is_none f && is_none e) (spared-flight setting (Fault server link moment) past leg (spares leg)) (end_same leg))
        ∙ ap (filter (is_idle setting past)) (legs_same request)

    -- behind a Fault that closes no attempt all is the same
    pub fault_same : SameView past (Fault server link moment ∷ past)
    fault_same = record {
      ready_same = is_same_ready;
      waiting_same = ap (flat_map (waiting_of setting (Fault server link moment ∷ past))) pending_same
          ∙ flat_map-same (waiting_of setting (Fault server link moment ∷ past)) (waiting_of setting past) (pending setting past) waits_same;
      in_flight_same = in_flight-closed setting (Fault server link moment) past refl
          ∙ filter_all (λ a. not (closes setting a (Fault server link moment) past)) (in_flight setting past)
          (each-from (λ a. not (closes setting a (Fault server link moment) past) ≡ true) (in_flight setting past)
          (λ a h. ap not (none-has (λ b. closes setting b (Fault server link moment) past) a (in_flight setting past) none h)));
    }

    -- so that what was begun is in flight
    pub fault_begins : BeginsAll past (Fault server link moment ∷ past)
    fault_begins = let more : length (in_flight setting (Fault server link moment ∷ past)) ≡ length (in_flight setting past) = ap length fault_same.in_flight_same in record { ready_same = is_same_ready; flies = omega (arith, more) }

  -- behind a Start its attempt is in flight
  pub start_begins : (number leg server link id : ℕ) (mix : Option ℕ) (moment : ℕ) (past : Past) → IsLawfulPast setting (Start number leg server link id mix moment ∷ past) → BeginsAll past (Start number leg server link id mix moment ∷ past)
  start_begins number leg server link id mix moment past lawful =
      let a : Attempt = record { leg = leg_of number leg; server = server; link = link; id = id; mix = mix; moment = moment } in
      let idle = start_idle setting past (Start number leg server link id mix moment) a lawful.0 refl in
      let more : length (in_flight setting (Start number leg server link id mix moment ∷ past)) ≡ suc (length (in_flight setting past)) =
      as_many-length (in_flight setting (Start number leg server link id mix moment ∷ past)) (a ∷ in_flight setting past) (in_flight-begun setting (Start number leg server link id mix moment) past a refl idle.0 (λ b. refl)) in
      record { ready_same = start-ready setting past number leg server link id mix moment; flies = omega (arith, more) }
