-- How a leg follows the entry that closes its attempt.
use Rattle.channel_table.proofs.Base.{◌≡◌, ◌∙◌, ℕ, ◌+◌, ◌<◌, ◌≤◌, Bool, true, false, List, ◌∷◌, Option, Some, None, refl, ap, ap₂, sym, cond, arith, leb-false, then_some, nat_le, not, option_map, ◌&&◌, ◌||◌, What, Status, begun_by, closes, flight, Past, ending_status, leg_end, LegFacts, facts_closed, Leg, bytes_of, closings, outcome_of, spent, attempts, Setting, Judged, Failed, Final, NextPlain, NextTcp, flying_in, leg_behind, phase_with, spent_with, status_in, Flying, Phase, LegStands, attempt_of, facts_of, flown_by}
use Rattle.channel_model.proofs.Theorems.{closed-end, closed-facts}
use Rattle.channel_model.specs.Past.{is_failed, is_next_plain, is_next_tcp}
use Rattle.query_machine.specs.Legs.{forced_with}
use Rattle.query_machine.specs.declared.leg.Leg as machine
use Rattle.query_machine.specs.declared.leg.Phase.TheVariants as phases

or_comm : (a b : Bool) → (a || b) ≡ (b || a)
or_comm true true = refl
or_comm true false = refl
or_comm false true = refl
or_comm false false = refl

and_comm : (a b : Bool) → (a && b) ≡ (b && a)
and_comm true true = refl
and_comm true false = refl
and_comm false true = refl
and_comm false false = refl

-- the status with which a leg has ended that waits or has ended so
status_of_phase : (o : Option Status) → status_in (phase_with o) ≡ o
status_of_phase None = refl
status_of_phase (Some status) = refl

-- such a leg isn't in flight
pub phase_lands : (o : Option Status) → flying_in (phase_with o) ≡ None
phase_lands None = refl
phase_lands (Some status) = refl

-- the count of the spent attempts doesn't reach its greatest
spent_same : (judged : Judged) (n : ℕ) → n < 80 → spent_with judged n ≡ cond (is_failed (Some judged)) 1 0 + n
spent_same NextTcp n few = omega (arith, few)
spent_same NextPlain n few = omega (arith, few)
spent_same (Failed status) n few = omega (arith, few)
spent_same (Final status) n few = omega (arith, few)

-- a leg that goes on has spent few attempts
still_few : (judged : Judged) (n m most : ℕ) → m ≡ cond (is_failed (Some judged)) 1 0 + n → n < 80 → most ≤ 80 → ending_status (Some judged) m most ≡ None → m < 80
still_few NextTcp n m most is few may on = omega (arith, is, few)
still_few NextPlain n m most is few may on = omega (arith, is, few)
still_few (Failed status) n m most is few may on = by_test (nat_le most m) refl on
  where
    by_test : (b : Bool) → nat_le most m ≡ b → ◌≡◌ {A = Option Status} (then_some b status) None → m < 80
    by_test true le on = absurd cc
    by_test false le on = omega (arith, leb-false most m le, may)
still_few (Final status) n m most is few may on = absurd cc

forced_same : (judged : Judged) (flying : Flying) (o : Option Flying) → o ≡ Some flying → (cond (is_next_tcp (Some judged) || is_next_plain (Some judged)) (Some flying.server) None) ≡ forced_with judged o
forced_same judged flying o is = by_test (is_next_tcp (Some judged) || is_next_plain (Some judged)) ∙ ap (forced_with judged) (sym is)
  where
    by_test : (b : Bool) → ◌≡◌ {A = Option ℕ} (cond b (Some flying.server) None) (then_some b flying.server)
    by_test true = refl
    by_test false = refl

-- the state behind the end of the attempt says what the past says then
facts_behind : (leg : Leg) (state : machine.Leg) (flying : Flying) (judged : Judged) (most : ℕ) → flying_in state.phase ≡ Some flying → state.spent < 80
    → facts_closed flying.server (Some judged) (facts_of leg state) ≡ facts_of leg (leg_behind judged most state)
facts_behind leg state flying judged most is few =
    let lands = sym (phase_lands (ending_status (Some judged) (spent_with judged state.spent) most)) in
    let spends = sym (spent_same judged state.spent few) in
    let over = or_comm (is_next_tcp (Some judged)) state.over_tcp in
    let opt = and_comm (not (is_next_plain (Some judged))) state.has_opt in
    let forced = forced_same judged flying (flying_in state.phase) is in
    λ k. record {
      flies = option_map (attempt_of leg) (lands k);
      due = option_map (λ (f : Flying). f.due) (lands k);
      spends = spends k;
      over_tcp = over k;
      with_opt = opt k;
      forced = forced k;
    }

-- a leg in flight hasn't ended
pub flying_open : (phase : Phase) (flying : Flying) → flying_in phase ≡ Some flying → status_in phase ≡ None
flying_open phases.Waiting flying is = refl
flying_open (phases.InFlight other) flying is = refl
flying_open (phases.Ended status) flying is = absurd cc

module _ (setting : Setting) (what : What) (past : Past) (leg : Leg) (state : machine.Leg) (before : List ℕ) (flying : Flying) (judged : Judged) (most : ℕ) (stands : LegStands setting past leg state before) (is : flying_in state.phase ≡ Some flying)
    (closed : closes setting (attempt_of leg flying) what past ≡ true) (begins : begun_by what ≡ None)
    (means : outcome_of setting (attempt_of leg flying) what past (closings setting leg past) ≡ Some judged) (may : attempts setting past ≡ most) (few : most ≤ 80) where
  unended : status_in state.phase ≡ None
  unended = flying_open state.phase flying is

  open_ : leg_end setting leg past ≡ None
  open_ = stands.ends ∙ ap (option_map (λ (s : Status). record { status = s; reply = before })) unended

  flies : flight setting leg past ≡ Some (attempt_of leg flying)
  flies = ap (λ (f : LegFacts). f.flies) stands.facts ∙ ap (flown_by leg) is

  spends : spent (closings setting leg past) ≡ state.spent
  spends = ap (λ (f : LegFacts). f.spends) stands.facts

  status : ending_status (outcome_of setting (attempt_of leg flying) what past (closings setting leg past)) (cond (is_failed (outcome_of setting (attempt_of leg flying) what past (closings setting leg past))) 1 0 + spent (closings setting leg past)) (attempts setting past)
      ≡ status_in (leg_behind judged most state).phase
  status =
      ap₂ (λ o n. ending_status o (cond (is_failed o) 1 0 + n) (attempts setting past)) means spends
      ∙ ap₂ (λ n m. ending_status (Some judged) n m) (sym (spent_same judged state.spent (stands.few unended))) may
      ∙ sym (status_of_phase (ending_status (Some judged) (spent_with judged state.spent) most))

  -- the leg stands as its state says, which has ended where the leg has
  pub leg_closed : (reply : List ℕ) → bytes_of what ≡ reply → LegStands setting (what ∷ past) leg (leg_behind judged most state) reply
  leg_closed reply brings = record {
    facts = closed-facts setting what past leg (attempt_of leg flying) flies closed begins ∙ ap₂ (λ o f. facts_closed flying.server o f) means stands.facts ∙ facts_behind leg state flying judged most is (stands.few unended);
    ends =
        closed-end setting what past leg (attempt_of leg flying) flies closed open_
        ∙ ap₂ (λ o bytes. option_map (λ (s : Status). record { status = s; reply = bytes }) o) status brings;
    few = λ on. still_few judged state.spent (spent_with judged state.spent) most (spent_same judged state.spent (stands.few unended)) (stands.few unended) few (sym (status_of_phase (ending_status (Some judged) (spent_with judged state.spent) most)) ∙ on);
  }
