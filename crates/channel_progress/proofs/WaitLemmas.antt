-- Behind a turn behind which nothing is ready and no attempt can start, a run waits until the first attempt is due.
use Rattle.std.proofs.Common.{◌≡◌, ◌∙◌, ℕ, ◌+◌, ◌-◌, ◌^◌, ◌≤◌, Bool, true, false, List, [], ◌∷◌, Option, Some, None, refl, ap, sym, subst, cond, map, arith, length, inl, inr, eqb-true, ne_eqb, true≢false}
use Rattle.std.proofs.Math.Nat.{le-min, min-le_right}
use Rattle.std.proofs.lemmas.Bool.{and_parts, le-ltb}
use Rattle.std.specs.Option.{option_map_or}
use Rattle.std.specs.Prelude.{is_some, min, nat_lt, not, ◌&&◌, ◌==◌, ◌||◌}
use Rattle.channel_model.specs.Choice.{deadline, deadline_from, deadline_or}
use Rattle.channel_model.specs.Completion.{pending, ready, waiting}
use Rattle.channel_model.specs.Course.{Rest, Round, Test, anywhere, goes_on, has_none_of, is_timely, rests_there, skips, soon, waits_there, wakes_at}
use Rattle.channel_model.specs.Flight.{Attempt, begun_by, in_flight, is_of_leg}
use Rattle.channel_model.specs.Journal.{Past}
use Rattle.channel_model.specs.Lawful.{Due, IsLawfulPast, due_of, first_due, least, least_due}
use Rattle.channel_model.specs.Legs.{Leg}
use Rattle.channel_model.specs.Setting.{Setting}
use Rattle.channel_model.specs.Turn.{most_entries}
use Rattle.channel_progress.proofs.EntryLemmas.{least-has}
use Rattle.channel_progress.proofs.FlyingLemmas.{some_flies}
use Rattle.channel_progress.proofs.ListLemmas.{Has, map-has}
use Rattle.channel_progress.proofs.TurnLemmas.{IsCalm}

module _ (setting : Setting) where
  -- a deadline fits into 64 bits
  deadline_small : (leg : Leg) (past : Past) → deadline setting leg past ≤ 2 ^ 64 - 1
  deadline_small leg [] = omega arith
  deadline_small leg (what ∷ past) = by_begun (begun_by what) (deadline_small leg past)
    where
      by_begun : (o : Option Attempt) → deadline setting leg past ≤ 2 ^ 64 - 1 → deadline_or setting leg past o (deadline setting leg past) ≤ 2 ^ 64 - 1
      by_begun None before = before
      by_begun (Some a) before = by_test (is_of_leg leg a)
        where
          by_test : (b : Bool) → cond b (deadline_from setting a past) (deadline setting leg past) ≤ 2 ^ 64 - 1
          by_test true = min-le_right _ (2 ^ 64 - 1)
          by_test false = before

  -- so does the moment of the first to be due
  pub due_small : (past : Past) (due : Due) → first_due setting past ≡ Some due → due.at ≤ 2 ^ 64 - 1
  due_small past due e =
      let from = map-has (due_of setting past) due (in_flight setting past) (least-has (map (due_of setting past) (in_flight setting past)) due e) in
      let is : due.at ≡ deadline setting from.0.leg past = ap (λ (d : Due). d.at) from.2 in
      omega (arith, is, deadline_small from.0.leg past)

  -- where an attempt is in flight, one is due first
  some_due : (past : Past) → (in_flight setting past ≡ [] → ⊥) → (due : Due) × (first_due setting past ≡ Some due)
  some_due past some = by_list (in_flight setting past) refl
    where
      by_list : (attempts : List Attempt) → in_flight setting past ≡ attempts → (due : Due) × (first_due setting past ≡ Some due)
      by_list [] is = absurd (some is)
      by_list (a ∷ more) is = (least_due (due_of setting past a) (map (due_of setting past) more), ap (λ l. least (map (due_of setting past) l)) is)

  -- where a request is pending and no attempt can start, one is in flight
  calm_flies : (past : Past) (request : ℕ) → IsLawfulPast setting past → Has request (pending setting past) → IsCalm setting past → in_flight setting past ≡ [] → ⊥
  calm_flies past request lawful pends (inl none) idle = some_flies setting past request lawful pends none idle
  calm_flies past request lawful pends (inr many) idle = let is : length (in_flight setting past) ≡ 0 = ap length idle in absurd (omega (arith, is, many))

  -- the test whether one can start says so
  calm_none : (past : Past) → IsCalm setting past → (not (length (waiting setting past) == 0) && nat_lt (length (in_flight setting past)) most_entries) ≡ false
  calm_none past (inl none) = ap (λ l. not (length l == 0) && nat_lt (length (in_flight setting past)) most_entries) none
  calm_none past (inr many) = ap (λ b. not (length (waiting setting past) == 0) && b) (le-ltb (length (in_flight setting past)) most_entries many) ∙ and_none (not (length (waiting setting past) == 0))
    where
      and_none : (b : Bool) → (b && false) ≡ false
      and_none true = refl
      and_none false = refl

  -- there is no reason to go on without a wait where a request is pending, none is ready, and no attempt can start
  no_skip : (past : Past) (request : ℕ) → Has request (pending setting past) → ready setting past ≡ [] → IsCalm setting past → skips setting past ≡ false
  no_skip past request pends none calm =
      ap (λ b. (b || not (length (ready setting past) == 0)) || (not (length (waiting setting past) == 0) && nat_lt (length (in_flight setting past)) most_entries)) (pending_some (pending setting past) pends)
      ∙ ap (λ l. not (length l == 0) || (not (length (waiting setting past) == 0) && nat_lt (length (in_flight setting past)) most_entries)) none
      ∙ calm_none past calm
    where
      pending_some : (numbers : List ℕ) → Has request numbers → (length numbers == 0) ≡ false
      pending_some [] h = absurd h
      pending_some (n ∷ numbers) h = ne_eqb (length (n ∷ numbers)) 0 (λ (e : length (n ∷ numbers) ≡ 0). omega (arith, e))

  -- the run waits until the first attempt is due
  pub record Waits (round : Round) : Type 0 where
    pub rest : Rest
    pub rests : round.rest ≡ Some rest
    pub due : Due
    pub first : first_due setting round.new.past ≡ Some due
    pub until : due.at ≤ rest.until

  module _ (round : Round) (request : ℕ) (lawful : IsLawfulPast setting round.new.past) (pends : Has request (pending setting round.new.past)) (none : ready setting round.new.past ≡ []) (calm : IsCalm setting round.new.past)
      (alone : round.between ≡ []) where
    module _ (seat : ℕ) where
      abbrev there : Option Rest → Test
      there rest = rests_there setting seat (2 ^ 64 - 1) round.reading rest (λ here later. not (length (pending setting here) == 0) && has_none_of seat later)

      -- so that there is a wait
      rested : goes_on setting seat (2 ^ 64 - 1) round ≡ true → is_some round.rest ≡ true
      rested goes =
          let here = subst (λ l. anywhere (λ past es. (length (ready setting past) == 0) && soon seat (there round.rest) past es) round.new.past l ≡ true) alone goes in
          by round.rest (and_parts (length (ready setting round.new.past) == 0) (there round.rest round.new.past []) here).1
        where
          by : (o : Option Rest) → there o round.new.past [] ≡ true → is_some o ≡ true
          by None h = absurd (true≢false (sym (and_parts (skips setting round.new.past) _ h).0 ∙ no_skip round.new.past request pends none calm))
          by (Some rest) h = refl

      -- up to the moment at which the first attempt is due
      pub waits : goes_on setting seat (2 ^ 64 - 1) round ≡ true → is_timely setting seat (2 ^ 64 - 1) round ≡ true → Waits round
      waits goes timely = by_rest round.rest refl (rested goes) timely
        where
          by_due : (rest : Rest) (due : Due) → first_due setting round.new.past ≡ Some due → rest.until ≡ wakes_at setting round.reading (2 ^ 64 - 1) round.new.past → due.at ≤ rest.until
          by_due rest due is until =
              let latest : ℕ = min (round.reading + (2 ^ 64 - 1)) (2 ^ 64 - 1) in
              let at : rest.until ≡ min due.at latest = until ∙ ap (λ o. option_map_or (λ (d : Due). min d.at latest) o latest) is in
              let small = due_small round.new.past due is in
              subst (λ n. due.at ≤ n) (sym at) (le-min (omega arith) (le-min (omega (arith, small)) small))

          by_rest : (o : Option Rest) → round.rest ≡ o → is_some o ≡ true →
              option_map_or (λ (rest : Rest). anywhere (waits_there setting seat (2 ^ 64 - 1) round.reading rest.until (λ here later. true)) round.new.past round.between) o true ≡ true → Waits round
          by_rest None is some timely = absurd (true≢false (sym some))
          by_rest (Some rest) is some timely =
              let due = some_due round.new.past (calm_flies round.new.past request lawful pends calm) in
              let here = subst (λ l. anywhere (waits_there setting seat (2 ^ 64 - 1) round.reading rest.until (λ now later. true)) round.new.past l ≡ true) alone timely in
              let moment = (and_parts (not (skips setting round.new.past)) _ here).1 in
              let at = (and_parts (rest.until == wakes_at setting round.reading (2 ^ 64 - 1) round.new.past) true moment).0 in
              record { rest = rest; rests = is; due = due.0; first = due.1; until = by_due rest due.0 due.1 (eqb-true rest.until (wakes_at setting round.reading (2 ^ 64 - 1) round.new.past) at) }
