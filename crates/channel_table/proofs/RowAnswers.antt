-- The answer of a row's current candidate, by how the legs of its lookups have ended.
use Rattle.channel_table.proofs.Base.{◌≡◌, ◌∙◌, ℕ, List, [], ◌∷◌, ◌++◌, Option, Some, None, refl, ap, ap₂, sym, map, AllByRecursion, option_and_then, flat_map, option_map, option_to_list, Answer, Spec, Address, Query, Reverse, Search, Status, Name, Family, Options, Past, LegEnd, leg_end, leg_of, legs_of, candidate_answer, Setting, flying_in, status_in, Phase, wanted_by, answer_of_ends, flown_by, LookupStands, answer_of_row, lookups, end_of_lookup, flown_lookup, leg_of_lookup, number_of_leg, Row, Lookup}
use Rattle.query_machine.specs.declared.leg.Phase.TheVariants as phases
use Rattle.channel_table.proofs.SearchSteps.{leg_answers}

module _ (setting : Setting) (past : Past) (number : ℕ) (spec : Spec) (name : Name) (rest : List Name) where
  -- how the leg of a lookup has ended
  end_is : (lookup : Lookup) → LookupStands setting past number spec name rest lookup → leg_end setting (leg_of number lookup.leg_number) past ≡ end_of_lookup lookup
  end_is lookup stands = ap (λ n. leg_end setting (leg_of n lookup.leg_number) past) (sym stands.numbered) ∙ stands.leg.ends

  lookups_answer : (c : ℕ) (first : Lookup) (second : Option Lookup) → legs_of spec c ≡ map number_of_leg (first ∷ option_to_list second) → AllByRecursion (LookupStands setting past number spec name rest) (first ∷ option_to_list second)
      → candidate_answer setting number spec c name past ≡ answer_of_ends setting.options number (wanted_by spec) first.question.name (end_of_lookup first) (option_and_then end_of_lookup second)
  lookups_answer c first None legs each =
      leg_answers setting number past spec c first.leg_number None name legs
      ∙ ap₂ (λ n e. answer_of_ends setting.options number (wanted_by spec) n e None) (sym each.0.current) (end_is first each.0)
  lookups_answer c first (Some lookup) legs each =
      leg_answers setting number past spec c first.leg_number (Some lookup.leg_number) name legs
      ∙ ap₂ (λ n e. answer_of_ends setting.options number (wanted_by spec) n e (leg_end setting (leg_of number lookup.leg_number) past)) (sym each.0.current) (end_is first each.0)
      ∙ ap (answer_of_ends setting.options number (wanted_by spec) first.question.name (end_of_lookup first)) (end_is lookup each.1.0)

-- the answer of the current candidate of a row is that of its lookups
pub row_answers : {T : Type 0} (setting : Setting) (past : Past) (spec : Spec) (c : ℕ) (name : Name) (rest : List Name) (row : Row T) → wanted_by spec ≡ row.wanted → legs_of spec c ≡ map number_of_leg (lookups row)
    → AllByRecursion (LookupStands setting past row.number spec name rest) (lookups row) → candidate_answer setting row.number spec c name past ≡ answer_of_row setting.options row
row_answers setting past spec c name rest row wants legs each =
    lookups_answer setting past row.number spec name rest c row.first row.second legs each
    ∙ ap (λ a. answer_of_ends setting.options row.number a row.first.question.name (end_of_lookup row.first) (option_and_then end_of_lookup row.second)) wants

-- a leg that has ended isn't in flight
ended_lands : (phase : Phase) (status : Status) → status_in phase ≡ Some status → flying_in phase ≡ None
ended_lands phases.Waiting status is = absurd cc
ended_lands (phases.InFlight flying) status is = absurd cc
ended_lands (phases.Ended other) status is = refl

ended_says : (reply : List ℕ) (o : Option Status) (end : LegEnd) → option_map (λ (s : Status). record { status = s; reply = reply }) o ≡ Some end → (status : Status) × (o ≡ Some status)
ended_says reply None end is = absurd cc
ended_says reply (Some status) end is = (status, refl)

ended_flown : (lookup : Lookup) (end : LegEnd) → end_of_lookup lookup ≡ Some end → flown_lookup lookup ≡ []
ended_flown lookup end is =
    let said = ended_says lookup.reply (status_in lookup.leg.phase) end is in
    ap (λ f. option_to_list (flown_by (leg_of_lookup lookup) f)) (ended_lands lookup.leg.phase said.0 said.1)

first_ended : (lookup : Lookup) (o : Option LegEnd) → end_of_lookup lookup ≡ o → (f : LegEnd → Answer) (answer : Answer) → option_map f o ≡ Some answer → flown_lookup lookup ≡ []
first_ended lookup None is f answer has = absurd cc
first_ended lookup (Some end) is f answer has = ended_flown lookup end is

nothing_more : {X : Type 0} (xs : List X) → xs ≡ [] → xs ++ [] ≡ []
nothing_more xs e = ap (λ ys. ys ++ []) e

both_ended : (first second : Lookup) (o p : Option LegEnd) → end_of_lookup first ≡ o → end_of_lookup second ≡ p → (f : LegEnd → LegEnd → Answer) (answer : Answer) → option_and_then (λ e. option_map (f e) p) o ≡ Some answer → flown_lookup first ++ (flown_lookup second ++ []) ≡ []
both_ended first second None p is are f answer has = absurd cc
both_ended first second (Some d) None is are f answer has = absurd cc
both_ended first second (Some d) (Some e) is are f answer has = ap₂ (λ xs ys. xs ++ (ys ++ [])) (ended_flown first d is) (ended_flown second e are)

-- where the candidate has an answer no attempt of its legs is in flight
pub answered_flown : (options : Options) (request : ℕ) (spec : Spec) (c : ℕ) (first : Lookup) (second : Option Lookup) (answer : Answer) → legs_of spec c ≡ map number_of_leg (first ∷ option_to_list second)
    → answer_of_ends options request (wanted_by spec) first.question.name (end_of_lookup first) (option_and_then end_of_lookup second) ≡ Some answer → flat_map flown_lookup (first ∷ option_to_list second) ≡ []
answered_flown options request (Query text kind class) c first None answer legs has = nothing_more (flown_lookup first) (first_ended first (end_of_lookup first) refl _ answer has)
answered_flown options request (Query text kind class) c first (Some lookup) answer legs has = absurd cc
answered_flown options request (Search text kind class) c first None answer legs has = nothing_more (flown_lookup first) (first_ended first (end_of_lookup first) refl _ answer has)
answered_flown options request (Search text kind class) c first (Some lookup) answer legs has = absurd cc
answered_flown options request (Address host Family.Any nosort) c first None answer legs has = absurd cc
answered_flown options request (Address host Family.Any nosort) c first (Some lookup) answer legs has = both_ended first lookup (end_of_lookup first) (end_of_lookup lookup) refl refl _ answer has
answered_flown options request (Address host Family.V4 nosort) c first None answer legs has = nothing_more (flown_lookup first) (first_ended first (end_of_lookup first) refl _ answer has)
answered_flown options request (Address host Family.V4 nosort) c first (Some lookup) answer legs has = absurd cc
answered_flown options request (Address host Family.V6 nosort) c first None answer legs has = nothing_more (flown_lookup first) (first_ended first (end_of_lookup first) refl _ answer has)
answered_flown options request (Address host Family.V6 nosort) c first (Some lookup) answer legs has = absurd cc
answered_flown options request (Reverse address) c first None answer legs has = nothing_more (flown_lookup first) (first_ended first (end_of_lookup first) refl _ answer has)
answered_flown options request (Reverse address) c first (Some lookup) answer legs has = absurd cc
