-- Where a search stands: at a candidate of which a leg hasn't ended, until all of them have.
use Rattle.std.proofs.Common.{◌≡◌, ◌∙◌, ℕ, ◌+◌, Bool, true, false, List, [], ◌∷◌, Option, Some, None, refl, ap, sym, subst, map, cond, inl, inr}
use Rattle.std.specs.Prelude.{option_and_then, option_map}
use Rattle.chan_types.specs.declared.answer.Answer.{Answer}
use Rattle.chan_types.specs.declared.journal.What.{What}
use Rattle.chan_types.specs.declared.spec.Spec.{Spec}
use Rattle.chan_types.specs.declared.spec.Spec.TheVariants.{Address, Query, Reverse, Search}
use Rattle.dns_message.specs.declared.name.Name.{Name}
use Rattle.net_addr.specs.declared.addr.Family.{Family}
use Rattle.channel_model.specs.Flight.{Attempt, closes, flight}
use Rattle.channel_model.specs.Journal.{Past}
use Rattle.channel_model.specs.LegEnd.{LegEnd, end_of, leg_end}
use Rattle.channel_model.specs.Legs.{Leg, first_leg, leg_of, legs_of, second_leg}
use Rattle.channel_model.specs.Merge.{addresses_v4, addresses_v6, merged, merged_one}
use Rattle.channel_model.specs.Past.{closing_of, closings, with_closing}
use Rattle.channel_model.specs.Search.{Stand, asking, behind_candidate, candidate_answer, goes_on, over, stand_at}
use Rattle.channel_model.specs.Setting.{Setting}
use Rattle.channel_progress.proofs.LeftLemmas.{legs_from}
use Rattle.channel_progress.proofs.ListLemmas.{Has, has-left, has-map, has-right, map_none}

-- ---- a candidate has given no answer exactly while a leg of it hasn't ended

module _ (setting : Setting) (request : ℕ) where
  -- the leg hasn't ended
  abbrev IsUnended : Past → ℕ → Type 0
  IsUnended past k = leg_end setting (leg_of request k) past ≡ None

  -- one of these legs hasn't
  abbrev pub HasUnended : Past → List ℕ → Type 0
  HasUnended past legs = (k : ℕ) × Has k legs × (leg_end setting (leg_of request k) past ≡ None)

  -- a candidate without an answer has a leg that hasn't ended
  unanswered : (past : Past) (spec : Spec) (c : ℕ) (name : Name) → candidate_answer setting request spec c name past ≡ None → HasUnended past (legs_of spec c)
  unanswered past (Query text kind class) c name none = (first_leg c, inl refl, map_none _ (leg_end setting (leg_of request (first_leg c)) past) none)
  unanswered past (Search text kind class) c name none = (first_leg c, inl refl, map_none _ (leg_end setting (leg_of request (first_leg c)) past) none)
  unanswered past (Address host family nosort) c name none = by_family family none
    where
      by_ends : (o p : Option LegEnd) → leg_end setting (leg_of request (first_leg c)) past ≡ o → leg_end setting (leg_of request (second_leg c)) past ≡ p
          → option_and_then (λ left. option_map (merged setting request nosort name left) p) o ≡ None → HasUnended past (first_leg c ∷ second_leg c ∷ [])
      by_ends None p is also none = (first_leg c, inl refl, is)
      by_ends (Some a) None is also none = (second_leg c, inr (inl refl), also)
      by_ends (Some a) (Some b) is also none = absurd cc

      by_family : (f : Family) → candidate_answer setting request (Address host f nosort) c name past ≡ None → HasUnended past (legs_of (Address host f nosort) c)
      by_family Family.Any none = by_ends (leg_end setting (leg_of request (first_leg c)) past) (leg_end setting (leg_of request (second_leg c)) past) refl refl none
      by_family Family.V4 none = (first_leg c, inl refl, map_none _ (leg_end setting (leg_of request (first_leg c)) past) none)
      by_family Family.V6 none = (second_leg c, inl refl, map_none _ (leg_end setting (leg_of request (second_leg c)) past) none)
  unanswered past (Reverse address) c name none = (first_leg c, inl refl, map_none _ (leg_end setting (leg_of request (first_leg c)) past) none)

  -- there is no value for a leg that hasn't ended
  none_of : {A : Type 0} (past : Past) (f : LegEnd → A) (k leg : ℕ) → k ≡ leg → IsUnended past k → option_map f (leg_end setting (leg_of request leg) past) ≡ None
  none_of past f k leg same open' = ap (option_map f) (subst (λ n. IsUnended past n) same open')

  -- and one with such a leg has no answer
  still_unanswered : (past : Past) (spec : Spec) (c : ℕ) (name : Name) (k : ℕ) → Has k (legs_of spec c) → IsUnended past k → candidate_answer setting request spec c name past ≡ None
  still_unanswered past (Query text kind class) c name k (inl e) open' = none_of past _ k (first_leg c) e open'
  still_unanswered past (Query text kind class) c name k (inr h) open' = absurd h
  still_unanswered past (Search text kind class) c name k (inl e) open' = none_of past _ k (first_leg c) e open'
  still_unanswered past (Search text kind class) c name k (inr h) open' = absurd h
  still_unanswered past (Address host family nosort) c name k h open' = by_family family h
    where
      second : (o p : Option LegEnd) → p ≡ None → option_and_then (λ left. option_map (merged setting request nosort name left) p) o ≡ None
      second None p none = refl
      second (Some a) p none = ap (option_map (merged setting request nosort name a)) none

      by_family : (f : Family) → Has k (legs_of (Address host f nosort) c) → candidate_answer setting request (Address host f nosort) c name past ≡ None
      by_family Family.Any (inl e) =
          ap (option_and_then (λ left. option_map (merged setting request nosort name left) (leg_end setting (leg_of request (second_leg c)) past))) (subst (λ n. IsUnended past n) e open')
      by_family Family.Any (inr (inl e)) = second (leg_end setting (leg_of request (first_leg c)) past) (leg_end setting (leg_of request (second_leg c)) past) (subst (λ n. IsUnended past n) e open')
      by_family Family.Any (inr (inr h)) = absurd h
      by_family Family.V4 (inl e) = none_of past _ k (first_leg c) e open'
      by_family Family.V4 (inr h) = absurd h
      by_family Family.V6 (inl e) = none_of past _ k (second_leg c) e open'
      by_family Family.V6 (inr h) = absurd h
  still_unanswered past (Reverse address) c name k (inl e) open' = none_of past _ k (first_leg c) e open'
  still_unanswered past (Reverse address) c name k (inr h) open' = absurd h

  -- a candidate has a leg
  pub leg_there : (spec : Spec) (c : ℕ) → (k : ℕ) × Has k (legs_of spec c)
  leg_there (Query text kind class) c = (first_leg c, inl refl)
  leg_there (Search text kind class) c = (first_leg c, inl refl)
  leg_there (Address host family nosort) c = by_family family
    where
      by_family : (f : Family) → (k : ℕ) × Has k (legs_of (Address host f nosort) c)
      by_family Family.Any = (first_leg c, inl refl)
      by_family Family.V4 = (first_leg c, inl refl)
      by_family Family.V6 = (second_leg c, inl refl)
  leg_there (Reverse address) c = (first_leg c, inl refl)

  -- where no leg has ended, the search asks
  pub fresh_asks : (past : Past) (spec : Spec) → ((k : ℕ) → leg_end setting (leg_of request k) past ≡ None) → (c : ℕ) (names : List Name) → (d : ℕ) × (stand_at setting request spec past c names ≡ asking d)
  fresh_asks past spec none c [] = (c, refl)
  fresh_asks past spec none c (name ∷ names) =
      let leg = leg_there spec c in
      (c, ap (λ o. behind_candidate c names o (stand_at setting request spec past (c + 1) names)) (still_unanswered past spec c name leg.0 leg.1 (none leg.0)) ∙ by_names names)
    where
      by_names : (ns : List Name) → behind_candidate c ns None (stand_at setting request spec past (c + 1) ns) ≡ asking c
      by_names [] = refl
      by_names (n ∷ ns) = refl

  -- ---- where a search asks a candidate, a leg of that hasn't ended, and its legs are among all

  -- the candidate at which a search stands
  index_of : Stand → ℕ
  index_of (asking c) = c
  index_of (over answer) = 0

  -- it is one
  same_index : (c d : ℕ) → asking c ≡ asking d → c ≡ d
  unfolding index_of
  same_index c d e = ap index_of e

  pub record Asks (past : Past) (spec : Spec) (d c : ℕ) (names : List Name) : Type 0 where
    pub unended : HasUnended past (legs_of spec d)
    pub among : (k : ℕ) → Has k (legs_of spec d) → Has (leg_of request k) (legs_from request spec c names)

  module _ (past : Past) (spec : Spec) (d : ℕ) where
    -- the first candidate is asked
    asks_here : (c : ℕ) (name : Name) (names : List Name) → candidate_answer setting request spec c name past ≡ None → asking c ≡ asking d → Asks past spec d c (name ∷ names)
    asks_here c name names none e =
        let same : c ≡ d = same_index c d e in
        record {
          unended = subst (λ n. HasUnended past (legs_of spec n)) same (unanswered past spec c name none);
          among = λ k h. has-left (leg_of request k) (map (leg_of request) (legs_of spec c)) (legs_from request spec (c + 1) names)
              (has-map (leg_of request) k (legs_of spec c) (subst (λ n. Has k (legs_of spec n)) (sym same) h));
        }

    -- or a later one
    asks_later : (c : ℕ) (name : Name) (names : List Name) → Asks past spec d (c + 1) names → Asks past spec d c (name ∷ names)
    asks_later c name names a = record {
      unended = a.unended;
      among = λ k h. has-right (leg_of request k) (map (leg_of request) (legs_of spec c)) (legs_from request spec (c + 1) names) (a.among k h);
    }

    -- where a search stands at a candidate
    pub asks_says : (c : ℕ) (name : Name) (names : List Name) → stand_at setting request spec past c (name ∷ names) ≡ asking d → Asks past spec d c (name ∷ names)
    asks_says c name [] e = by_answer (candidate_answer setting request spec c name past) refl e
      where
        by_answer : (o : Option Answer) → candidate_answer setting request spec c name past ≡ o → behind_candidate c [] o (stand_at setting request spec past (c + 1) []) ≡ asking d → Asks past spec d c (name ∷ [])
        by_answer None is e = asks_here c name [] is e
        by_answer (Some answer) is e = absurd cc
    asks_says c name (next ∷ names) e = by_answer (candidate_answer setting request spec c name past) refl e (asks_says (c + 1) next names)
      where
        by_answer : (o : Option Answer) → candidate_answer setting request spec c name past ≡ o → behind_candidate c (next ∷ names) o (stand_at setting request spec past (c + 1) (next ∷ names)) ≡ asking d
            → (stand_at setting request spec past (c + 1) (next ∷ names) ≡ asking d → Asks past spec d (c + 1) (next ∷ names)) → Asks past spec d c (name ∷ next ∷ names)
        by_answer None is e rest = asks_here c name (next ∷ names) is e
        by_answer (Some answer) is e rest = by_test (goes_on answer.status) e
          where
            by_test : (b : Bool) → cond b (stand_at setting request spec past (c + 1) (next ∷ names)) (over answer) ≡ asking d → Asks past spec d c (name ∷ next ∷ names)
            by_test true e = asks_later c name (next ∷ names) (rest e)
            by_test false e = absurd cc

-- ---- and it asks that one until all legs of it have ended

module _ (setting : Setting) (what : What) (past : Past) where
  -- a leg that has ended stays so
  ended_stays : (leg : Leg) (end : LegEnd) → leg_end setting leg past ≡ Some end → leg_end setting leg (what ∷ past) ≡ Some end
  ended_stays leg end is = by_flight (flight setting leg past)
    where
      by_test : (a : Attempt) (b : Bool) → end_of (cond b (closing_of setting a what past (closings setting leg past) ∷ closings setting leg past) (closings setting leg past)) ≡ Some end
      by_test a true = rw is refl
      by_test a false = is

      by_flight : (o : Option Attempt) → end_of (with_closing setting what past o (closings setting leg past)) ≡ Some end
      by_flight None = is
      by_flight (Some a) = by_test a (closes setting a what past)

  module _ (request : ℕ) where
    -- the answer of one leg stays
    kept_one : (f : LegEnd → Answer) (k : ℕ) (a : Answer) → option_map f (leg_end setting (leg_of request k) past) ≡ Some a → option_map f (leg_end setting (leg_of request k) (what ∷ past)) ≡ Some a
    kept_one f k a e = by_end (leg_end setting (leg_of request k) past) refl e
      where
        by_end : (o : Option LegEnd) → leg_end setting (leg_of request k) past ≡ o → option_map f o ≡ Some a → option_map f (leg_end setting (leg_of request k) (what ∷ past)) ≡ Some a
        by_end None is e = absurd cc
        by_end (Some end) is e = ap (option_map f) (ended_stays (leg_of request k) end is) ∙ e

    -- and so does that of a candidate
    kept_answer : (spec : Spec) (c : ℕ) (name : Name) (a : Answer) → candidate_answer setting request spec c name past ≡ Some a → candidate_answer setting request spec c name (what ∷ past) ≡ Some a
    kept_answer (Query text kind class) c name a e = kept_one _ (first_leg c) a e
    kept_answer (Search text kind class) c name a e = kept_one _ (first_leg c) a e
    kept_answer (Address host family nosort) c name a e = by_family family e
      where
        by_ends : (o p : Option LegEnd) → leg_end setting (leg_of request (first_leg c)) past ≡ o → leg_end setting (leg_of request (second_leg c)) past ≡ p
            → option_and_then (λ left. option_map (merged setting request nosort name left) p) o ≡ Some a
            → option_and_then (λ left. option_map (merged setting request nosort name left) (leg_end setting (leg_of request (second_leg c)) (what ∷ past))) (leg_end setting (leg_of request (first_leg c)) (what ∷ past)) ≡ Some a
        by_ends None p is also e = absurd cc
        by_ends (Some x) None is also e = absurd cc
        by_ends (Some x) (Some y) is also e = rw (ended_stays (leg_of request (first_leg c)) x is, ended_stays (leg_of request (second_leg c)) y also) e

        by_family : (f : Family) → candidate_answer setting request (Address host f nosort) c name past ≡ Some a → candidate_answer setting request (Address host f nosort) c name (what ∷ past) ≡ Some a
        by_family Family.Any e = by_ends (leg_end setting (leg_of request (first_leg c)) past) (leg_end setting (leg_of request (second_leg c)) past) refl refl e
        by_family Family.V4 e = kept_one (merged_one setting request nosort name addresses_v4) (first_leg c) a e
        by_family Family.V6 e = kept_one (merged_one setting request nosort name addresses_v6) (second_leg c) a e
    kept_answer (Reverse address) c name a e = kept_one _ (first_leg c) a e

    module _ (spec : Spec) (d k : ℕ) (own : Has k (legs_of spec d)) (open' : leg_end setting (leg_of request k) (what ∷ past) ≡ None) where
      -- the first candidate is asked as before
      stays_here : (c : ℕ) (name : Name) (names : List Name) → asking c ≡ asking d → stand_at setting request spec (what ∷ past) c (name ∷ names) ≡ asking d
      stays_here c name names e =
          let same : c ≡ d = same_index setting request c d e in
          ap (λ o. behind_candidate c names o (stand_at setting request spec (what ∷ past) (c + 1) names)) (still_unanswered setting request (what ∷ past) spec c name k (subst (λ n. Has k (legs_of spec n)) (sym same) own) open') ∙ by_names names ∙ e
        where
          by_names : (ns : List Name) → behind_candidate c ns None (stand_at setting request spec (what ∷ past) (c + 1) ns) ≡ asking c
          by_names [] = refl
          by_names (n ∷ ns) = refl

      -- and so is any
      pub asks_stays : (c : ℕ) (names : List Name) → stand_at setting request spec past c names ≡ asking d → stand_at setting request spec (what ∷ past) c names ≡ asking d
      asks_stays c [] e = e
      asks_stays c (name ∷ []) e = by_answer (candidate_answer setting request spec c name past) refl e
        where
          by_answer : (o : Option Answer) → candidate_answer setting request spec c name past ≡ o → behind_candidate c [] o (stand_at setting request spec past (c + 1) []) ≡ asking d
              → stand_at setting request spec (what ∷ past) c (name ∷ []) ≡ asking d
          by_answer None is e = stays_here c name [] e
          by_answer (Some answer) is e = absurd cc
      asks_stays c (name ∷ next ∷ names) e = by_answer (candidate_answer setting request spec c name past) refl e (asks_stays (c + 1) (next ∷ names))
        where
          by_answer : (o : Option Answer) → candidate_answer setting request spec c name past ≡ o → behind_candidate c (next ∷ names) o (stand_at setting request spec past (c + 1) (next ∷ names)) ≡ asking d
              → (stand_at setting request spec past (c + 1) (next ∷ names) ≡ asking d → stand_at setting request spec (what ∷ past) (c + 1) (next ∷ names) ≡ asking d)
              → stand_at setting request spec (what ∷ past) c (name ∷ next ∷ names) ≡ asking d
          by_answer None is e rest = stays_here c name (next ∷ names) e
          by_answer (Some answer) is e rest = ap (λ o. behind_candidate c (next ∷ names) o (stand_at setting request spec (what ∷ past) (c + 1) (next ∷ names))) (kept_answer spec c name answer is) ∙ by_test (goes_on answer.status) e
            where
              by_test : (b : Bool) → cond b (stand_at setting request spec past (c + 1) (next ∷ names)) (over answer) ≡ asking d → cond b (stand_at setting request spec (what ∷ past) (c + 1) (next ∷ names)) (over answer) ≡ asking d
              by_test true e = rest e
              by_test false e = absurd cc
