-- Legs in flight: by which entries they come to be, and what the list of all says of one.
use Rattle.std.proofs.Common.{eqb-true, eq-eqb, inr, ⊎_elim, inl, ap, subst, sym, true≢false}
use Rattle.std.proofs.lemmas.Bool.{and_parts, and_from, cond_both, or_right, or_left, or_parts, cases_Bool}
use Rattle.std.specs.List.{AllByRecursion, list_any, cons_option}
use Rattle.std.specs.Prelude.{ℕ, ◌≡◌, true, ◌==◌, refl, Option, Some, IsTrue, ◌⊎◌, IfSome, IsFalse, None, List, ◌∷◌, Bool, false, filter_map, [], ◌||◌}
use Rattle.chan_types.specs.declared.journal.What.{What}
use Rattle.channel_model.proofs.ListLemmas.{cond_cases, none_is_some, cond_left}
use Rattle.channel_model.specs.Flight.{Attempt, begun_or, is_of_leg, has_leg, with_leg, unless_closed, closes, flight, begun_by, started, in_flight}
use Rattle.channel_model.specs.Journal.{Past}
use Rattle.channel_model.specs.Legs.{Leg, is_leg, leg_of}
use Rattle.channel_model.specs.Setting.{Setting}

-- the leg that a test finds is that leg
pub is_leg-says : (leg : Leg) (request number : ℕ) → is_leg leg request number ≡ true → leg ≡ leg_of request number
is_leg-says leg request number e =
    let parts = and_parts (leg.request == request) (leg.number == number) e in
    let r : leg.request ≡ request = eqb-true _ _ parts.0 in
    let n : leg.number ≡ number = eqb-true _ _ parts.1 in
    λ k. record { request = r k; number = n k }

-- a leg is itself
pub is_leg-itself : (leg : Leg) → is_leg leg leg.request leg.number ≡ true
is_leg-itself leg = and_from _ _ (eq-eqb leg.request leg.request refl) (eq-eqb leg.number leg.number refl)

-- the attempt of a leg is the one that begins, or the one before
begun_or-cases : (leg : Leg) (begun before : Option Attempt) (a : Attempt) → begun_or leg begun before ≡ Some a
    → ((begun ≡ Some a) × IsTrue (is_of_leg leg a)) ⊎ ((before ≡ Some a) × IfSome begun (λ c. IsFalse (is_of_leg leg c)))
begun_or-cases leg None before a e = inr (e, tt)
begun_or-cases leg (Some c) before a e = ⊎_elim
    (λ h. inl (ap Some h.1, subst (λ x. IsTrue (is_of_leg leg x)) h.1 h.0))
    (λ h. inr (h.1, h.0))
    (cond_cases (is_of_leg leg c) c a before e)

-- the leg stands in the list behind a Start of another as well
has_leg-kept : (leg : Leg) (begun : Option Attempt) (legs : List Leg) → has_leg leg legs ≡ true → has_leg leg (with_leg begun legs) ≡ true
has_leg-kept leg None legs has = has
has_leg-kept leg (Some c) legs has =
    cond_both (has_leg c.leg legs) legs (c.leg ∷ legs) (λ l. has_leg leg l ≡ true) (λ _. has) (λ _. or_right (is_leg leg c.leg.request c.leg.number) _ has)

-- and behind its own Start
pub has_leg-new : (leg : Leg) (a : Attempt) (legs : List Leg) → leg ≡ a.leg → has_leg leg (with_leg (Some a) legs) ≡ true
has_leg-new leg a legs same =
    cond_both (has_leg a.leg legs) legs (a.leg ∷ legs) (λ l. has_leg leg l ≡ true)
    (λ has. subst (λ l. has_leg l legs ≡ true) (sym same) has)
    (λ _. or_left _ _ (subst (λ l. is_leg leg l.request l.number ≡ true) same (is_leg-itself leg)))

-- what passes no item of a list passes none of the rest
any_rest : (test : Attempt → Bool) (o : Option Attempt) (rest : List Attempt) → list_any test (cons_option o rest) ≡ false → list_any test rest ≡ false
any_rest test None rest e = e
any_rest test (Some a) rest e = (or_parts (test a) (list_any test rest) e).1

-- nor the attempt of a leg of the list
any_of_leg : (test : Attempt → Bool) (h : Leg → Option Attempt) (legs : List Leg) (leg : Leg) (a : Attempt)
    → has_leg leg legs ≡ true → h leg ≡ Some a → list_any test (filter_map h legs) ≡ false → test a ≡ false
any_of_leg test h [] leg a has flies none = absurd (true≢false (sym has))
any_of_leg test h (l ∷ legs) leg a has flies none = ⊎_elim
    (λ here. let same : leg ≡ l = is_leg-says leg l.request l.number here in
    let first : h l ≡ Some a = subst (λ x. h x ≡ Some a) same flies in
    let all : list_any test (cons_option (Some a) (filter_map h legs)) ≡ false = subst (λ o. list_any test (cons_option o (filter_map h legs)) ≡ false) first none in
    (or_parts (test a) (list_any test (filter_map h legs)) all).0)
    (λ other. let there : has_leg leg legs ≡ true = subst (λ b. (b || has_leg leg legs) ≡ true) other has in
    any_of_leg test h legs leg a there flies (any_rest test (h l) (filter_map h legs) none))
    (cases_Bool (is_leg leg l.request l.number))

module _ (setting : Setting) where
  -- what an entry leaves of an attempt was there, and isn't closed
  pub unless_closed-says : (what : What) (past : Past) (before : Option Attempt) (a : Attempt) → unless_closed setting what past before ≡ Some a
      → (before ≡ Some a) × IsFalse (closes setting a what past)
  unless_closed-says what past None a e = none_is_some a e
  unless_closed-says what past (Some b) a e =
      let left = cond_left (closes setting b what past) b a e in
      (ap Some left.1, subst (λ x. IsFalse (closes setting x what past)) left.1 left.0)

  -- a leg in flight was begun by the last entry, or was in flight before it and isn't touched by it
  pub flight-cases : (leg : Leg) (what : What) (past : Past) (a : Attempt) → flight setting leg (what ∷ past) ≡ Some a
      → ((begun_by what ≡ Some a) × (leg ≡ a.leg)) ⊎ ((flight setting leg past ≡ Some a) × IsFalse (closes setting a what past) × IfSome (begun_by what) (λ c. IsFalse (is_of_leg leg c)))
  flight-cases leg what past a e = ⊎_elim
      (λ h. inl (h.0, is_leg-says leg a.leg.request a.leg.number h.1))
      (λ h. let left = unless_closed-says what past (flight setting leg past) a h.0 in inr (left.0, left.1, h.1))
      (begun_or-cases leg (begun_by what) (unless_closed setting what past (flight setting leg past)) a e)

  -- the attempt by which a leg is in flight is one of that leg
  pub flight-leg : (leg : Leg) (past : Past) (a : Attempt) → flight setting leg past ≡ Some a → leg ≡ a.leg
  flight-leg leg [] a e = none_is_some a e
  flight-leg leg (what ∷ past) a e = ⊎_elim (λ h. h.1) (λ h. flight-leg leg past a h.0) (flight-cases leg what past a e)

  -- a leg in flight has a Start
  pub flight-started : (leg : Leg) (past : Past) (a : Attempt) → flight setting leg past ≡ Some a → has_leg leg (started past) ≡ true
  flight-started leg [] a e = none_is_some a e
  flight-started leg (what ∷ past) a e = ⊎_elim
      (λ h. subst (λ b. has_leg leg (with_leg b (started past)) ≡ true) (sym h.0) (has_leg-new leg a (started past) h.1))
      (λ h. has_leg-kept leg (begun_by what) (started past) (flight-started leg past a h.0))
      (flight-cases leg what past a e)

  -- what no attempt in flight passes, the attempt of a leg doesn't
  pub in_flight-none : (test : Attempt → Bool) (leg : Leg) (past : Past) (a : Attempt) → flight setting leg past ≡ Some a → list_any test (in_flight setting past) ≡ false → test a ≡ false
  in_flight-none test leg past a e none =
      any_of_leg test (λ l. flight setting l past) (started past) leg a (flight-started leg past a e) e none

-- the Start of another leg begins nothing for a leg
pub begun_or-other : (leg : Leg) (begun before : Option Attempt) → IfSome begun (λ c. IsFalse (is_of_leg leg c)) → begun_or leg begun before ≡ before
begun_or-other leg None before other = refl
begun_or-other leg (Some c) before other = rw other refl

module _ (setting : Setting) (past : Past) where
  each_of_legs : (legs : List Leg) → AllByRecursion (λ (a : Attempt). flight setting a.leg past ≡ Some a) (filter_map (λ leg. flight setting leg past) legs)
  each_of_legs [] = tt
  each_of_legs (leg ∷ legs) = by_flight (flight setting leg past) refl (each_of_legs legs)
    where
      by_flight : (o : Option Attempt) → flight setting leg past ≡ o → AllByRecursion (λ (a : Attempt). flight setting a.leg past ≡ Some a) (filter_map (λ l. flight setting l past) legs)
          → AllByRecursion (λ (a : Attempt). flight setting a.leg past ≡ Some a) (cons_option o (filter_map (λ l. flight setting l past) legs))
      by_flight None is rest = rest
      by_flight (Some a) is rest = (subst (λ l. flight setting l past ≡ Some a) (flight-leg setting leg past a is) is, rest)

  -- each attempt in flight is the one by which its leg is
  pub each_flies : AllByRecursion (λ (a : Attempt). flight setting a.leg past ≡ Some a) (in_flight setting past)
  each_flies = each_of_legs (started past)
