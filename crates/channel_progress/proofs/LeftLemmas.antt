-- The attempts that pending requests may still spend, in a journal that ends at a given past.
use Rattle.std.proofs.Common.{◌≡◌, ◌∙◌, ℕ, ◌+◌, ◌*◌, ◌-◌, ◌≤◌, suc, Bool, true, false, List, [], ◌∷◌, ◌++◌, Option, Some, None, refl, ap, subst, map, cond, arith, length, length-append}
use Rattle.std.proofs.Math.Nat.{mul-le-mul_right}
use Rattle.std.proofs.lemmas.Bool.{leb-false}
use Rattle.std.proofs.lemmas.List.{length-map}
use Rattle.std.specs.Bool.{then_some}
use Rattle.std.specs.List.{AllByRecursion}
use Rattle.std.specs.Option.{option_or}
use Rattle.std.specs.Prelude.{nat_le, option_map, sum_by}
use Rattle.chan_types.specs.declared.server_key.ServerKey.{ServerKey}
use Rattle.chan_types.specs.declared.journal.What.{What}
use Rattle.chan_types.specs.declared.journal.What.TheVariants.{Servers}
use Rattle.chan_types.specs.declared.spec.Spec.{Spec}
use Rattle.chan_types.specs.declared.spec.Spec.TheVariants.{Address, Query, Reverse, Search}
use Rattle.dns_message.specs.declared.name.Name.{Name}
use Rattle.net_addr.specs.declared.addr.Family.{Family}
use Rattle.channel_model.proofs.Theorems.{closed-closings, spent-more}
use Rattle.channel_model.specs.Completion.{pending}
use Rattle.channel_model.specs.Flight.{Attempt, closes, flight}
use Rattle.channel_model.specs.Journal.{Past, accepted, spec_of}
use Rattle.channel_model.specs.LegEnd.{LegEnd, end_of, ending_status, leg_end}
use Rattle.channel_model.specs.Legs.{Leg, leg_of, legs_of}
use Rattle.channel_model.specs.Past.{Closing, closing_of, closings, is_failed, outcome_of, spent, with_closing}
use Rattle.channel_model.specs.Questions.{candidates_of}
use Rattle.channel_model.specs.Servers.{attempts}
use Rattle.channel_model.specs.Setting.{Setting}
use Rattle.channel_model.specs.declared.judged.Judged.{Judged}
use Rattle.channel_model.specs.declared.judged.Judged.TheVariants.{Failed, Final, NextPlain, NextTcp}
use Rattle.channel_progress.specs.Allowed.{attempts_for, attempts_of_leg, attempts_of_request, in_use_most, times_set}
use Rattle.channel_progress.proofs.FitLemmas.{IsFit}
use Rattle.channel_progress.proofs.ListLemmas.{map_none, total, total-most}
use Rattle.channel_progress.proofs.MostLemmas.{in_use-most, in_use_most-later, times_set-one}

-- the legs of these candidates, the first of which has this index
abbrev pub legs_from : ℕ → Spec → ℕ → List Name → List Leg
legs_from request spec c [] = []
legs_from request spec c (name ∷ names) = map (leg_of request) (legs_of spec c) ++ legs_from request spec (c + 1) names

module _ (setting : Setting) (end : Past) where
  -- the attempts that a leg may still spend: those that it may spend at all, without those that it has spent, and one fewer for each time that servers were set
  abbrev pub left_of : Past → Leg → ℕ
  left_of past leg = attempts_of_leg setting end - (spent (closings setting leg past) + times_set past)

  -- those that the legs of a request may still spend
  abbrev pub left_if : Past → ℕ → Option Spec → ℕ
  left_if past request None = 0
  left_if past request (Some spec) = total (left_of past) (legs_from request spec 0 (candidates_of setting spec))

  -- those of a request with this number
  abbrev pub left_for : Past → ℕ → ℕ
  left_for past request = left_if past request (spec_of request past)

  -- those that all pending requests may still spend
  abbrev pub left_in : Past → ℕ
  left_in past = total (left_for past) (pending setting past)

  -- those that the requests accepted so far may spend at all
  abbrev pub attempts_so_far : Past → ℕ
  attempts_so_far past = sum_by (attempts_of_request setting end) (accepted past)

module _ (setting : Setting) where
  -- each attempt of a leg ended where it might spend no more than with the most servers in use
  closings_most : (m : ℕ) (leg : Leg) (past : Past) → in_use_most setting past ≤ m → AllByRecursion (λ (c : Closing). c.most ≤ m * setting.options.tries) (closings setting leg past)
  closings_most m leg [] used = tt
  closings_most m leg (what ∷ past) used = by_flight (flight setting leg past) (closings_most m leg past before)
    where
      before : in_use_most setting past ≤ m
      before = omega (arith, used, in_use_most-later setting past (record { seat = 0; by = 0; what = what } ∷ []))

      by_flight : (o : Option Attempt) → AllByRecursion (λ (c : Closing). c.most ≤ m * setting.options.tries) (closings setting leg past)
          → AllByRecursion (λ (c : Closing). c.most ≤ m * setting.options.tries) (with_closing setting what past o (closings setting leg past))
      by_flight None rest = rest
      by_flight (Some a) rest = by_test (closes setting a what past)
        where
          here : attempts setting past ≤ m * setting.options.tries
          here = mul-le-mul_right setting.options.tries (omega (arith, in_use-most setting past, before))

          by_test : (b : Bool) → AllByRecursion (λ (c : Closing). c.most ≤ m * setting.options.tries) (cond b (closing_of setting a what past (closings setting leg past) ∷ closings setting leg past) (closings setting leg past))
          by_test true = (here, rest)
          by_test false = rest

-- no value where the test fails
then_none : {A : Type 0} (b : Bool) (x : A) → then_some b x ≡ None → b ≡ false
then_none true x e = absurd cc
then_none false x e = refl

-- a leg that hasn't ended has spent fewer attempts than it may
spent_few : (m : ℕ) (cs : List Closing) → 1 ≤ m → AllByRecursion (λ (c : Closing). c.most ≤ m) cs → end_of cs ≡ None → spent cs + 1 ≤ m
spent_few m [] some each none = omega (arith, some)
spent_few m (c ∷ cs) some each none = by_end (end_of cs) refl none (spent_few m cs some each.1)
  where
    by_outcome : (o : Option Judged) → c.outcome ≡ o → ending_status o (spent (c ∷ cs)) c.most ≡ None → spent cs + 1 ≤ m → spent (c ∷ cs) + 1 ≤ m
    by_outcome None is none few = let here : ◌≡◌ {A = ℕ} (cond (is_failed c.outcome) 1 0) 0 = ap (λ p. cond (is_failed p) 1 0) is in omega (arith, spent-more c cs, here, few)
    by_outcome (Some NextTcp) is none few = let here : ◌≡◌ {A = ℕ} (cond (is_failed c.outcome) 1 0) 0 = ap (λ p. cond (is_failed p) 1 0) is in omega (arith, spent-more c cs, here, few)
    by_outcome (Some NextPlain) is none few = let here : ◌≡◌ {A = ℕ} (cond (is_failed c.outcome) 1 0) 0 = ap (λ p. cond (is_failed p) 1 0) is in omega (arith, spent-more c cs, here, few)
    by_outcome (Some (Failed status)) is none few = omega (arith, leb-false c.most (spent (c ∷ cs)) (then_none (nat_le c.most (spent (c ∷ cs))) status none), each.0)
    by_outcome (Some (Final status)) is none few = absurd cc

    by_end : (o : Option LegEnd) → end_of cs ≡ o
        → option_or o (option_map (λ status. record { status = status; reply = c.reply }) (ending_status c.outcome (spent (c ∷ cs)) c.most)) ≡ None
        → (end_of cs ≡ None → spent cs + 1 ≤ m) → spent (c ∷ cs) + 1 ≤ m
    by_end (Some e) is none rest = absurd cc
    by_end None is none rest = by_outcome c.outcome refl (map_none _ (ending_status c.outcome (spent (c ∷ cs)) c.most) none) (rest is)

module _ (setting : Setting) (end : Past) where
  -- the same of a leg by its name
  unended_few : (leg : Leg) (past : Past) → IsFit setting end past → leg_end setting leg past ≡ None → spent (closings setting leg past) + 1 ≤ in_use_most setting end * setting.options.tries
  unended_few leg past fit open' =
      spent_few (in_use_most setting end * setting.options.tries) (closings setting leg past) fit.some_try (closings_most setting (in_use_most setting end) leg past fit.used_most) open'

  -- so that an attempt is left to it
  pub left_some : (leg : Leg) (past : Past) → IsFit setting end past → leg_end setting leg past ≡ None → 1 ≤ left_of setting end past leg
  left_some leg past fit open' = omega (arith, unended_few leg past fit open', fit.set_most)

  -- one fewer behind an entry with which its attempt fails
  pub left_spends : (what : What) (past : Past) (leg : Leg) (a : Attempt) → IsFit setting end past → leg_end setting leg past ≡ None → flight setting leg past ≡ Some a → closes setting a what past ≡ true
      → is_failed (outcome_of setting a what past (closings setting leg past)) ≡ true → left_of setting end (what ∷ past) leg + 1 ≤ left_of setting end past leg
  left_spends what past leg a fit open' flies closed failed =
      let more = ap spent (closed-closings setting what past leg a flies closed) ∙ spent-more (closing_of setting a what past (closings setting leg past)) (closings setting leg past) in
      let one : ◌≡◌ {A = ℕ} (cond (is_failed (outcome_of setting a what past (closings setting leg past))) 1 0) 1 = ap (λ b. cond b 1 0) failed in
      omega (arith, more, one, unended_few leg past fit open', fit.set_most, times_set-one what past)

  -- no entry takes back an attempt that is spent
  spent_grows : (what : What) (past : Past) (leg : Leg) → spent (closings setting leg past) ≤ spent (closings setting leg (what ∷ past))
  spent_grows what past leg = by_flight (flight setting leg past)
    where
      by_flight : (o : Option Attempt) → spent (closings setting leg past) ≤ spent (with_closing setting what past o (closings setting leg past))
      by_flight None = omega arith
      by_flight (Some a) = by_test (closes setting a what past)
        where
          by_test : (b : Bool) → spent (closings setting leg past) ≤ spent (cond b (closing_of setting a what past (closings setting leg past) ∷ closings setting leg past) (closings setting leg past))
          by_test true = omega (arith, spent-more (closing_of setting a what past (closings setting leg past)) (closings setting leg past))
          by_test false = omega arith

  -- no entry gives a leg more attempts
  pub left_less : (what : What) (past : Past) (leg : Leg) → left_of setting end (what ∷ past) leg ≤ left_of setting end past leg
  left_less what past leg = omega (arith, spent_grows what past leg, times_set-one what past)

  -- and one that sets servers takes one from a leg that hasn't ended
  pub left_sets : (list : List ServerKey) (past : Past) (leg : Leg) → IsFit setting end past → leg_end setting leg past ≡ None → left_of setting end (Servers list ∷ past) leg + 1 ≤ left_of setting end past leg
  left_sets list past leg fit open' = omega (arith, spent_grows (Servers list) past leg, times_set-one (Servers list) past, left_some leg past fit open')

  -- each candidate has as many legs
  legs_as_many : (spec : Spec) (c : ℕ) → length (legs_of spec c) ≡ length (legs_of spec 0)
  legs_as_many (Query text kind class) c = refl
  legs_as_many (Search text kind class) c = refl
  legs_as_many (Address host family nosort) c = by_family family
    where
      by_family : (f : Family) → length (legs_of (Address host f nosort) c) ≡ length (legs_of (Address host f nosort) 0)
      by_family Family.Any = refl
      by_family Family.V4 = refl
      by_family Family.V6 = refl
  legs_as_many (Reverse address) c = refl

  -- so many for one more
  one_more : (n k a b : ℕ) → a ≡ k → b ≡ n * k → a + b ≡ suc n * k
  one_more n k a b here rest = omega (arith, here, rest)

  -- as many legs as candidates and legs of one
  legs_counted : (request : ℕ) (spec : Spec) (c : ℕ) (names : List Name) → length (legs_from request spec c names) ≡ length names * length (legs_of spec 0)
  legs_counted request spec c [] = omega arith
  legs_counted request spec c (name ∷ names) =
      length-append (map (leg_of request) (legs_of spec c)) (legs_from request spec (c + 1) names)
      ∙ one_more (length names) (length (legs_of spec 0)) _ _ (length-map (legs_of spec c) (leg_of request) ∙ legs_as_many spec c) (legs_counted request spec (c + 1) names)

  -- the legs of a request may spend so many attempts at most
  pub left_whole : (past : Past) (request : ℕ) (spec : Spec) → left_if setting end past request (Some spec) ≤ attempts_for setting end spec
  left_whole past request spec =
      subst (λ n. left_if setting end past request (Some spec) ≤ n * attempts_of_leg setting end) (legs_counted request spec 0 (candidates_of setting spec))
      (total-most (left_of setting end past) (attempts_of_leg setting end) (legs_from request spec 0 (candidates_of setting spec)) (λ leg. omega arith))
