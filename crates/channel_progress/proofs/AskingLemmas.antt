-- A request that is pending asks servers: its search stands at a candidate.
use Rattle.std.proofs.Common.{◌≡◌, ◌∙◌, ℕ, Bool, true, false, List, [], ◌∷◌, ◌++◌, Option, Some, None, refl, ap, sym, subst, map, cond, inl, inr, ◌⊎◌, ⊎_elim, eq-eqb, eqb-true, true≢false}
use Rattle.std.proofs.lemmas.Bool.{cases_Bool}
use Rattle.std.specs.Option.{option_or}
use Rattle.std.specs.Prelude.{IsFalse, find, option_and_then, option_map, ◌==◌}
use Rattle.chan_types.specs.declared.answer.Answer.{Answer}
use Rattle.chan_types.specs.declared.journal.What.{What}
use Rattle.chan_types.specs.declared.journal.What.TheVariants.{Accept, Arrive, Cancel, Destroy, Expire, Fault, Servers, Start, Take}
use Rattle.chan_types.specs.declared.script.Script.{Script}
use Rattle.chan_types.specs.declared.spec.Spec.{Spec}
use Rattle.chan_types.specs.declared.status.Status.{Status}
use Rattle.chan_types.specs.declared.status.Status.TheVariants.{Cancelled, Destruction}
use Rattle.channel_model.proofs.Theorems.{accept-fate, accept-request, accept_spares, accepted-none, if_any, next_unasked, none_says, set-end, spared-end, stand_of-same, take_spares, unasked_closings, with_closing-spared}
use Rattle.channel_model.specs.AtOnce.{at_once}
use Rattle.channel_model.specs.Completion.{fate, is_open, occurrences, pending, requests}
use Rattle.channel_model.specs.Flight.{closes, flight}
use Rattle.channel_model.specs.Journal.{Accepted, Past, accepted, accepted_by, request_of, spec_of}
use Rattle.channel_model.specs.Lawful.{IsLawfulPast}
use Rattle.channel_model.specs.LegEnd.{end_of, leg_end}
use Rattle.channel_model.specs.Legs.{leg_of}
use Rattle.channel_model.specs.Merge.{bare}
use Rattle.channel_model.specs.Past.{closings}
use Rattle.channel_model.specs.Questions.{candidates_of}
use Rattle.channel_model.specs.Search.{Stand, answer_at, answer_of_search, asking, over, search_answer, stand_of}
use Rattle.channel_model.specs.Setting.{Setting}
use Rattle.channel_progress.proofs.StandLemmas.{fresh_asks}
use Rattle.channel_progress.proofs.ListLemmas.{Has, has-filter, map_none}

-- where neither of two gives an answer, each gives none
none_both : (o p : Option Answer) → option_or o p ≡ None → (o ≡ None) × (p ≡ None)
none_both None p e = (refl, e)
none_both (Some a) p e = absurd cc

-- a search without an answer stands at a candidate
no_answer_asks : (stand : Stand) → answer_at stand ≡ None → (c : ℕ) × (stand ≡ asking c)
no_answer_asks (asking c) e = (c, refl)
no_answer_asks (over answer) e = absurd cc

-- what is found in a list and an item that fails is found in the list
find-before : {X : Type 0} (t : X → Bool) (xs : List X) (x y : X) → find t (xs ++ y ∷ []) ≡ Some x → t y ≡ false → find t xs ≡ Some x
find-before t [] x y e other = by_test (t y) other e
  where
    by_test : (b : Bool) → b ≡ false → cond b (Some y) None ≡ Some x → None ≡ Some x
    by_test true is e = absurd (true≢false is)
    by_test false is e = e
find-before {X} t (z ∷ xs) x y e other = by_test (t z) e (λ h. find-before t xs x y h other)
  where
    by_test : (b : Bool) → cond b (Some z) (find t (xs ++ y ∷ [])) ≡ Some x → (find t (xs ++ y ∷ []) ≡ Some x → find t xs ≡ Some x) → cond b (Some z) (find t xs) ≡ Some x
    by_test true e rest = e
    by_test false e rest = rest e

-- a number that stands among those of some requests is found there
find-there : (number : ℕ) (all : List Accepted) → Has number (map (λ (r : Accepted). r.number) all) → (r : Accepted) × (find (λ (q : Accepted). q.number == number) all ≡ Some r)
find-there number [] h = absurd h
find-there number (r ∷ all) h = by_test (r.number == number) refl h (find-there number all)
  where
    by_test : (b : Bool) → (r.number == number) ≡ b → (number ≡ r.number) ⊎ Has number (map (λ (q : Accepted). q.number) all)
        → (Has number (map (λ (q : Accepted). q.number) all) → (q : Accepted) × (find (λ (p : Accepted). p.number == number) all ≡ Some q))
        → (q : Accepted) × (cond b (Some r) (find (λ (p : Accepted). p.number == number) all) ≡ Some q)
    by_test true is h rest = (r, refl)
    by_test false is (inl e) rest = absurd (true≢false (sym (eq-eqb r.number number (sym e)) ∙ is))
    by_test false is (inr h) rest = rest h

-- what is pending was accepted, and has no answer
pub pending_says : (setting : Setting) (past : Past) (request : ℕ) → Has request (pending setting past) → (spec : Spec) × (spec_of request past ≡ Some spec) × (fate setting request past ≡ None)
pending_says setting past request h =
    let there = has-filter request (is_open setting past) (requests past) h in
    let found = find-there request (accepted past) there.0 in
    (found.0.spec, ap (option_map (λ (r : Accepted). r.spec)) found.1, none_says (fate setting request past) there.1)

module _ (setting : Setting) (request : ℕ) where
  -- the request has a candidate to ask, and stands at one
  pub record IsAsking (past : Past) (spec : Spec) : Type 0 where
    pub not_at_once : at_once setting request spec ≡ None
    pub at : ℕ
    pub stands : stand_of setting request spec past ≡ asking at

  -- what a request asks behind an entry that accepts nothing, it asked before
  asked_before : (what : What) (past : Past) (spec : Spec) → accepted_by what ≡ None → spec_of request (what ∷ past) ≡ Some spec → spec_of request past ≡ Some spec
  asked_before what past spec none asks = ap (λ l. option_map (λ (r : Accepted). r.spec) (find (λ (r : Accepted). r.number == request) l)) (sym (accepted-none what past none)) ∙ asks

  -- where its legs have ended as before, it asks as before
  stays_asking : (what : What) (past : Past) (spec : Spec) → ((k : ℕ) → leg_end setting (leg_of request k) (what ∷ past) ≡ leg_end setting (leg_of request k) past) → IsAsking past spec → IsAsking (what ∷ past) spec
  stays_asking what past spec same was = record { not_at_once = was.not_at_once; at = was.at; stands = stand_of-same setting request (what ∷ past) past same spec ∙ was.stands }

  -- where its search has no answer, it asks
  by_search : (past : Past) (spec : Spec) → at_once setting request spec ≡ None → spec_of request past ≡ Some spec → search_answer setting request past ≡ None → IsAsking past spec
  by_search past spec none asks e =
      let answer : answer_of_search setting request past spec ≡ None = sym (ap (option_and_then (answer_of_search setting request past)) asks) ∙ e in
      let stand = no_answer_asks (stand_of setting request spec past) (map_none _ (answer_at (stand_of setting request spec past)) answer) in
      record { not_at_once = none; at = stand.0; stands = stand.1 }

  -- a Cancel and a Destroy give an accepted request an answer
  cancelled_none : (past : Past) (spec : Spec) (status : Status) → spec_of request past ≡ Some spec → option_map (λ (s : Spec). bare request status []) (spec_of request past) ≡ None → ⊥
  cancelled_none past spec status asks e = some_none (bare request status []) (sym (ap (option_map (λ (s : Spec). bare request status [])) asks) ∙ e)
    where
      some_none : (a : Answer) → Some a ≡ None → ⊥
      some_none a e = absurd cc

  -- a Start ends no leg
  started_ends : (number leg server link id : ℕ) (mix : Option ℕ) (moment : ℕ) (past : Past) (k : ℕ)
      → leg_end setting (leg_of request k) (Start number leg server link id mix moment ∷ past) ≡ leg_end setting (leg_of request k) past
  started_ends number leg server link id mix moment past k =
      ap end_of (with_closing-spared setting (Start number leg server link id mix moment) past (flight setting (leg_of request k) past) (closings setting (leg_of request k) past)
      (if_any (λ a. IsFalse (closes setting a (Start number leg server link id mix moment) past)) (flight setting (leg_of request k) past) (λ a. refl)))

  -- nor does an Accept
  accepted_ends : (number : ℕ) (s : Spec) (script : Script) (past : Past) (k : ℕ) → leg_end setting (leg_of request k) (Accept number s script ∷ past) ≡ leg_end setting (leg_of request k) past
  accepted_ends number s script past k = spared-end setting (Accept number s script) past (leg_of request k) (accept_spares setting past (leg_of request k) number s script)

  -- behind its own Accept a request asks, if it got no answer there
  fresh : (number : ℕ) (s : Spec) (script : Script) (past : Past) (spec : Spec) → IsLawfulPast setting (Accept number s script ∷ past) → number ≡ request → spec_of request (Accept number s script ∷ past) ≡ Some spec
      → fate setting request (Accept number s script ∷ past) ≡ None → IsAsking (Accept number s script ∷ past) spec
  fresh number s script past spec lawful same asks open' =
      let new : occurrences number (requests past) ≡ 0 = ap (λ n. occurrences n (requests past)) lawful.0.1 ∙ next_unasked setting past lawful.1 in
      let own : spec_of number (Accept number s script ∷ past) ≡ Some s = ap (option_map (λ (r : Accepted). r.spec)) (accept-request setting past number s script new) in
      let specs : ◌≡◌ {A = Option Spec} (Some s) (Some spec) = sym own ∙ subst (λ n. spec_of n (Accept number s script ∷ past) ≡ Some spec) (sym same) asks in
      let spec_is : s ≡ spec = cc in
      let at_once_is : at_once setting number s ≡ None = sym (accept-fate setting past number s script new) ∙ subst (λ n. fate setting n (Accept number s script ∷ past) ≡ None) (sym same) open' in
      let none : (k : ℕ) → leg_end setting (leg_of request k) (Accept number s script ∷ past) ≡ None =
      λ k. accepted_ends number s script past k ∙ ap end_of (unasked_closings setting request k past lawful.1 (subst (λ n. occurrences n (requests past) ≡ 0) same new)) in
      let stand = fresh_asks setting request (Accept number s script ∷ past) spec none 0 (candidates_of setting spec) in
      record {
        not_at_once = subst (λ n. at_once setting n spec ≡ None) same (subst (λ t. at_once setting number t ≡ None) spec_is at_once_is);
        at = stand.0;
        stands = stand.1;
      }

  -- an accepted request without an answer asks
  pub open_asks : (past : Past) (spec : Spec) → IsLawfulPast setting past → spec_of request past ≡ Some spec → fate setting request past ≡ None → IsAsking past spec
  open_asks [] spec lawful asks open' = absurd cc
  open_asks (Accept number s script ∷ past) spec lawful asks open' = ⊎_elim
      (λ own. fresh number s script past spec lawful (eqb-true number request own) asks open')
      (λ other. stays_asking (Accept number s script) past spec (accepted_ends number s script past) (open_asks past spec lawful.1 (before other) (none_both _ _ open').0))
      (cases_Bool (number == request))
    where
      by_find : (o : Option Accepted) → request_of request (Accept number s script ∷ past) ≡ o → option_map (λ (r : Accepted). r.spec) o ≡ Some spec → (number == request) ≡ false → spec_of request past ≡ Some spec
      by_find None is e other = absurd cc
      by_find (Some r) is e other =
          ap (option_map (λ (q : Accepted). q.spec)) (find-before (λ (q : Accepted). q.number == request) (accepted past) r (record { number = number; spec = s; script = script }) is other) ∙ e

      before : (number == request) ≡ false → spec_of request past ≡ Some spec
      before other = by_find (request_of request (Accept number s script ∷ past)) refl asks other
  open_asks (Cancel ∷ past) spec lawful asks open' = absurd (cancelled_none past spec Cancelled (asked_before Cancel past spec refl asks) (none_both _ _ open').1)
  open_asks (Destroy ∷ past) spec lawful asks open' = absurd (cancelled_none past spec Destruction (asked_before Destroy past spec refl asks) (none_both _ _ open').1)
  open_asks (Take number ∷ past) spec lawful asks open' =
      stays_asking (Take number) past spec (λ k. spared-end setting (Take number) past (leg_of request k) (take_spares setting past (leg_of request k) number))
      (open_asks past spec lawful.1 (asked_before (Take number) past spec refl asks) (none_both _ _ open').0)
  open_asks (Start number leg server link id mix moment ∷ past) spec lawful asks open' =
      stays_asking (Start number leg server link id mix moment) past spec (started_ends number leg server link id mix moment past)
      (open_asks past spec lawful.1 (asked_before (Start number leg server link id mix moment) past spec refl asks) (none_both _ _ open').0)
  open_asks (Arrive server link bytes ∷ past) spec lawful asks open' =
      by_search (Arrive server link bytes ∷ past) spec (open_asks past spec lawful.1 (asked_before (Arrive server link bytes) past spec refl asks) (none_both _ _ open').0).not_at_once asks (none_both _ _ open').1
  open_asks (Expire number leg moment ∷ past) spec lawful asks open' =
      by_search (Expire number leg moment ∷ past) spec (open_asks past spec lawful.1 (asked_before (Expire number leg moment) past spec refl asks) (none_both _ _ open').0).not_at_once asks (none_both _ _ open').1
  open_asks (Fault server link moment ∷ past) spec lawful asks open' =
      by_search (Fault server link moment ∷ past) spec (open_asks past spec lawful.1 (asked_before (Fault server link moment) past spec refl asks) (none_both _ _ open').0).not_at_once asks (none_both _ _ open').1
  open_asks (Servers list ∷ past) spec lawful asks open' =
      stays_asking (Servers list) past spec (λ k. set-end setting list past (leg_of request k))
      (open_asks past spec lawful.1 (asked_before (Servers list) past spec refl asks) (none_both _ _ open').0)
