-- Where each candidate of a request has one leg, the entry that ends a leg with a status at which a search doesn't go on completes the request.
use Rattle.std.proofs.Common.{ap, arith, eq-eqb, subst, sym, true≢false, ◌∙◌}
use Rattle.std.specs.List.{AllByRecursion}
use Rattle.std.specs.Prelude.{Bool, IsTrue, List, None, Option, Some, [], cond, false, filter, is_none, map, option_and_then, option_map, refl, true, ℕ, ◌==◌, ◌∷◌, ◌≡◌, ◌≤◌}
use Rattle.chan_types.specs.Statuses.{code_of}
use Rattle.chan_types.specs.declared.answer.Answer.{Answer}
use Rattle.chan_types.specs.declared.journal.What.{What}
use Rattle.chan_types.specs.declared.journal.What.TheVariants.{Accept, Arrive, Cancel, Destroy, Expire, Fault, Servers, Start, Take}
use Rattle.chan_types.specs.declared.spec.Spec.{Spec}
use Rattle.chan_types.specs.declared.status.Status.{Status}
use Rattle.chan_types.specs.declared.status.Status.TheVariants.{Cancelled, ConnRefused, Destruction, TimedOut}
use Rattle.dns_message.specs.declared.name.Name.{Name}
use Rattle.channel_model.proofs.CountLemmas.{occurrences-filter}
use Rattle.channel_model.proofs.ListLemmas.{each-any, each-filter, each-flat_map, each-then, first_of, none_is_some}
use Rattle.channel_model.proofs.Theorems.{flies_by_position, flight-leg, spec_of-later, start_allowed}
use Rattle.channel_model.specs.AtOnce.{at_once}
use Rattle.channel_model.specs.Completion.{completed_by, fate, is_idle, is_open, legs_at, occurrences, pending, requests, waiting, waiting_of}
use Rattle.channel_model.specs.Flight.{Attempt, flight}
use Rattle.channel_model.specs.InFlight.{IsInFlight}
use Rattle.channel_model.specs.Journal.{Past, spec_of}
use Rattle.channel_model.specs.Lawful.{IsLawfulPast}
use Rattle.channel_model.specs.LegEnd.{LegEnd, leg_end}
use Rattle.channel_model.specs.Legs.{Leg, leg_of, legs_of}
use Rattle.channel_model.specs.Merge.{bare, same_status}
use Rattle.channel_model.specs.Questions.{candidates_of}
use Rattle.channel_model.specs.Search.{Stand, answer_at, answer_of_search, any_empty, asking, goes_on, last_answer, over, search_answer, stand_at, stand_of}
use Rattle.channel_model.specs.Setting.{Setting}
use Rattle.status_laws.proofs.CauseLemmas.{cause_of}
use Rattle.status_laws.proofs.EntryLemmas.{completed, completed_since, lawful_before}
use Rattle.status_laws.proofs.LegLemmas.{ended-one}
use Rattle.status_laws.proofs.LoneLemmas.{lone, over_at}
use Rattle.status_laws.proofs.PositionLemmas.{behind, kept}
use Rattle.status_laws.proofs.StatusLemmas.{at_once_says, is_of_accept}
use Rattle.status_laws.specs.Causes.{EndsLeg, end_with, has_lone_legs}
use Rattle.status_laws.specs.Positions.{Completes, IsPending, StandsAt}

-- each item of a list of one is that one
only : (ks : List ℕ) → AllByRecursion (λ k. (x : ℕ) → ks ≡ x ∷ [] → k ≡ x) ks
only [] = tt
only (a ∷ []) = (λ x e. cc, tt)
only (a ∷ b ∷ ks) = each-any (λ k. (x : ℕ) → (a ∷ b ∷ ks) ≡ x ∷ [] → k ≡ x) (a ∷ b ∷ ks) (λ k x e. absurd cc)

-- what follows of each item holds of what a function makes of it
each_made : {X Y : Type 0} (P : X → Type 0) (Q : Y → Type 0) (f : X → Y) (xs : List X) → ((x : X) → P x → Q (f x)) → AllByRecursion P xs
    → AllByRecursion Q (map f xs)
each_made P Q f [] made each = tt
each_made P Q f (x ∷ xs) made each = (made x each.0, each_made P Q f xs made each.1)

-- two values of one optional value are one
some_same : {A : Type 0} {x y : A} → ◌≡◌ {A = Option A} (Some x) (Some y) → x ≡ y
some_same e = cc

-- a status is itself
same_itself : (status : Status) → same_status status status ≡ true
same_itself status = eq-eqb (code_of status) (code_of status) refl

module _ (setting : Setting) (request : ℕ) where
  -- a leg that waits is one of the candidate at which its request's search stands
  abbrev IsAsked : Past → Leg → Type 0
  IsAsked past leg = (spec : Spec) × (spec_of leg.request past ≡ Some spec)
      × ((k : ℕ → ℕ) → ((c : ℕ) → legs_of spec c ≡ k c ∷ []) → (c : ℕ) × (stand_of setting leg.request spec past ≡ asking c) × (leg.number ≡ k c))

  each_asked : (past : Past) → AllByRecursion (IsAsked past) (waiting setting past)
  each_asked past =
      each-flat_map (λ n. n ≡ n) (IsAsked past) (waiting_of setting past) (pending setting past) (λ n _. of_request n (spec_of n past) refl)
      (each-any (λ n. n ≡ n) (pending setting past) (λ _. refl))
    where
      at_stand : (n : ℕ) (spec : Spec) → spec_of n past ≡ Some spec → (stand : Stand) → stand_of setting n spec past ≡ stand
          → AllByRecursion (IsAsked past) (legs_at setting n spec stand)
      at_stand n spec is (asking c) stands =
          each_made (λ k. (x : ℕ) → legs_of spec c ≡ x ∷ [] → k ≡ x) (IsAsked past) (leg_of n) (legs_of spec c)
          (λ k own. (spec, is, λ leg alone. (c, stands, own (leg c) (alone c)))) (only (legs_of spec c))
      at_stand n spec is (over answer) stands = tt

      of_request : (n : ℕ) (o : Option Spec) → spec_of n past ≡ o → AllByRecursion (IsAsked past) (waiting_of setting past n)
      of_request n None is = rw is tt
      of_request n (Some spec) is = rw is
          (each-then (λ (leg : Leg). (is_idle setting past leg ≡ true) × IsAsked past leg) (IsAsked past)
          (filter (is_idle setting past) (legs_at setting n spec (stand_of setting n spec past)))
          (λ leg h. h.1)
          (each-filter (IsAsked past) (is_idle setting past) (legs_at setting n spec (stand_of setting n spec past))
          (at_stand n spec is (stand_of setting n spec past) refl)))

  -- a pending request has no answer
  pending_open : (past : Past) → IsPending setting request past → fate setting request past ≡ None
  pending_open past pends = by_fate (fate setting request past) refl
      (subst (λ (n : ℕ). 1 ≤ n) (occurrences-filter (is_open setting past) request (requests past)) pends)
    where
      by_fate : (o : Option Answer) → fate setting request past ≡ o → 1 ≤ cond (is_none o) (occurrences request (requests past)) 0 → o ≡ None
      by_fate None is some = refl
      by_fate (Some a) is some = absurd (omega (arith, some))

  -- a search that is over has a candidate
  some_name : (past : Past) (spec : Spec) (answer : Answer) → spec_of request past ≡ Some spec
      → search_answer setting request past ≡ Some answer → (name : Name) × (names : List Name) × (candidates_of setting spec ≡ name ∷ names)
  some_name past spec answer asks e =
      by_names (candidates_of setting spec) refl (sym (ap (option_and_then (answer_of_search setting request past)) asks) ∙ e)
    where
      by_names : (ns : List Name) → candidates_of setting spec ≡ ns
          → option_map (last_answer (any_empty setting request spec past 0 ns)) (answer_at (stand_at setting request spec past 0 ns)) ≡ Some answer
          → (name : Name) × (names : List Name) × (candidates_of setting spec ≡ name ∷ names)
      by_names [] is e = none_is_some answer e
      by_names (name ∷ names) is e = (name, names, is)

  module _ (answer : Answer) (past : Past) (lawful : IsLawfulPast setting past) (fated : fate setting request past ≡ Some answer) (spec : Spec)
      (asks : spec_of request past ≡ Some spec) (one : IsTrue (has_lone_legs spec)) where
    -- what was asked at an entry was asked ever since
    asked_same : (what : What) (before : Past) (other : Spec) → StandsAt what before past → spec_of request before ≡ Some other → other ≡ spec
    asked_same what before other stands is =
        some_same (sym
        (kept (λ (p : Past). spec_of request p ≡ Some other) what before past stands (λ x p e. spec_of-later request x p other e)
        (spec_of-later request what before other is)) ∙ asks)

    -- a search that is over gives an answer
    over_gives : (now : Past) (a : Answer) → spec_of request now ≡ Some spec → answer_at (stand_of setting request spec now) ≡ Some a
        → search_answer setting request now ≡ Some (last_answer (any_empty setting request spec now 0 (candidates_of setting spec)) a)
    over_gives now a is stands =
        ap (option_and_then (answer_of_search setting request now)) is
        ∙ ap (option_map (last_answer (any_empty setting request spec now 0 (candidates_of setting spec)))) stands

    -- what an entry gave a request that had no answer is its answer
    of_fate : (given : Answer) (what : What) (before : Past) → StandsAt what before past → IsPending setting request before
        → completed_by setting request what before ≡ Some given → Completes setting request answer what before
    of_fate given what before stands pends by =
        let done : Completes setting request given what before = record { open' = pending_open before pends; given = by } in
        let same : given ≡ answer = some_same (sym (completed_since setting request given past what before stands done) ∙ fated) in
        subst (λ (x : Answer). Completes setting request x what before) same done

    -- the search asks a candidate of which a leg ended so, and so it is over
    over_behind : (name : Name) (names : List Name) → candidates_of setting spec ≡ name ∷ names → (number : ℕ) (end : LegEnd) → goes_on end.status ≡ false
        → (start : What) (older now : Past) → StandsAt start older now → spec_of request older ≡ Some spec
        → ((k : ℕ → ℕ) → ((c : ℕ) → legs_of spec c ≡ k c ∷ []) → (c : ℕ) × (stand_of setting request spec older ≡ asking c) × (number ≡ k c))
        → leg_end setting (leg_of request number) now ≡ Some end
        → (a : Answer) × (search_answer setting request now ≡ Some a)
    over_behind name names are number end stops start older now stands asks_then asked ended =
        let l = lone setting request spec one in
        let current = asked l.leg l.alone in
        let over_now = over_at setting request spec l older now
        (λ k x is. kept (λ (p : Past). leg_end setting (leg_of request k) p ≡ Some x) start older now stands
        (ended-one setting (leg_of request k) x) (ended-one setting (leg_of request k) x start older is))
        current.0 end (subst (λ (k : ℕ). leg_end setting (leg_of request k) now ≡ Some end) current.2 ended) stops 0 name names
        (subst (λ (ns : List Name). stand_at setting request spec older 0 ns ≡ asking current.0) are current.1) in
        let asks_now : spec_of request now ≡ Some spec =
        kept (λ (p : Past). spec_of request p ≡ Some spec) start older now stands (λ x p s. spec_of-later request x p spec s)
        (spec_of-later request start older spec asks_then) in
        let stands_now : answer_at (stand_of setting request spec now) ≡ Some over_now.0 =
        ap (λ (ns : List Name). answer_at (stand_at setting request spec now 0 ns)) are ∙ over_now.1 in
        (last_answer (any_empty setting request spec now 0 (candidates_of setting spec)) over_now.0, over_gives now over_now.0 asks_now stands_now)

    -- the entry that ended the leg completed the request
    completes : (name : Name) (names : List Name) → candidates_of setting spec ≡ name ∷ names → (number : ℕ) (end : LegEnd) (what : What) (before : Past)
        → EndsLeg setting request number end what before past → goes_on end.status ≡ false
        → completed_by setting request what before ≡ search_answer setting request (what ∷ before) → Completes setting request answer what before
    completes name names are number end what before e stops by =
        by_start e.ends.attempt e.ends.flies (flies_by_position setting before (leg_of request number) e.ends.attempt e.ends.flies)
      where
        by_start : (a : Attempt) → flight setting (leg_of request number) before ≡ Some a → IsInFlight setting a before
            → Completes setting request answer what before
        by_start a flies at =
            let whole : StandsAt at.start at.older (what ∷ before) = behind what at.start at.older before (record { newer = at.newer; parts = at.parts }) in
            let since : StandsAt at.start at.older past = kept (StandsAt at.start at.older) what before past e.stands
            (λ x p s. behind x at.start at.older p s) whole in
            let allowed = (lawful_before setting request at.start at.older past since lawful).0 in
            let asked : IsAsked at.older (leg_of request number) = subst (IsAsked at.older) (sym (flight-leg setting (leg_of request number) before a flies))
            (first_of (IsAsked at.older) (waiting setting at.older) a.leg (each_asked at.older)
            (start_allowed setting at.older at.start a allowed at.begun).waits) in
            by_asked at.start at.older whole since asked
          where
            by_asked : (start : What) (older : Past) → StandsAt start older (what ∷ before) → StandsAt start older past
                → IsAsked older (leg_of request number) → Completes setting request answer what before
            by_asked start older whole since asked =
                let same : asked.0 ≡ spec = asked_same start older asked.0 since asked.1 in
                let gives = over_behind name names are number end stops start older (what ∷ before) whole
                (subst (λ (s : Spec). spec_of request older ≡ Some s) same asked.1)
                (subst (λ (s : Spec). (k : ℕ → ℕ) → ((c : ℕ) → legs_of s c ≡ k c ∷ []) → (c : ℕ) × (stand_of setting request s older ≡ asking c)
                × (number ≡ k c)) same asked.2)
                e.ends.ended in
                of_fate gives.0 what before e.stands e.pends (by ∙ gives.1)

    -- an answer that came by no Accept, Cancel or Destroy came by a search
    searched_name : is_of_accept answer.status ≡ false → same_status Cancelled answer.status ≡ false
        → same_status Destruction answer.status ≡ false → (name : Name) × (names : List Name) × (candidates_of setting spec ≡ name ∷ names)
    searched_name not_accept not_cancel not_destroy =
        let c = completed setting request answer past fated in
        by_kind c.0 c.1 c.2 c.3.given
      where
        by_search : (what : What) (before : Past) → StandsAt what before past → search_answer setting request (what ∷ before) ≡ Some answer
            → (name : Name) × (names : List Name) × (candidates_of setting spec ≡ name ∷ names)
        by_search what before stands e = by_spec (spec_of request (what ∷ before)) refl e
          where
            by_spec : (o : Option Spec) → spec_of request (what ∷ before) ≡ o
                → option_and_then (answer_of_search setting request (what ∷ before)) o ≡ Some answer → (name : Name) × (names : List Name)
                × (candidates_of setting spec ≡ name ∷ names)
            by_spec None is e = none_is_some answer e
            by_spec (Some other) is answered =
                let same : other ≡ spec = some_same
                (sym (kept (λ (p : Past). spec_of request p ≡ Some other) what before past stands
                (λ x p s. spec_of-later request x p other s) is) ∙ asks) in
                some_name (what ∷ before) spec answer (is ∙ ap Some same) e

        by_status : (status : Status) (o : Option Spec) → option_map (λ (s : Spec). bare request status []) o ≡ Some answer
            → same_status status answer.status ≡ false → ⊥
        by_status status None e apart = none_is_some answer e
        by_status status (Some s) e apart =
            let same : bare request status [] ≡ answer = cc in
            true≢false (sym (same_itself status) ∙ ap (λ (x : Answer). same_status status x.status) same ∙ apart)

        by_kind : (what : What) (before : Past) → StandsAt what before past → completed_by setting request what before ≡ Some answer
            → (name : Name) × (names : List Name) × (candidates_of setting spec ≡ name ∷ names)
        by_kind (Accept number s script) before stands given = by_test (number == request) given
          where
            by_test : (b : Bool) → cond b (at_once setting request s) None ≡ Some answer → (name : Name) × (names : List Name)
                × (candidates_of setting spec ≡ name ∷ names)
            by_test true e = absurd (true≢false (sym (at_once_says setting request s answer e).0 ∙ not_accept))
            by_test false e = none_is_some answer e
        by_kind Cancel before stands given = absurd (by_status Cancelled (spec_of request before) given not_cancel)
        by_kind Destroy before stands given = absurd (by_status Destruction (spec_of request before) given not_destroy)
        by_kind (Take number) before stands given = none_is_some answer given
        by_kind (Start number k server link id mix moment) before stands given = none_is_some answer given
        by_kind (Arrive server link bytes) before stands given = by_search (Arrive server link bytes) before stands given
        by_kind (Expire number k moment) before stands given = by_search (Expire number k moment) before stands given
        by_kind (Fault server link moment) before stands given = by_search (Fault server link moment) before stands given
        by_kind (Servers list) before stands given = none_is_some answer given

    -- TimedOut came with the Expire of its leg
    pub timed_out_completes : answer.status ≡ TimedOut → (number moment : ℕ) × (before : Past)
        × EndsLeg setting request number (end_with TimedOut []) (Expire request number moment) before past
        × Completes setting request answer (Expire request number moment) before
    timed_out_completes is =
        let n = searched_name (rw is refl) (rw is refl) (rw is refl) in
        let x = cause_of setting request TimedOut answer past lawful fated is in
        (x.0, x.1, x.2, x.3, completes n.0 n.1 n.2 x.0 _ _ x.2 x.3 refl refl)

    -- and ConnRefused with the Fault of its link
    pub refused_completes : answer.status ≡ ConnRefused → (number server link moment : ℕ) × (before : Past)
        × EndsLeg setting request number (end_with ConnRefused []) (Fault server link moment) before past
        × Completes setting request answer (Fault server link moment) before
    refused_completes is =
        let n = searched_name (rw is refl) (rw is refl) (rw is refl) in
        let x = cause_of setting request ConnRefused answer past lawful fated is in
        (x.0, x.1, x.2, x.3, x.4, x.5, completes n.0 n.1 n.2 x.0 _ _ x.4 x.5 refl refl)
