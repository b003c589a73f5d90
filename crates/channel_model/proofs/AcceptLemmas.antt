-- What an Accept does: its request has a number that nothing in the past is about.
use Rattle.std.proofs.Common.{◌≡◌, ◌∙◌, ℕ, ◌+◌, ◌≤◌, suc, Bool, true, false, List, [], ◌∷◌, ◌++◌, Option, Some, None, refl, ap, ap₂, sym, subst, map, cond, arith, length, ⊎_elim, eq-eqb, ne_eqb, true≢false}
use Rattle.std.proofs.lemmas.List.{map-append}
use Rattle.std.proofs.lemmas.List.Elements.{filter-append}
use Rattle.std.specs.List.{AllByRecursion, range_with_len}
use Rattle.std.specs.Option.{option_or}
use Rattle.std.specs.Prelude.{◌==◌, filter, find, is_none, is_some, option_to_list}
use Rattle.chan_types.specs.declared.answer.Answer.{Answer}
use Rattle.chan_types.specs.declared.journal.What.{What}
use Rattle.chan_types.specs.declared.journal.What.TheVariants.{Accept}
use Rattle.chan_types.specs.declared.script.Script.{Script}
use Rattle.chan_types.specs.declared.spec.Spec.{Spec}
use Rattle.channel_model.proofs.CompletionLemmas.{asked_once, completed_asked, filter_none, requests_numbered}
use Rattle.channel_model.proofs.CountLemmas.{occurrences-append, occurrences_run, run-push}
use Rattle.channel_model.proofs.FlightLemmas.{flight-cases}
use Rattle.channel_model.proofs.LawfulLemmas.{legs_of_request, start_allowed}
use Rattle.channel_model.proofs.ListLemmas.{each-any, each-filter, each-flat_map, each-then, first_of, none_is_some}
use Rattle.channel_model.specs.AtOnce.{at_once}
use Rattle.channel_model.specs.Completion.{completed_at, completed_by, fate, is_idle, is_open, legs_at, occurrences, pending, ready, requests, waiting, waiting_of}
use Rattle.channel_model.specs.Flight.{Attempt, flight}
use Rattle.channel_model.specs.Journal.{Accepted, Past, accepted, accepted_by, request_of, spec_of}
use Rattle.channel_model.specs.Lawful.{IsLawfulPast}
use Rattle.channel_model.specs.Legs.{Leg, leg_of}
use Rattle.channel_model.specs.Past.{closings}
use Rattle.channel_model.specs.Search.{stand_of}
use Rattle.channel_model.specs.Setting.{Setting}

-- the accepted numbers behind one more entry are those before and its own
requests-more : (number : ℕ) (what : What) (past : Past) → occurrences number (requests past) ≤ occurrences number (requests (what ∷ past))
requests-more number what past =
    omega (
      arith,
      ap (occurrences number) (map-append (λ (r : Accepted). r.number) (accepted past) (option_to_list (accepted_by what))),
      occurrences-append number (requests past) (map (λ (r : Accepted). r.number) (option_to_list (accepted_by what))),
    )

-- the next number wasn't accepted yet
pub next_unasked : (setting : Setting) (past : Past) → IsLawfulPast setting past → occurrences (length (accepted past) + 1) (requests past) ≡ 0
next_unasked setting past lawful = rw (requests_numbered setting past lawful) (behind_run (length (accepted past)) (length (accepted past) + 1) (omega arith))
  where
    behind_run : (len number : ℕ) → number ≡ 1 + len → occurrences number (range_with_len 1 len) ≡ 0
    behind_run len number is =
        let few : occurrences number (range_with_len 1 (suc len)) ≤ 1 = occurrences_run number 1 (suc len) in
        let own : occurrences number ((1 + len) ∷ []) ≡ 1 = rw (eq-eqb (1 + len) number (sym is)) refl in
        omega (arith, few, own, ap (occurrences number) (run-push 1 len), occurrences-append number (range_with_len 1 len) ((1 + len) ∷ []))

module _ (setting : Setting) where
  -- a leg that waits is one of an accepted request
  pub asked_waits : (past : Past) → AllByRecursion (λ (leg : Leg). 1 ≤ occurrences leg.request (requests past)) (waiting setting past)
  asked_waits past =
      each-flat_map (λ n. n ≡ n) (λ (leg : Leg). 1 ≤ occurrences leg.request (requests past)) (waiting_of setting past) (pending setting past) (λ n _. of_request n (spec_of n past) refl)
      (each-any (λ n. n ≡ n) (pending setting past) (λ _. refl))
    where
      of_request : (n : ℕ) (o : Option Spec) → spec_of n past ≡ o → AllByRecursion (λ (leg : Leg). 1 ≤ occurrences leg.request (requests past)) (waiting_of setting past n)
      of_request n None is = rw is tt
      of_request n (Some spec) is = rw is
          (each-then (λ (leg : Leg). (is_idle setting past leg ≡ true) × (leg.request ≡ n)) (λ (leg : Leg). 1 ≤ occurrences leg.request (requests past)) (filter (is_idle setting past) (legs_at setting n spec (stand_of setting n spec past)))
          (λ leg h. subst (λ r. 1 ≤ occurrences r (requests past)) (sym h.1) (asked_once setting n past spec is))
          (each-filter (λ (leg : Leg). leg.request ≡ n) (is_idle setting past) (legs_at setting n spec (stand_of setting n spec past)) (legs_of_request setting past n spec (stand_of setting n spec past))))

  -- a request that wasn't accepted has no answer
  pub unasked_fate : (request : ℕ) (past : Past) → occurrences request (requests past) ≡ 0 → fate setting request past ≡ None
  unasked_fate request [] none = refl
  unasked_fate request (what ∷ past) none =
      rw (unasked_fate request past (omega (arith, none, requests-more request what past))) (by_this (completed_by setting request what past) refl)
    where
      by_this : (o : Option Answer) → completed_by setting request what past ≡ o → o ≡ None
      by_this None is = refl
      by_this (Some answer) is = absurd (omega (arith, none, completed_asked setting request what past answer is))

  -- and its legs have no attempt and no closing
  pub unasked_flight : (request k : ℕ) (past : Past) → IsLawfulPast setting past → occurrences request (requests past) ≡ 0 → flight setting (leg_of request k) past ≡ None
  unasked_flight request k [] lawful none = refl
  unasked_flight request k (what ∷ past) lawful none =
      by_flight (omega (arith, none, requests-more request what past)) (flight setting (leg_of request k) (what ∷ past)) refl (unasked_flight request k past lawful.1 (omega (arith, none, requests-more request what past)))
    where
      by_flight : occurrences request (requests past) ≡ 0 → (o : Option Attempt) → flight setting (leg_of request k) (what ∷ past) ≡ o → flight setting (leg_of request k) past ≡ None → o ≡ None
      by_flight before None is was = refl
      by_flight before (Some a) is was = ⊎_elim
          (λ h. let asked : 1 ≤ occurrences a.leg.request (requests past) = first_of (λ (leg : Leg). 1 ≤ occurrences leg.request (requests past)) (waiting setting past) a.leg (asked_waits past) (start_allowed setting past what a lawful.0 h.0).waits in
          let same : a.leg.request ≡ request = ap (λ (l : Leg). l.request) (sym h.1) in
          let own : 1 ≤ occurrences request (requests past) = subst (λ r. 1 ≤ occurrences r (requests past)) same asked in
          absurd (omega (arith, before, own)))
          (λ h. none_is_some a (sym was ∙ h.0))
          (flight-cases setting (leg_of request k) what past a is)

  pub unasked_closings : (request k : ℕ) (past : Past) → IsLawfulPast setting past → occurrences request (requests past) ≡ 0 → closings setting (leg_of request k) past ≡ []
  unasked_closings request k [] lawful none = refl
  unasked_closings request k (what ∷ past) lawful none =
      let before : occurrences request (requests past) ≡ 0 = omega (arith, none, requests-more request what past) in
      rw (unasked_flight request k past lawful.1 before) (unasked_closings request k past lawful.1 before)

-- a number that doesn't stand in a list is apart from each of it
apart : (number : ℕ) (numbers : List ℕ) → occurrences number numbers ≡ 0 → AllByRecursion (λ n. (number == n) ≡ false) numbers
apart number [] none = tt
apart number (n ∷ numbers) none = by_test (n == number) refl none (apart number numbers)
  where
    by_test : (b : Bool) → (n == number) ≡ b → cond b (occurrences number numbers + 1) (occurrences number numbers) ≡ 0 → (occurrences number numbers ≡ 0 → AllByRecursion (λ m. (number == m) ≡ false) numbers)
        → ((number == n) ≡ false) × AllByRecursion (λ m. (number == m) ≡ false) numbers
    by_test true is none rest = absurd (omega (arith, none))
    by_test false is none rest = (ne_eqb number n (λ e. true≢false (sym (eq-eqb n number (sym e)) ∙ is)), rest none)

filter-where : (p q : ℕ → Bool) (xs : List ℕ) → AllByRecursion (λ x. p x ≡ q x) xs → filter p xs ≡ filter q xs
filter-where p q [] each = refl
filter-where p q (x ∷ xs) each = rw (each.0, filter-where p q xs each.1) refl

find-none : (number : ℕ) (all : List Accepted) → occurrences number (map (λ (r : Accepted). r.number) all) ≡ 0 → find (λ (r : Accepted). r.number == number) all ≡ None
find-none number [] none = refl
find-none number (r ∷ all) none = by_test (r.number == number) none (find-none number all)
  where
    by_test : (b : Bool) → cond b (occurrences number (map (λ (q : Accepted). q.number) all) + 1) (occurrences number (map (λ (q : Accepted). q.number) all)) ≡ 0
        → (occurrences number (map (λ (q : Accepted). q.number) all) ≡ 0 → find (λ (q : Accepted). q.number == number) all ≡ None) → cond b (Some r) (find (λ (q : Accepted). q.number == number) all) ≡ None
    by_test true none rest = absurd (omega (arith, none))
    by_test false none rest = rest none

find-append : {X : Type 0} (test : X → Bool) (xs ys : List X) → find test xs ≡ None → find test (xs ++ ys) ≡ find test ys
find-append test [] ys none = refl
find-append {X} test (x ∷ xs) ys none = by_test (test x) none (find-append test xs ys)
  where
    by_test : (b : Bool) → cond b (Some x) (find test xs) ≡ None → (find test xs ≡ None → find test (xs ++ ys) ≡ find test ys) → cond b (Some x) (find test (xs ++ ys)) ≡ find test ys
    by_test true e rest = absurd cc
    by_test false e rest = rest e

-- the new request where it isn't answered at once
abbrev pub new_if_none : Option Answer → ℕ → List ℕ
new_if_none None number = number ∷ []
new_if_none (Some answer) number = []

-- the new request where it is answered at once
abbrev pub new_if_some : Option Answer → ℕ → List ℕ
new_if_some None number = []
new_if_some (Some answer) number = number ∷ []

module _ (setting : Setting) (past : Past) (number : ℕ) (spec : Spec) (script : Script) (new : occurrences number (requests past) ≡ 0) where
  -- its request is the accepted one of this number
  pub accept-request : request_of number (Accept number spec script ∷ past) ≡ Some (record { number = number; spec = spec; script = script })
  accept-request = find-append (λ (r : Accepted). r.number == number) (accepted past) _ (find-none number (accepted past) new) ∙ rw (eq-eqb number number refl) refl

  -- its number stands behind those of the others
  pub accept-requests : requests (Accept number spec script ∷ past) ≡ requests past ++ number ∷ []
  accept-requests = map-append (λ (r : Accepted). r.number) (accepted past) _

  completes_own : completed_by setting number (Accept number spec script) past ≡ at_once setting number spec
  completes_own = rw (eq-eqb number number refl) refl

  others : AllByRecursion (λ n. completed_by setting n (Accept number spec script) past ≡ None) (requests past)
  others = each-then (λ n. (number == n) ≡ false) (λ n. completed_by setting n (Accept number spec script) past ≡ None) (requests past) (λ n e. rw e refl) (apart number (requests past) new)

  -- its answer is what it gets at once
  pub accept-fate : fate setting number (Accept number spec script ∷ past) ≡ at_once setting number spec
  accept-fate = rw (unasked_fate setting number past new) completes_own

  -- the pending requests are those before, and the new one where it isn't answered at once
  pub accept-pending : pending setting (Accept number spec script ∷ past) ≡ pending setting past ++ new_if_none (at_once setting number spec) number
  accept-pending =
      ap (filter (is_open setting (Accept number spec script ∷ past))) accept-requests
      ∙ filter-append (is_open setting (Accept number spec script ∷ past)) (requests past) (number ∷ [])
      ∙ ap₂ (λ xs ys. xs ++ ys)
      (filter-where (is_open setting (Accept number spec script ∷ past)) (is_open setting past) (requests past) (each-then (λ n. completed_by setting n (Accept number spec script) past ≡ None) (λ n. is_open setting (Accept number spec script ∷ past) n ≡ is_open setting past n) (requests past) (λ n e. rw e (same (fate setting n past))) others))
      (ap (λ (o : Option Answer). cond (is_none o) (number ∷ []) []) accept-fate ∙ own (at_once setting number spec))
    where
      same : (o : Option Answer) → is_none (option_or o None) ≡ is_none o
      same None = refl
      same (Some a) = refl

      own : (o : Option Answer) → cond (is_none o) (number ∷ []) [] ≡ new_if_none o number
      own None = refl
      own (Some a) = refl

  -- and it completes the new one where it is
  pub accept-completed : completed_at setting (Accept number spec script) past ≡ new_if_some (at_once setting number spec) number
  accept-completed =
      ap (λ numbers. filter (λ n. is_some (completed_by setting n (Accept number spec script) past)) (filter (is_open setting past) numbers)) accept-requests
      ∙ ap (filter (λ n. is_some (completed_by setting n (Accept number spec script) past))) (filter-append (is_open setting past) (requests past) (number ∷ []))
      ∙ filter-append (λ n. is_some (completed_by setting n (Accept number spec script) past)) (filter (is_open setting past) (requests past)) (filter (is_open setting past) (number ∷ []))
      ∙ ap₂ (λ xs ys. xs ++ ys)
      (filter_none (λ n. is_some (completed_by setting n (Accept number spec script) past)) (filter (is_open setting past) (requests past))
      (each-then (λ n. (is_open setting past n ≡ true) × (completed_by setting n (Accept number spec script) past ≡ None)) (λ n. is_some (completed_by setting n (Accept number spec script) past) ≡ false) (filter (is_open setting past) (requests past)) (λ n h. rw h.1 refl)
      (each-filter (λ n. completed_by setting n (Accept number spec script) past ≡ None) (is_open setting past) (requests past) others)))
      (rw (unasked_fate setting number past new, completes_own) (own (at_once setting number spec)))
    where
      own : (o : Option Answer) → cond (is_some o) (number ∷ []) [] ≡ new_if_some o number
      own None = refl
      own (Some a) = refl

  -- so that it is ready behind the others
  pub accept-ready : ready setting (Accept number spec script ∷ past) ≡ ready setting past ++ new_if_some (at_once setting number spec) number
  accept-ready = ap (λ numbers. ready setting past ++ numbers) accept-completed
