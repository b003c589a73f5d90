-- When requests complete: each once, cancelled ones all together, and those that are ready are those that weren't taken.
use Rattle.std.proofs.Common.{arith, length-append, ◌∙◌, ap₂, sym, ap, ⊎_elim, subst, eq-eqb, true≢false}
use Rattle.std.proofs.lemmas.Bool.{cases_Bool, cond_both}
use Rattle.std.proofs.lemmas.List.{map-append}
use Rattle.std.specs.List.{range_with_len, AllByRecursion}
use Rattle.std.specs.Option.{option_or}
use Rattle.std.specs.Prelude.{IfSome, ◌≡◌, length, ◌+◌, List, Option, map, ◌++◌, option_to_list, None, Some, suc, ◌∷◌, [], refl, ℕ, find, ◌==◌, ◌≤◌, cond, option_map, option_and_then, true, is_some, is_none, filter, Bool, false, IsTrue, if◌then◌else◌}
use mathlib.Core.List.{append-nil, append_assoc}
use Rattle.chan_types.specs.declared.answer.Answer.{Answer}
use Rattle.chan_types.specs.declared.journal.Entry.{Entry}
use Rattle.chan_types.specs.declared.journal.What.{What}
use Rattle.chan_types.specs.declared.journal.What.TheVariants.{Accept, Cancel, Destroy, Take, Start, Arrive, Expire, Fault, Servers}
use Rattle.chan_types.specs.declared.script.Script.{Script}
use Rattle.chan_types.specs.declared.spec.Spec.{Spec}
use Rattle.chan_types.specs.declared.status.Status.TheVariants.{Cancelled, Destruction}
use Rattle.channel_model.proofs.CountLemmas.{run-push, occurrences-append, occurrences_run, occurrences-filter, no_choice}
use Rattle.channel_model.proofs.LawfulLemmas.{none_says}
use Rattle.channel_model.proofs.ListLemmas.{none_is_some, each-any, each-then, each-filter}
use Rattle.channel_model.specs.AtOnce.{at_once}
use Rattle.channel_model.specs.Completion.{requests, occurrences, completed_by, fate, completed_at, is_open, completions, without, taken_by, ready, left_by, taken, pending}
use Rattle.channel_model.specs.Journal.{Past, accepted_by, accepted, Accepted, request_of, spec_of, past_of}
use Rattle.channel_model.specs.Lawful.{IsAllowed, IsLawfulPast, first, IsLawful}
use Rattle.channel_model.specs.Merge.{bare}
use Rattle.channel_model.specs.Search.{answer_of_search}
use Rattle.channel_model.specs.Setting.{Setting}

module _ (setting : Setting) where
  -- an accepted request has the next number
  accept_numbered : (past : Past) (what : What) → IsAllowed setting past what → IfSome (accepted_by what) (λ request. request.number ≡ length (accepted past) + 1)
  accept_numbered past (Accept number spec script) allowed = allowed.1
  accept_numbered past Cancel allowed = tt
  accept_numbered past Destroy allowed = tt
  accept_numbered past (Take number) allowed = tt
  accept_numbered past (Start number leg server link id mix moment) allowed = tt
  accept_numbered past (Arrive server link bytes) allowed = tt
  accept_numbered past (Expire number leg moment) allowed = tt
  accept_numbered past (Fault server link moment) allowed = tt
  accept_numbered past (Servers list) allowed = tt

  numbers_more : (before : List Accepted) (more : Option Accepted) → map (λ request. request.number) before ≡ range_with_len 1 (length before) → IfSome more (λ request. request.number ≡ length before + 1)
      → map (λ request. request.number) (before ++ option_to_list more) ≡ range_with_len 1 (length (before ++ option_to_list more))
  numbers_more before None numbers next = rw append-nil numbers
  numbers_more before (Some request) numbers next =
      let number : request.number ≡ 1 + length before = omega (arith, next) in
      let longer : suc (length before) ≡ length (before ++ request ∷ []) = omega (arith, length-append before (request ∷ [])) in
      map-append (λ (r : Accepted). r.number) before (request ∷ [])
      ∙ ap₂ (λ ns n. ns ++ n ∷ []) numbers number
      ∙ sym (run-push 1 (length before)) ∙ ap (range_with_len 1) longer

  -- the accepted requests have the numbers from 1 on
  pub requests_numbered : (past : Past) → IsLawfulPast setting past → requests past ≡ range_with_len 1 (length (accepted past))
  requests_numbered [] lawful = refl
  requests_numbered (what ∷ past) lawful = numbers_more (accepted past) (accepted_by what) (requests_numbered past lawful.1) (accept_numbered past what lawful.0)

module _ (setting : Setting) (number : ℕ) where
  -- what is found in a list has its number there
  found_numbered : (all : List Accepted) (request : Accepted) → find (λ (r : Accepted). r.number == number) all ≡ Some request → 1 ≤ occurrences number (map (λ r. r.number) all)
  found_numbered [] request e = none_is_some request e
  found_numbered (r ∷ rest) request e = ⊎_elim
      (λ here. rw here (omega arith))
      (λ other. rw other (found_numbered rest request (subst (λ b. cond b (Some r) (find (λ (q : Accepted). q.number == number) rest) ≡ Some request) other e)))
      (cases_Bool (r.number == number))

  asked_if_found : (past : Past) (spec : Spec) (o : Option Accepted) → request_of number past ≡ o → option_map (λ r. r.spec) o ≡ Some spec → 1 ≤ occurrences number (requests past)
  asked_if_found past spec None is e = none_is_some spec e
  asked_if_found past spec (Some request) is e = found_numbered (accepted past) request is

  -- a request that asks something was accepted
  pub asked_once : (past : Past) (spec : Spec) → spec_of number past ≡ Some spec → 1 ≤ occurrences number (requests past)
  asked_once past spec e = asked_if_found past spec (request_of number past) refl e

  asked_by_spec : (past : Past) (o : Option Spec) (f : Spec → Option Answer) (answer : Answer) → spec_of number past ≡ o → option_and_then f o ≡ Some answer → 1 ≤ occurrences number (requests past)
  asked_by_spec past None f answer is e = none_is_some answer e
  asked_by_spec past (Some spec) f answer is e = asked_once past spec is

  asked_by_status : (past : Past) (o : Option Spec) (f : Spec → Answer) (answer : Answer) → spec_of number past ≡ o → option_map f o ≡ Some answer → 1 ≤ occurrences number (requests past)
  asked_by_status past None f answer is e = none_is_some answer e
  asked_by_status past (Some spec) f answer is e = asked_once past spec is

  -- the accepted numbers behind one more entry are those before, and its own
  requests-one : (what : What) (past : Past) → requests (what ∷ past) ≡ requests past ++ map (λ r. r.number) (option_to_list (accepted_by what))
  requests-one what past = map-append (λ (r : Accepted). r.number) (accepted past) (option_to_list (accepted_by what))

  asked_before : (what : What) (past : Past) → 1 ≤ occurrences number (requests past) → 1 ≤ occurrences number (requests (what ∷ past))
  asked_before what past asked =
      omega (arith, asked, ap (occurrences number) (requests-one what past), occurrences-append number (requests past) (map (λ r. r.number) (option_to_list (accepted_by what))))

  asked_now : (past : Past) (spec : Spec) (script : Script) (request : ℕ) → (request == number) ≡ true → 1 ≤ occurrences number (requests (Accept request spec script ∷ past))
  asked_now past spec script request same =
      let one : occurrences number (request ∷ []) ≡ 1 = rw same refl in
      omega (arith, one, ap (occurrences number) (requests-one (Accept request spec script) past), occurrences-append number (requests past) (request ∷ []))

  -- an entry completes accepted requests alone
  pub completed_asked : (what : What) (past : Past) (answer : Answer) → completed_by setting number what past ≡ Some answer → 1 ≤ occurrences number (requests (what ∷ past))
  completed_asked (Accept request spec script) past answer e = ⊎_elim
      (λ here. asked_now past spec script request here)
      (λ other. none_is_some answer (subst (λ b. cond b (at_once setting number spec) None ≡ Some answer) other e))
      (cases_Bool (request == number))
  completed_asked Cancel past answer e = asked_before Cancel past (asked_by_status past (spec_of number past) (λ spec. bare number Cancelled []) answer refl e)
  completed_asked Destroy past answer e = asked_before Destroy past (asked_by_status past (spec_of number past) (λ spec. bare number Destruction []) answer refl e)
  completed_asked (Take request) past answer e = none_is_some answer e
  completed_asked (Start request leg server link id mix moment) past answer e = none_is_some answer e
  completed_asked (Arrive server link bytes) past answer e =
      asked_by_spec (Arrive server link bytes ∷ past) _ (answer_of_search setting number (Arrive server link bytes ∷ past)) answer refl e
  completed_asked (Expire request leg moment) past answer e =
      asked_by_spec (Expire request leg moment ∷ past) _ (answer_of_search setting number (Expire request leg moment ∷ past)) answer refl e
  completed_asked (Fault server link moment) past answer e =
      asked_by_spec (Fault server link moment ∷ past) _ (answer_of_search setting number (Fault server link moment ∷ past)) answer refl e
  completed_asked (Servers list) past answer e = none_is_some answer e

  -- a number was accepted at most once
  pub asked_at_most_once : (past : Past) → IsLawfulPast setting past → occurrences number (requests past) ≤ 1
  asked_at_most_once past lawful = rw (requests_numbered setting past lawful) (occurrences_run number 1 (length (accepted past)))

  -- how often an entry completes a request, by its answers before and by the entry
  completed_count : (what : What) (past : Past) (before by : Option Answer) → fate setting number past ≡ before → completed_by setting number what past ≡ by
      → occurrences number (completed_at setting what past) ≡ cond (is_some by) (cond (is_none before) (occurrences number (requests (what ∷ past))) 0) 0
  completed_count what past before by is by_this =
      let asked : List ℕ = requests (what ∷ past) in
      occurrences-filter (λ r. is_some (completed_by setting r what past)) number (filter (is_open setting past) asked)
      ∙ ap₂ (λ b k. cond b k 0) (ap is_some by_this) (occurrences-filter (is_open setting past) number asked ∙ ap (λ b. cond (is_none b) (occurrences number asked) 0) is)

  completes_step : (what : What) (past : Past) (before by : Option Answer) → IsLawfulPast setting (what ∷ past) → fate setting number past ≡ before → completed_by setting number what past ≡ by
      → occurrences number (completions setting past) ≡ cond (is_some before) 1 0
      → occurrences number (completions setting (what ∷ past)) ≡ cond (is_some (option_or before by)) 1 0
  completes_step what past (Some a) by lawful is by_this so_far =
      let none : occurrences number (completed_at setting what past) ≡ 0 = completed_count what past (Some a) by is by_this ∙ no_choice (is_some by) in
      let all = occurrences-append number (completions setting past) (completed_at setting what past) in
      omega (arith, none, all, so_far)
  completes_step what past None None lawful is by_this so_far =
      let none : occurrences number (completed_at setting what past) ≡ 0 = completed_count what past None None is by_this in
      let all = occurrences-append number (completions setting past) (completed_at setting what past) in
      omega (arith, none, all, so_far)
  completes_step what past None (Some a) lawful is by_this so_far =
      let asked : occurrences number (completed_at setting what past) ≡ occurrences number (requests (what ∷ past)) = completed_count what past None (Some a) is by_this in
      let all = occurrences-append number (completions setting past) (completed_at setting what past) in
      omega (arith, asked, all, so_far, completed_asked what past a by_this, asked_at_most_once (what ∷ past) lawful)

  -- a request stands among the completed ones once where it has an answer, and else never
  pub completes_once : (past : Past) → IsLawfulPast setting past → occurrences number (completions setting past) ≡ cond (is_some (fate setting number past)) 1 0
  completes_once [] lawful = refl
  completes_once (what ∷ past) lawful =
      completes_step what past (fate setting number past) (completed_by setting number what past) lawful refl refl (completes_once past lawful.1)

-- what a test passes everywhere it leaves as it is
pub filter_all : {X : Type 0} (test : X → Bool) (xs : List X) → AllByRecursion (λ x. test x ≡ true) xs → filter test xs ≡ xs
filter_all test [] each = refl
filter_all test (x ∷ xs) each = rw (each.0, filter_all test xs each.1) refl

-- and what it passes nowhere it leaves empty
pub filter_none : {X : Type 0} (test : X → Bool) (xs : List X) → AllByRecursion (λ x. test x ≡ false) xs → filter test xs ≡ []
filter_none test [] each = refl
filter_none test (x ∷ xs) each = rw each.0 (filter_none test xs each.1)

-- the first of some numbers stands in front of what is left without it
pub front_number : (numbers : List ℕ) (number : ℕ) → first numbers ≡ Some number → numbers ≡ number ∷ without number numbers
front_number [] number e = none_is_some number e
front_number (n ∷ numbers) number e = let same : n ≡ number = cc in rw (same, eq-eqb number number refl) refl

module _ (setting : Setting) where
  -- a Take completes nothing
  take_completes : (past : Past) (number : ℕ) → completed_at setting (Take number) past ≡ []
  take_completes past number = filter_none (λ request. false) (filter (is_open setting past) (requests (Take number ∷ past))) (each-any (λ _. false ≡ false) _ (λ _. refl))

  -- what is taken is the first of the ready ones, and completes nothing
  take_allowed : (past : Past) (what : What) → IsAllowed setting past what → IfSome (taken_by what) (λ number. (first (ready setting past) ≡ Some number) × (completed_at setting what past ≡ []))
  take_allowed past (Accept number spec script) allowed = tt
  take_allowed past Cancel allowed = tt
  take_allowed past Destroy allowed = tt
  take_allowed past (Take number) allowed = (allowed, take_completes past number)
  take_allowed past (Start number leg server link id mix moment) allowed = tt
  take_allowed past (Arrive server link bytes) allowed = tt
  take_allowed past (Expire number leg moment) allowed = tt
  take_allowed past (Fault server link moment) allowed = tt
  take_allowed past (Servers list) allowed = tt

  queue_step : (before took now new : List ℕ) (by : Option ℕ) → before ≡ took ++ now → IfSome by (λ number. (first now ≡ Some number) × (new ≡ []))
      → before ++ new ≡ (took ++ option_to_list by) ++ (left_by by now ++ new)
  queue_step before took now new None split allowed = rw (split, append-nil) (append_assoc took now new)
  queue_step before took now new (Some number) split allowed =
      let front : now ≡ number ∷ without number now = front_number now number allowed.0 in
      rw (allowed.1, append-nil before, append-nil (without number now), append_assoc) (split ∙ ap (λ ns. took ++ ns) front)

  -- the ready requests are those that have completed without those that were taken, in one order
  pub taken_then_ready : (past : Past) → IsLawfulPast setting past → completions setting past ≡ taken past ++ ready setting past
  taken_then_ready [] lawful = refl
  taken_then_ready (what ∷ past) lawful =
      queue_step (completions setting past) (taken past) (ready setting past) (completed_at setting what past) (taken_by what) (taken_then_ready past lawful.1) (take_allowed past what lawful.0)

  at_most : (b : Bool) (n : ℕ) → n ≡ cond b 1 0 → n ≤ 1
  at_most true n e = omega (arith, e)
  at_most false n e = omega (arith, e)

  -- a request is taken at most once, and then isn't ready
  pub taken_once : (past : Past) (number : ℕ) → IsLawfulPast setting past → occurrences number (taken past) + occurrences number (ready setting past) ≤ 1
  taken_once past number lawful =
      omega (arith, at_most _ _ (completes_once setting number past lawful), ap (occurrences number) (taken_then_ready past lawful), occurrences-append number (taken past) (ready setting past))

  -- an accepted request is found by its number
  found_by_number : (all : List Accepted) → AllByRecursion (λ number. is_some (option_map (λ r. r.spec) (find (λ (r : Accepted). r.number == number) all)) ≡ true) (map (λ r. r.number) all)
  found_by_number [] = tt
  found_by_number (r ∷ rest) = (
    rw (eq-eqb r.number r.number refl) refl,
    each-then (λ number. is_some (option_map (λ q. q.spec) (find (λ (q : Accepted). q.number == number) rest)) ≡ true)
        (λ number. is_some (option_map (λ q. q.spec) (find (λ (q : Accepted). q.number == number) (r ∷ rest))) ≡ true) (map (λ q. q.number) rest)
        (λ number h. cond_both (r.number == number) (Some r) (find (λ (q : Accepted). q.number == number) rest) (λ o. is_some (option_map (λ q. q.spec) o) ≡ true) (λ _. refl) (λ _. h))
        (found_by_number rest),
  )

  still_some : (o : Option Spec) (f : Spec → Answer) → is_some o ≡ true → is_some (option_map f o) ≡ true
  still_some None f e = e
  still_some (Some spec) f e = refl

  pending_asked : (past : Past) → AllByRecursion (λ number. IsTrue (is_open setting past number) × IsTrue (is_some (spec_of number past))) (pending setting past)
  pending_asked past = each-filter (λ number. IsTrue (is_some (spec_of number past))) (is_open setting past) (requests past) (found_by_number (accepted past))

  -- a Cancel completes exactly the pending requests
  pub cancel_completes : (past : Past) → completed_at setting Cancel past ≡ pending setting past
  cancel_completes past =
      let same : requests (Cancel ∷ past) ≡ requests past = ap (map (λ (r : Accepted). r.number)) (append-nil (accepted past)) in
      rw same (filter_all _ (pending setting past)
      (each-then (λ number. IsTrue (is_open setting past number) × IsTrue (is_some (spec_of number past))) (λ number. is_some (completed_by setting number Cancel past) ≡ true) (pending setting past)
      (λ number h. still_some (spec_of number past) (λ spec. bare number Cancelled []) h.1) (pending_asked past)))

  -- so does a Destroy
  pub destroy_completes : (past : Past) → completed_at setting Destroy past ≡ pending setting past
  destroy_completes past =
      let same : requests (Destroy ∷ past) ≡ requests past = ap (map (λ (r : Accepted). r.number)) (append-nil (accepted past)) in
      rw same (filter_all _ (pending setting past)
      (each-then (λ number. IsTrue (is_open setting past number) × IsTrue (is_some (spec_of number past))) (λ number. is_some (completed_by setting number Destroy past) ≡ true) (pending setting past)
      (λ number h. still_some (spec_of number past) (λ spec. bare number Destruction []) h.1) (pending_asked past)))

  the_value : (o : Option Spec) (answer : Answer) → is_some o ≡ true → option_map (λ spec. answer) o ≡ Some answer
  the_value None answer e = absurd (true≢false (sym e))
  the_value (Some spec) answer e = refl

  -- with the status Cancelled
  pub cancelled : (past : Past) → AllByRecursion (λ number. fate setting number (Cancel ∷ past) ≡ Some (bare number Cancelled [])) (pending setting past)
  cancelled past =
      each-then (λ number. IsTrue (is_open setting past number) × IsTrue (is_some (spec_of number past))) (λ number. fate setting number (Cancel ∷ past) ≡ Some (bare number Cancelled [])) (pending setting past)
      (λ number h. rw (none_says _ h.0) (the_value (spec_of number past) (bare number Cancelled []) h.1)) (pending_asked past)

  -- or Destruction
  pub destroyed : (past : Past) → AllByRecursion (λ number. fate setting number (Destroy ∷ past) ≡ Some (bare number Destruction [])) (pending setting past)
  destroyed past =
      each-then (λ number. IsTrue (is_open setting past number) × IsTrue (is_some (spec_of number past))) (λ number. fate setting number (Destroy ∷ past) ≡ Some (bare number Destruction [])) (pending setting past)
      (λ number h. rw (none_says _ h.0) (the_value (spec_of number past) (bare number Destruction []) h.1)) (pending_asked past)

-- the same of journals
pub accepted_numbered : (setting : Setting) (journal : List Entry) → IsLawful setting journal → requests (past_of journal) ≡ range_with_len 1 (length (accepted (past_of journal)))
accepted_numbered setting journal lawful = requests_numbered setting (past_of journal) lawful.allowed

pub completed_once : (setting : Setting) (request : ℕ) (journal : List Entry) → IsLawful setting journal
    → occurrences request (completions setting (past_of journal)) ≡ (if is_some (fate setting request (past_of journal)) then 1 else 0)
completed_once setting request journal lawful = completes_once setting request (past_of journal) lawful.allowed

pub taken_in_order : (setting : Setting) (journal : List Entry) → IsLawful setting journal → completions setting (past_of journal) ≡ taken (past_of journal) ++ ready setting (past_of journal)
taken_in_order setting journal lawful = taken_then_ready setting (past_of journal) lawful.allowed

pub taken_at_most_once : (setting : Setting) (request : ℕ) (journal : List Entry) → IsLawful setting journal → occurrences request (taken (past_of journal)) + occurrences request (ready setting (past_of journal)) ≤ 1
taken_at_most_once setting request journal lawful = taken_once setting (past_of journal) request lawful.allowed
