-- What an entry does to requests: which stay accepted, pending and ready behind it.
use Rattle.std.proofs.Common.{◌≡◌, ◌∙◌, ℕ, Bool, true, false, List, [], ◌∷◌, ◌++◌, Option, Some, None, refl, ap, map, cond, arith, ◌≤◌, ap₂}
use Rattle.std.proofs.lemmas.List.{append-nil}
use Rattle.std.specs.Option.{option_or}
use Rattle.std.specs.Prelude.{◌==◌, ◌&&◌, is_none, is_some, filter, find, ◌+◌, ◌||◌, option_map, option_to_list}
use Rattle.chan_types.specs.declared.answer.Answer.{Answer}
use Rattle.chan_types.specs.declared.journal.What.{What}
use Rattle.chan_types.specs.declared.journal.What.TheVariants.{Servers, Start, Take}
use Rattle.chan_types.specs.declared.script.Script.{Script}
use Rattle.chan_types.specs.declared.server_key.ServerKey.{ServerKey}
use Rattle.chan_types.specs.declared.spec.Spec.{Spec}
use Rattle.chan_types.specs.declared.spec.Spec.TheVariants.{Query, Search, Address, Reverse}
use Rattle.chan_types.specs.declared.status.Status.{Status}
use Rattle.chan_types.specs.declared.status.Status.TheVariants.{Success, NoData, FormErr, ServFail, NotFound, NotImp, Refused, BadName, BadResp, ConnRefused, TimedOut, Destruction, Cancelled}
use Rattle.dns_message.specs.declared.name.Name.{Name}
use Rattle.dns_message.specs.declared.name.NameText.{NameText}
use Rattle.net_addr.specs.declared.addr.Family.{Family}
use Rattle.channel_model.proofs.CompletionLemmas.{asked_at_most_once, filter_all, filter_none}
use Rattle.channel_model.proofs.CountLemmas.{occurrences-filter}
use Rattle.channel_model.proofs.ListLemmas.{each-any}
use Rattle.channel_model.specs.Completion.{completed_at, completed_by, fate, is_open, left_by, occurrences, pending, ready, requests, taken_by, without}
use Rattle.channel_model.specs.Journal.{Accepted, Past, accepted, accepted_by, request_of, script_of, spec_of}
use Rattle.channel_model.specs.Lawful.{IsLawfulPast}
use Rattle.channel_model.specs.LegEnd.{LegEnd, leg_end}
use Rattle.channel_model.specs.Legs.{leg_of, first_leg, second_leg}
use Rattle.channel_model.specs.Merge.{bare, same_status}
use Rattle.channel_model.specs.Questions.{name_of_text, candidates_of}
use Rattle.channel_model.specs.Search.{address_answer, candidate_answer, last_answer, search_answer, stand_at, stand_of, asking}
use Rattle.channel_model.specs.Setting.{Setting}

-- behind an entry that accepts nothing the accepted requests are those before
pub accepted-none : (what : What) (past : Past) → accepted_by what ≡ None → accepted (what ∷ past) ≡ accepted past
accepted-none what past none = rw none (append-nil (accepted past))

pub requests-none : (what : What) (past : Past) → accepted_by what ≡ None → requests (what ∷ past) ≡ requests past
requests-none what past none = ap (map (λ (r : Accepted). r.number)) (accepted-none what past none)

find-more : {X : Type 0} (test : X → Bool) (xs ys : List X) (x : X) → find test xs ≡ Some x → find test (xs ++ ys) ≡ Some x
find-more test [] ys x e = absurd cc
find-more {X} test (y ∷ xs) ys x e = by_test (test y) e (find-more test xs ys x)
  where
    by_test : (b : Bool) → cond b (Some y) (find test xs) ≡ Some x → (find test xs ≡ Some x → find test (xs ++ ys) ≡ Some x) → cond b (Some y) (find test (xs ++ ys)) ≡ Some x
    by_test true e rest = e
    by_test false e rest = rest e

-- a request that was accepted stays so
pub request_of-later : (number : ℕ) (what : What) (past : Past) (request : Accepted) → request_of number past ≡ Some request → request_of number (what ∷ past) ≡ Some request
request_of-later number what past request e = find-more (λ (r : Accepted). r.number == number) (accepted past) (option_to_list (accepted_by what)) request e

-- and so do its spec and its script
pub spec_of-later : (number : ℕ) (what : What) (past : Past) (spec : Spec) → spec_of number past ≡ Some spec → spec_of number (what ∷ past) ≡ Some spec
spec_of-later number what past spec e = by_request (request_of number past) refl e
  where
    by_request : (o : Option Accepted) → request_of number past ≡ o → option_map (λ (r : Accepted). r.spec) o ≡ Some spec → spec_of number (what ∷ past) ≡ Some spec
    by_request None is e = absurd cc
    by_request (Some r) is e = rw (request_of-later number what past r is) e

pub script_of-later : (number : ℕ) (what : What) (past : Past) (script : Script) → script_of number past ≡ Some script → script_of number (what ∷ past) ≡ Some script
script_of-later number what past script e = by_request (request_of number past) refl e
  where
    by_request : (o : Option Accepted) → request_of number past ≡ o → option_map (λ (r : Accepted). r.script) o ≡ Some script → script_of number (what ∷ past) ≡ Some script
    by_request None is e = absurd cc
    by_request (Some r) is e = rw (request_of-later number what past r is) e

-- a list of those that pass two tests
filter-both : {X : Type 0} (p q : X → Bool) (xs : List X) → filter (λ x. p x && q x) xs ≡ filter q (filter p xs)
filter-both p q [] = refl
filter-both {X} p q (x ∷ xs) = by_test (p x) (filter-both p q xs)
  where
    by_test : (b : Bool) → filter (λ y. p y && q y) xs ≡ filter q (filter p xs) → cond (b && q x) (x ∷ filter (λ y. p y && q y) xs) (filter (λ y. p y && q y) xs) ≡ filter q (cond b (x ∷ filter p xs) (filter p xs))
    by_test true rest = ap (λ r. cond (q x) (x ∷ r) r) rest
    by_test false rest = rest

-- tests that say the same leave the same
pub filter-same : {X : Type 0} (p q : X → Bool) (xs : List X) → ((x : X) → p x ≡ q x) → filter p xs ≡ filter q xs
filter-same p q [] same = refl
filter-same p q (x ∷ xs) same = rw (same x, filter-same p q xs same) refl

none_either : (o p : Option Answer) → is_none (option_or o p) ≡ (is_none o && is_none p)
none_either None p = refl
none_either (Some a) p = refl

module _ (setting : Setting) (what : What) (past : Past) where
  -- a request is open behind an entry, if it was open before and the entry doesn't complete it
  pub open_behind : (number : ℕ) → is_open setting (what ∷ past) number ≡ (is_open setting past number && is_none (completed_by setting number what past))
  open_behind number = none_either (fate setting number past) (completed_by setting number what past)

  -- behind an entry that accepts nothing those are pending that were, and that it doesn't complete
  pub pending-behind : accepted_by what ≡ None → pending setting (what ∷ past) ≡ filter (λ number. is_none (completed_by setting number what past)) (pending setting past)
  pending-behind none =
      ap (filter (is_open setting (what ∷ past))) (requests-none what past none)
      ∙ filter-same (is_open setting (what ∷ past)) (λ number. is_open setting past number && is_none (completed_by setting number what past)) (requests past) open_behind
      ∙ filter-both (is_open setting past) (λ number. is_none (completed_by setting number what past)) (requests past)

  -- and it completes those of the pending ones that it does
  pub completed-behind : accepted_by what ≡ None → completed_at setting what past ≡ filter (λ number. is_some (completed_by setting number what past)) (pending setting past)
  completed-behind none = ap (λ numbers. filter (λ number. is_some (completed_by setting number what past)) (filter (is_open setting past) numbers)) (requests-none what past none)

  -- those are ready that were, and behind them those of the pending ones that it completes
  pub ready-behind : accepted_by what ≡ None → taken_by what ≡ None → ready setting (what ∷ past) ≡ ready setting past ++ filter (λ number. is_some (completed_by setting number what past)) (pending setting past)
  ready-behind none takes = ap₂ (λ o numbers. left_by o (ready setting past) ++ numbers) takes (completed-behind none)

  -- a request that it doesn't complete has the answer that it had
  pub fate-kept : (number : ℕ) → completed_by setting number what past ≡ None → fate setting number (what ∷ past) ≡ fate setting number past
  fate-kept number none = ap (option_or (fate setting number past)) none ∙ or_none (fate setting number past)
    where
      or_none : (o : Option Answer) → option_or o None ≡ o
      or_none None = refl
      or_none (Some a) = refl

  -- an entry that accepts and completes nothing leaves the pending requests
  pub pending-kept : accepted_by what ≡ None → ((number : ℕ) → completed_by setting number what past ≡ None) → pending setting (what ∷ past) ≡ pending setting past
  pending-kept accepts completes =
      pending-behind accepts ∙ filter_all (λ number. is_none (completed_by setting number what past)) (pending setting past)
      (each-any (λ number. is_none (completed_by setting number what past) ≡ true) (pending setting past) (λ number. ap is_none (completes number)))

  -- and the ready ones, without the one that it takes
  pub ready-kept : accepted_by what ≡ None → ((number : ℕ) → completed_by setting number what past ≡ None) → ready setting (what ∷ past) ≡ left_by (taken_by what) (ready setting past)
  ready-kept accepts completes =
      ap (λ numbers. left_by (taken_by what) (ready setting past) ++ numbers)
      (completed-behind accepts ∙ filter_none (λ number. is_some (completed_by setting number what past)) (pending setting past)
      (each-any (λ number. is_some (completed_by setting number what past) ≡ false) (pending setting past) (λ number. ap is_some (completes number))))
      ∙ append-nil (left_by (taken_by what) (ready setting past))

-- a Start, a Take and a new list of servers complete nothing
module _ (setting : Setting) (past : Past) where
  pub start-pending : (number leg server link id : ℕ) (mix : Option ℕ) (moment : ℕ) → pending setting (Start number leg server link id mix moment ∷ past) ≡ pending setting past
  start-pending number leg server link id mix moment = pending-kept setting (Start number leg server link id mix moment) past refl (λ _. refl)

  pub start-ready : (number leg server link id : ℕ) (mix : Option ℕ) (moment : ℕ) → ready setting (Start number leg server link id mix moment ∷ past) ≡ ready setting past
  start-ready number leg server link id mix moment = ready-kept setting (Start number leg server link id mix moment) past refl (λ _. refl)

  pub take-pending : (number : ℕ) → pending setting (Take number ∷ past) ≡ pending setting past
  take-pending number = pending-kept setting (Take number) past refl (λ _. refl)

  pub take-ready : (number : ℕ) → ready setting (Take number ∷ past) ≡ without number (ready setting past)
  take-ready number = ready-kept setting (Take number) past refl (λ _. refl)

  pub servers-pending : (list : List ServerKey) → pending setting (Servers list ∷ past) ≡ pending setting past
  servers-pending list = pending-kept setting (Servers list) past refl (λ _. refl)

  pub servers-ready : (list : List ServerKey) → ready setting (Servers list ∷ past) ≡ ready setting past
  servers-ready list = ready-kept setting (Servers list) past refl (λ _. refl)

  -- in a lawful past a request is pending at most once
  pub pending_once : IsLawfulPast setting past → (number : ℕ) → occurrences number (pending setting past) ≤ 1
  pending_once lawful number = by_test (is_open setting past number) (occurrences-filter (is_open setting past) number (requests past))
    where
      by_test : (b : Bool) → occurrences number (pending setting past) ≡ cond b (occurrences number (requests past)) 0 → occurrences number (pending setting past) ≤ 1
      by_test true e = omega (arith, e, asked_at_most_once setting number past lawful)
      by_test false e = omega (arith, e)

-- where the legs of a request have ended as before, its search stands as before
module _ (setting : Setting) (request : ℕ) (new old : Past) (same : (k : ℕ) → leg_end setting (leg_of request k) new ≡ leg_end setting (leg_of request k) old) where
  address_answer-same : (family : Family) (nosort : Bool) (c : ℕ) (name : Name) → address_answer setting request family nosort c name new ≡ address_answer setting request family nosort c name old
  address_answer-same Family.Any nosort c name = rw (same (first_leg c), same (second_leg c)) refl
  address_answer-same Family.V4 nosort c name = rw (same (first_leg c)) refl
  address_answer-same Family.V6 nosort c name = rw (same (second_leg c)) refl

  candidate_answer-same : (spec : Spec) (c : ℕ) (name : Name) → candidate_answer setting request spec c name new ≡ candidate_answer setting request spec c name old
  candidate_answer-same (Query text kind class) c name = ap (option_map (λ (end : LegEnd). bare request end.status end.reply)) (same (first_leg c))
  candidate_answer-same (Search text kind class) c name = ap (option_map (λ (end : LegEnd). bare request end.status end.reply)) (same (first_leg c))
  candidate_answer-same (Address host family nosort) c name = address_answer-same family nosort c name
  candidate_answer-same (Reverse address) c name = ap (option_map (λ (end : LegEnd). bare request end.status end.reply)) (same (first_leg c))

  stand_at-same : (spec : Spec) (c : ℕ) (names : List Name) → stand_at setting request spec new c names ≡ stand_at setting request spec old c names
  stand_at-same spec c [] = refl
  stand_at-same spec c (name ∷ names) = rw (candidate_answer-same spec c name, stand_at-same spec (c + 1) names) refl

  -- the search of a request stands where it stood
  pub stand_of-same : (spec : Spec) → stand_of setting request spec new ≡ stand_of setting request spec old
  stand_of-same spec = stand_at-same spec 0 (candidates_of setting spec)

-- a search that stands at a candidate isn't over
pub asking_no_answer : (setting : Setting) (request : ℕ) (past : Past) (spec : Spec) (c : ℕ) → spec_of request past ≡ Some spec → stand_of setting request spec past ≡ asking c → search_answer setting request past ≡ None
asking_no_answer setting request past spec c asks stands = rw (asks, stands) refl

-- a candidate's answer that is the last one's
last_alone : (status : Status) (request : ℕ) (reply : List ℕ) → last_answer (same_status status NoData || false) (bare request status reply) ≡ bare request status reply
last_alone Success request reply = refl
last_alone NoData request reply = refl
last_alone FormErr request reply = refl
last_alone ServFail request reply = refl
last_alone NotFound request reply = refl
last_alone NotImp request reply = refl
last_alone Refused request reply = refl
last_alone BadName request reply = refl
last_alone BadResp request reply = refl
last_alone ConnRefused request reply = refl
last_alone TimedOut request reply = refl
last_alone Destruction request reply = refl
last_alone Cancelled request reply = refl

module _ (setting : Setting) (request : ℕ) (past : Past) (text : List ℕ) (kind class : ℕ) (read : NameText) (asks : spec_of request past ≡ Some (Query text kind class)) (named : name_of_text text ≡ Some read) where
  -- the search of a request with one candidate is over as its leg has ended
  pub query_answer : (end : Option LegEnd) → leg_end setting (leg_of request 0) past ≡ end → search_answer setting request past ≡ option_map (λ (e : LegEnd). bare request e.status e.reply) end
  query_answer None e = rw (asks, named, e) refl
  query_answer (Some end) e = rw (asks, named, e) (ap Some (last_alone end.status request end.reply))
