-- The answer of a search has its request's number, and its status is that of an ended leg of the request.
use Rattle.std.proofs.Common.{inl, inr, subst, sym, true≢false, ◌∙◌, ◌⊎◌, ⊎_elim}
use Rattle.std.specs.Prelude.{Bool, List, None, Option, Some, [], cond, false, option_and_then, option_map, refl, true, ℕ, ◌&&◌, ◌++◌, ◌+◌, ◌||◌, ◌∷◌, ◌≡◌}
use Rattle.chan_types.specs.declared.answer.Answer.{Answer}
use Rattle.chan_types.specs.declared.spec.Spec.{Spec}
use Rattle.chan_types.specs.declared.spec.Spec.TheVariants.{Address, Query, Reverse, Search}
use Rattle.chan_types.specs.declared.status.Status.{Status}
use Rattle.chan_types.specs.declared.status.Status.TheVariants.{NoData, NotFound, Success}
use Rattle.dns_message.specs.declared.message.Record.{Record}
use Rattle.dns_message.specs.declared.name.Name.{Name}
use Rattle.net_addr.specs.declared.addr.Addr.{Addr}
use Rattle.net_addr.specs.declared.addr.Family.{Family}
use Rattle.channel_model.proofs.ListLemmas.{none_is_some}
use Rattle.channel_model.specs.Journal.{Past, spec_of}
use Rattle.channel_model.specs.LegEnd.{LegEnd, leg_end}
use Rattle.channel_model.specs.Legs.{first_leg, leg_of, second_leg}
use Rattle.channel_model.specs.Merge.{addresses_v4, addresses_v6, answers_of, bare, canonical_name, found, merged, merged_one, records_of, same_status, status_of_both}
use Rattle.channel_model.specs.Questions.{candidates_of}
use Rattle.channel_model.specs.Search.{Stand, answer_at, answer_of_search, any_empty, behind_candidate, candidate_answer, goes_on, is_empty, last_answer, over, search_answer, stand_at, stand_of}
use Rattle.channel_model.specs.Setting.{Setting}
use Rattle.channel_model.specs.Verdict.{has_item}
use Rattle.status_laws.proofs.StatusLemmas.{same_status-says}

module _ (setting : Setting) (request : ℕ) (past : Past) where
  -- a leg of the request has ended with this status
  pub record HasLeg (status : Status) : Type 0 where
    pub number : ℕ
    pub end : LegEnd
    pub ended : leg_end setting (leg_of request number) past ≡ Some end
    pub same : end.status ≡ status

  -- the answer has the request's number, and the status of a leg of it
  abbrev pub IsOfLeg : Answer → Type 0
  IsOfLeg answer = HasLeg answer.status × (answer.number ≡ request)

  -- the answer of one leg
  of_one : (make : LegEnd → Answer) → ((end : LegEnd) → (end.status ≡ (make end).status) × ((make end).number ≡ request)) → (number : ℕ) (answer : Answer)
      → option_map make (leg_end setting (leg_of request number) past) ≡ Some answer → IsOfLeg answer
  of_one make says number answer e = by_end (leg_end setting (leg_of request number) past) refl e
    where
      by_end : (o : Option LegEnd) → leg_end setting (leg_of request number) past ≡ o → option_map make o ≡ Some answer → IsOfLeg answer
      by_end None is e = none_is_some answer e
      by_end (Some end) is e =
          let same : make end ≡ answer = cc in
          subst IsOfLeg same (record { number = number; end = end; ended = is; same = (says end).0 }, (says end).1)

  -- the answer of one leg with addresses
  pub one_says : (nosort : Bool) (name : Name) (addresses : List Record → List Addr) (end : LegEnd)
      → (end.status ≡ (merged_one setting request nosort name addresses end).status) × ((merged_one setting request nosort name addresses end).number ≡ request)
  one_says nosort name addresses end = by_test (same_status end.status Success) refl
    where
      by_test : (b : Bool) → same_status end.status Success ≡ b
          → (end.status ≡
          (cond b (found setting request nosort (addresses (answers_of end.reply)) (canonical_name name (answers_of end.reply)))
          (bare request end.status [])).status)
          × ((cond b (found setting request nosort (addresses (answers_of end.reply)) (canonical_name name (answers_of end.reply)))
          (bare request end.status [])).number ≡ request)
      by_test true is = (same_status-says end.status Success is, refl)
      by_test false is = (refl, refl)

  -- the status of two legs is that of one of them
  status_of_one : (left right : Status) → (left ≡ status_of_both left right) ⊎ (right ≡ status_of_both left right)
  status_of_one left right = by_tests (same_status left NoData) (same_status right NoData) (same_status left NotFound) refl refl
    where
      by_tests : (l r n : Bool) → same_status left NoData ≡ l → same_status right NoData ≡ r
          → (left ≡ cond (l || r) NoData (cond n right left)) ⊎ (right ≡ cond (l || r) NoData (cond n right left))
      by_tests true r n is also = inl (same_status-says left NoData is)
      by_tests false true n is also = inr (same_status-says right NoData also)
      by_tests false false true is also = inr refl
      by_tests false false false is also = inl refl

  -- where two legs have an address, one of them ended with Success
  good_one : (left right : LegEnd) → has_item (addresses_v4 (records_of left) ++ addresses_v6 (records_of right)) ≡ true
      → (left.status ≡ Success) ⊎ (right.status ≡ Success)
  good_one left right some = by_tests (same_status left.status Success) (same_status right.status Success) refl refl
    where
      by_tests : (l r : Bool) → same_status left.status Success ≡ l → same_status right.status Success ≡ r → (left.status ≡ Success) ⊎ (right.status ≡ Success)
      by_tests true r is also = inl (same_status-says left.status Success is)
      by_tests false true is also = inr (same_status-says right.status Success also)
      by_tests false false is also =
          let none : has_item (addresses_v4 (records_of left) ++ addresses_v6 (records_of right)) ≡ false = rw (is, also) refl in
          absurd (true≢false (sym some ∙ none))

  -- the addresses of two legs
  abbrev both_have : LegEnd → LegEnd → List Addr
  both_have left right = addresses_v4 (records_of left) ++ addresses_v6 (records_of right)

  -- the answer of two legs, where they have an address or haven't
  abbrev made : Bool → Name → LegEnd → LegEnd → Bool → Answer
  made nosort name left right some =
      cond some (found setting request nosort (both_have left right)
      (canonical_name name (cond (has_item (addresses_v4 (records_of left))) (records_of left) (records_of right))))
      (bare request (status_of_both left.status right.status) [])

  -- has the status of one of them
  both_say : (nosort : Bool) (name : Name) (left right : LegEnd)
      → ((left.status ≡ (merged setting request nosort name left right).status) ⊎ (right.status ≡ (merged setting request nosort name left right).status))
      × ((merged setting request nosort name left right).number ≡ request)
  both_say nosort name left right = by_test (has_item (both_have left right)) refl
    where
      by_test : (some : Bool) → has_item (both_have left right) ≡ some
          → ((left.status ≡ (made nosort name left right some).status) ⊎ (right.status ≡ (made nosort name left right some).status))
          × ((made nosort name left right some).number ≡ request)
      by_test true is = (good_one left right is, refl)
      by_test false is = (status_of_one left.status right.status, refl)

  -- the answer of a candidate
  of_candidate : (spec : Spec) (c : ℕ) (name : Name) (answer : Answer) → candidate_answer setting request spec c name past ≡ Some answer → IsOfLeg answer
  of_candidate (Query text kind class) c name answer e = of_one (λ end. bare request end.status end.reply) (λ end. (refl, refl)) (first_leg c) answer e
  of_candidate (Search text kind class) c name answer e = of_one (λ end. bare request end.status end.reply) (λ end. (refl, refl)) (first_leg c) answer e
  of_candidate (Address host family nosort) c name answer e = by_family family e
    where
      by_ends : (o p : Option LegEnd) → leg_end setting (leg_of request (first_leg c)) past ≡ o → leg_end setting (leg_of request (second_leg c)) past ≡ p
          → option_and_then (λ left. option_map (merged setting request nosort name left) p) o ≡ Some answer → IsOfLeg answer
      by_ends None p is also e = none_is_some answer e
      by_ends (Some left) None is also e = none_is_some answer e
      by_ends (Some left) (Some right) is also e =
          let same : merged setting request nosort name left right ≡ answer = cc in
          let says = both_say nosort name left right in
          subst IsOfLeg same (
            ⊎_elim (λ l. record { number = first_leg c; end = left; ended = is; same = l })
                (λ r. record { number = second_leg c; end = right; ended = also; same = r }) says.0,
            says.1,
          )

      by_family : (f : Family) → candidate_answer setting request (Address host f nosort) c name past ≡ Some answer → IsOfLeg answer
      by_family Family.Any e = by_ends (leg_end setting (leg_of request (first_leg c)) past) (leg_end setting (leg_of request (second_leg c)) past) refl refl e
      by_family Family.V4 e = of_one (merged_one setting request nosort name addresses_v4) (one_says nosort name addresses_v4) (first_leg c) answer e
      by_family Family.V6 e = of_one (merged_one setting request nosort name addresses_v6) (one_says nosort name addresses_v6) (second_leg c) answer e
  of_candidate (Reverse address) c name answer e = of_one (λ end. bare request end.status end.reply) (λ end. (refl, refl)) (first_leg c) answer e

  -- the answer at which a search stands
  of_stand : (spec : Spec) (c : ℕ) (names : List Name) (answer : Answer) → answer_at (stand_at setting request spec past c names) ≡ Some answer → IsOfLeg answer
  of_stand spec c [] answer e = none_is_some answer e
  of_stand spec c (name ∷ names) answer e = by_answer names (candidate_answer setting request spec c name past) refl
      (stand_at setting request spec past (c + 1) names) e (of_stand spec (c + 1) names answer)
    where
      by_answer : (ns : List Name) (o : Option Answer) → candidate_answer setting request spec c name past ≡ o → (later : Stand)
          → answer_at (behind_candidate c ns o later) ≡ Some answer
          → (answer_at later ≡ Some answer → IsOfLeg answer) → IsOfLeg answer
      by_answer [] None is later e rest = none_is_some answer e
      by_answer (n ∷ ns) None is later e rest = none_is_some answer e
      by_answer [] (Some a) is later e rest = of_candidate spec c name answer (is ∙ e)
      by_answer (n ∷ ns) (Some a) is later e rest = by_test (goes_on a.status) e
        where
          by_test : (b : Bool) → answer_at (cond b later (over a)) ≡ Some answer → IsOfLeg answer
          by_test true e = rest e
          by_test false e = of_candidate spec c name answer (is ∙ e)

  -- where a candidate ended without data, a leg did
  of_empty : (spec : Spec) (c : ℕ) (names : List Name) → any_empty setting request spec past c names ≡ true → HasLeg NoData
  of_empty spec c [] e = absurd (true≢false (sym e))
  of_empty spec c (name ∷ names) e = by_answer (candidate_answer setting request spec c name past) refl e (of_empty spec (c + 1) names)
    where
      by_answer : (o : Option Answer) → candidate_answer setting request spec c name past ≡ o
          → (is_empty o || any_empty setting request spec past (c + 1) names) ≡ true
          → (any_empty setting request spec past (c + 1) names ≡ true → HasLeg NoData) → HasLeg NoData
      by_answer None is e rest = rest e
      by_answer (Some a) is e rest = by_test (same_status a.status NoData) refl e
        where
          by_test : (b : Bool) → same_status a.status NoData ≡ b → (b || any_empty setting request spec past (c + 1) names) ≡ true → HasLeg NoData
          by_test true same e = subst HasLeg (same_status-says a.status NoData same) (of_candidate spec c name a is).0
          by_test false same e = rest e

  -- the answer with which a search is over
  of_last : (empty : Bool) (answer : Answer) → (empty ≡ true → HasLeg NoData) → IsOfLeg answer → IsOfLeg (last_answer empty answer)
  of_last empty answer without own = by_tests (goes_on answer.status) empty without
    where
      by_tests : (b e : Bool) → (e ≡ true → HasLeg NoData) → IsOfLeg (cond (b && e) (record answer { status = NoData }) answer)
      by_tests true true without = (without refl, own.1)
      by_tests true false without = own
      by_tests false e without = own

  -- and so the answer of a request's search
  pub of_search : (answer : Answer) → search_answer setting request past ≡ Some answer → IsOfLeg answer
  of_search answer e = by_spec (spec_of request past) e
    where
      by_stand : (spec : Spec) (o : Option Answer) → answer_at (stand_of setting request spec past) ≡ o
          → option_map (last_answer (any_empty setting request spec past 0 (candidates_of setting spec))) o ≡ Some answer → IsOfLeg answer
      by_stand spec None is e = none_is_some answer e
      by_stand spec (Some a) is e =
          let same : last_answer (any_empty setting request spec past 0 (candidates_of setting spec)) a ≡ answer = cc in
          subst IsOfLeg same
          (of_last (any_empty setting request spec past 0 (candidates_of setting spec)) a (of_empty spec 0 (candidates_of setting spec))
          (of_stand spec 0 (candidates_of setting spec) a is))

      by_spec : (o : Option Spec) → option_and_then (answer_of_search setting request past) o ≡ Some answer → IsOfLeg answer
      by_spec None e = none_is_some answer e
      by_spec (Some spec) e = by_stand spec (answer_at (stand_of setting request spec past)) refl e
