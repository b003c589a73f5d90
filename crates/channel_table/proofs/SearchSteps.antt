-- How far a search has come behind one entry more, and with which answer it is over.
use Rattle.channel_table.proofs.Base.{◌≡◌, ◌∙◌, ℕ, suc, ◌+◌, ◌*◌, ◌%◌, ◌≤◌, Bool, true, false, List, [], ◌∷◌, ◌++◌, Option, Some, None, refl, ap, ap₂, sym, subst, map, cond, arith, length, and_parts, IfSome, option_to_list, option_map, slice_get, unwrap_or, ◌&&◌, ◌||◌, Answer, What, Spec, Address, Query, Reverse, Search, Status, BadName, Cancelled, ConnRefused, Destruction, NoData, NotFound, Success, TimedOut, Question, Name, Attempt, closes, flight, Past, spec_of, LegEnd, end_of, leg_end, Leg, candidate_of, leg_of, legs_of, addresses_v4, addresses_v6, bare, merged, merged_one, same_status, closing_of, closings, with_closing, candidates_of, question_for, wanted_kind, any_empty, candidate_answer, goes_on, is_empty, search_answer, Setting, last_status, wanted_by, answer_of_ends, is_of_addresses, are_passed, Wanted, Addresses, Options, Family, class_in, kind_a, kind_aaaa, ◌==◌}
use Rattle.std.specs.Prelude.{option_and_then}
use Rattle.chan_types.specs.declared.status.Status.TheVariants.{BadResp, FormErr, NotImp, Refused, ServFail}
use Rattle.channel_model.proofs.Theorems.{asking_no_answer}
use Rattle.channel_model.specs.Completion.{current_legs, legs_at}
use Rattle.channel_model.specs.Search.{Stand, answer_at, answer_of_search, asking, behind_candidate, last_answer, over, stand_at, stand_of}
use Rattle.channel_table.specs.Searching.{gives_way}
use Rattle.channel_table.specs.declared.wanted.Wanted.TheVariants.{Reply}

plus_none : (n : ℕ) → n + 0 ≡ n
plus_none n = omega arith

none_plus : (n : ℕ) → 0 + n ≡ n
none_plus n = omega arith

one_on : (c n : ℕ) → c + 1 + n ≡ c + suc n
one_on c n = omega arith

or_assoc : (p q r : Bool) → (p || (q || r)) ≡ ((p || q) || r)
or_assoc true q r = refl
or_assoc false q r = refl

-- a leg that has ended stays so
ended_stays : (setting : Setting) (what : What) (past : Past) (leg : Leg) (end : LegEnd) → leg_end setting leg past ≡ Some end → leg_end setting leg (what ∷ past) ≡ Some end
ended_stays setting what past leg end is = by_flight (flight setting leg past)
  where
    by_test : (a : Attempt) (b : Bool) → end_of (cond b (closing_of setting a what past (closings setting leg past) ∷ closings setting leg past) (closings setting leg past)) ≡ Some end
    by_test a true = rw is refl
    by_test a false = is

    by_flight : (o : Option Attempt) → end_of (with_closing setting what past o (closings setting leg past)) ≡ Some end
    by_flight None = is
    by_flight (Some a) = by_test a (closes setting a what past)

one_number : (x k : ℕ) (j : Option ℕ) → ◌≡◌ {A = List ℕ} (x ∷ []) (k ∷ option_to_list j) → (x ≡ k) × (j ≡ None)
one_number x k None same = (cc, refl)
one_number x k (Some n) same = absurd cc

two_numbers : (x y k : ℕ) (j : Option ℕ) → ◌≡◌ {A = List ℕ} (x ∷ y ∷ []) (k ∷ option_to_list j) → (x ≡ k) × (j ≡ Some y)
two_numbers x y k None same = absurd cc
two_numbers x y k (Some n) same = (cc, let are : y ≡ n = cc in ap Some (sym are))

doubled : (c n k m : ℕ) → n ≡ c + 1 → m ≡ k + 2 → 2 * c ≡ k → 2 * n ≡ m
doubled c n k m next more same = omega (arith, next, more, same)

doubled_on : (c n k m : ℕ) → n ≡ c + 1 → m ≡ k + 2 → 2 * c + 1 ≡ k → 2 * n + 1 ≡ m
doubled_on c n k m next more same = omega (arith, next, more, same)

doubled_both : (c n : ℕ) → n ≡ c + 1 → 2 * n + 1 ≡ (2 * c + 1) + 2
doubled_both c n next = omega (arith, next)

-- the numbers of the legs of the next candidate are two more
pub next_legs : (spec : Spec) (c n k m : ℕ) (j i : Option ℕ) → n ≡ c + 1 → m ≡ k + 2 → i ≡ option_map (λ x. x + 2) j → legs_of spec c ≡ k ∷ option_to_list j → legs_of spec n ≡ m ∷ option_to_list i
next_legs spec c n k m j i next more are legs = by_spec spec legs
  where
    one : (x y : ℕ) → x ≡ m → j ≡ None → y ≡ x → ◌≡◌ {A = List ℕ} (y ∷ []) (m ∷ option_to_list i)
    one x y same none is = ap₂ (λ z (o : Option ℕ). z ∷ option_to_list o) (is ∙ same) (sym (are ∙ ap (option_map (λ x. x + 2)) none))

    by_spec : (s : Spec) → legs_of s c ≡ k ∷ option_to_list j → legs_of s n ≡ m ∷ option_to_list i
    by_spec (Query text kind class) legs = let same = one_number (2 * c) k j legs in one (2 * n) (2 * n) (doubled c n k m next more same.0) same.1 refl
    by_spec (Search text kind class) legs = let same = one_number (2 * c) k j legs in one (2 * n) (2 * n) (doubled c n k m next more same.0) same.1 refl
    by_spec (Address host Family.Any nosort) legs =
        let same = two_numbers (2 * c) (2 * c + 1) k j legs in
        ap₂ (λ x (o : Option ℕ). x ∷ option_to_list o) (doubled c n k m next more same.0) (ap Some (doubled_both c n next) ∙ sym (are ∙ ap (option_map (λ x. x + 2)) same.1))
    by_spec (Address host Family.V4 nosort) legs = let same = one_number (2 * c) k j legs in one (2 * n) (2 * n) (doubled c n k m next more same.0) same.1 refl
    by_spec (Address host Family.V6 nosort) legs = let same = one_number (2 * c + 1) k j legs in one (2 * n + 1) (2 * n + 1) (doubled_on c n k m next more same.0) same.1 refl
    by_spec (Reverse address) legs = let same = one_number (2 * c) k j legs in one (2 * n) (2 * n) (doubled c n k m next more same.0) same.1 refl

-- the numbers of a candidate's legs are two at most
pub legs_within : (spec : Spec) (c k : ℕ) (j : Option ℕ) → legs_of spec c ≡ k ∷ option_to_list j → (2 * c ≤ k) × (k ≤ 2 * c + 1) × IfSome j (λ n. (n ≡ 2 * c + 1) × (k ≡ 2 * c))
legs_within spec c k j legs = by_spec spec legs
  where
    one : (x : ℕ) → x ≡ k → j ≡ None → 2 * c ≤ x → x ≤ 2 * c + 1 → (2 * c ≤ k) × (k ≤ 2 * c + 1) × IfSome j (λ n. (n ≡ 2 * c + 1) × (k ≡ 2 * c))
    one x same none least most = (omega (arith, same, least), omega (arith, same, most), subst (λ (o : Option ℕ). IfSome o (λ n. (n ≡ 2 * c + 1) × (k ≡ 2 * c))) (sym none) tt)

    by_spec : (s : Spec) → legs_of s c ≡ k ∷ option_to_list j → (2 * c ≤ k) × (k ≤ 2 * c + 1) × IfSome j (λ n. (n ≡ 2 * c + 1) × (k ≡ 2 * c))
    by_spec (Query text kind class) legs = let same = one_number (2 * c) k j legs in one (2 * c) same.0 same.1 (omega arith) (omega arith)
    by_spec (Search text kind class) legs = let same = one_number (2 * c) k j legs in one (2 * c) same.0 same.1 (omega arith) (omega arith)
    by_spec (Address host Family.Any nosort) legs =
        let same = two_numbers (2 * c) (2 * c + 1) k j legs in (
          omega (arith, same.0),
          omega (arith, same.0),
          subst (λ (o : Option ℕ). IfSome o (λ n. (n ≡ 2 * c + 1) × (k ≡ 2 * c))) (sym same.1) (refl, sym same.0),
        )
    by_spec (Address host Family.V4 nosort) legs = let same = one_number (2 * c) k j legs in one (2 * c) same.0 same.1 (omega arith) (omega arith)
    by_spec (Address host Family.V6 nosort) legs = let same = one_number (2 * c + 1) k j legs in one (2 * c + 1) same.0 same.1 (omega arith) (omega arith)
    by_spec (Reverse address) legs = let same = one_number (2 * c) k j legs in one (2 * c) same.0 same.1 (omega arith) (omega arith)

-- a leg belongs to its candidate
pub candidate_is : (k n : ℕ) → 2 * n ≤ k → k ≤ 2 * n + 1 → candidate_of k ≡ n
candidate_is k n least most = omega (arith, least, most)

same_half : (k m : ℕ) → m ≡ k + 2 → m % 2 ≡ k % 2
same_half k m more = omega (arith, more)

-- whose question has the same kind two numbers on
pub next_question : (spec : Spec) (k m : ℕ) (name next : Name) (question : Question) → m ≡ k + 2 → question_for spec k name ≡ question → question_for spec m next ≡ record question { name = next }
next_question spec k m name next question more is = by_spec spec ∙ ap (λ (q : Question). record q { name = next }) is
  where
    by_spec : (s : Spec) → question_for s m next ≡ record (question_for s k name) { name = next }
    by_spec (Query text kind class) = refl
    by_spec (Search text kind class) = refl
    by_spec (Address host family nosort) = ap (λ (r : ℕ). record { name = next; kind = cond (r == 1) kind_aaaa kind_a; class = class_in }) (same_half k m more)
    by_spec (Reverse address) = refl

-- the kind of which an answer is wanted, by what the answer is made of
pub kind_is : (spec : Spec) (k : ℕ) (name : Name) (question : Question) → question_for spec k name ≡ question → wanted_kind (Some spec) k ≡ cond (is_of_addresses (wanted_by spec)) (Some question.kind) None
kind_is (Query text kind class) k name question is = refl
kind_is (Search text kind class) k name question is = refl
kind_is (Address host family nosort) k name question is = ap (λ (q : Question). Some q.kind) is
kind_is (Reverse address) k name question is = refl

pub item_behind : {X : Type 0} (xs : List X) (y : X) (zs : List X) → slice_get (xs ++ y ∷ zs) (length xs) ≡ Some y
item_behind [] y zs = refl
item_behind (x ∷ xs) y zs = item_behind xs y zs

-- the answer of a candidate whose first leg hasn't ended
pub no_end : (options : Options) (request : ℕ) (wanted : Wanted) (name : Name) (right : Option LegEnd) → answer_of_ends options request wanted name None right ≡ None
no_end options request Reply name right = refl
no_end options request (Addresses Family.Any nosort) name right = refl
no_end options request (Addresses Family.V4 nosort) name right = refl
no_end options request (Addresses Family.V6 nosort) name right = refl

-- how the leg of this number has ended, if there is that leg
abbrev pub end_if : Setting → ℕ → Past → Option ℕ → Option LegEnd
end_if setting request past j = option_and_then (λ n. leg_end setting (leg_of request n) past) j

-- the answer of a candidate, by how its legs ended
pub leg_answers : (setting : Setting) (request : ℕ) (past : Past) (spec : Spec) (c k : ℕ) (j : Option ℕ) (name : Name) → legs_of spec c ≡ k ∷ option_to_list j
    → candidate_answer setting request spec c name past ≡ answer_of_ends setting.options request (wanted_by spec) name (leg_end setting (leg_of request k) past) (end_if setting request past j)
leg_answers setting request past (Query text kind class) c k j name legs =
    ap (λ n. option_map (λ (e : LegEnd). bare request e.status e.reply) (leg_end setting (leg_of request n) past)) (one_number (2 * c) k j legs).0
leg_answers setting request past (Search text kind class) c k j name legs =
    ap (λ n. option_map (λ (e : LegEnd). bare request e.status e.reply) (leg_end setting (leg_of request n) past)) (one_number (2 * c) k j legs).0
leg_answers setting request past (Address host Family.Any nosort) c k j name legs =
    let same = two_numbers (2 * c) (2 * c + 1) k j legs in
    ap₂ (λ n (o : Option ℕ). option_and_then (λ (e : LegEnd). option_map (merged setting request nosort name e) (end_if setting request past o)) (leg_end setting (leg_of request n) past)) same.0 (sym same.1)
leg_answers setting request past (Address host Family.V4 nosort) c k j name legs =
    ap (λ n. option_map (merged_one setting request nosort name addresses_v4) (leg_end setting (leg_of request n) past)) (one_number (2 * c) k j legs).0
leg_answers setting request past (Address host Family.V6 nosort) c k j name legs =
    ap (λ n. option_map (merged_one setting request nosort name addresses_v6) (leg_end setting (leg_of request n) past)) (one_number (2 * c + 1) k j legs).0
leg_answers setting request past (Reverse address) c k j name legs =
    ap (λ n. option_map (λ (e : LegEnd). bare request e.status e.reply) (leg_end setting (leg_of request n) past)) (one_number (2 * c) k j legs).0

module _ (setting : Setting) (request : ℕ) (spec : Spec) (what : What) (past : Past) where
  one_stays : (f : LegEnd → Answer) (leg : Leg) (o : Option LegEnd) → leg_end setting leg past ≡ o → gives_way (option_map f o) ≡ true
      → option_map f (leg_end setting leg (what ∷ past)) ≡ option_map f (leg_end setting leg past)
  one_stays f leg None is gives = absurd cc
  one_stays f leg (Some e) is gives = ap (option_map f) (ended_stays setting what past leg e is ∙ sym is)

  both_stay : (f : LegEnd → LegEnd → Answer) (left right : Leg) (o p : Option LegEnd) → leg_end setting left past ≡ o → leg_end setting right past ≡ p → gives_way (option_and_then (λ e. option_map (f e) p) o) ≡ true
      → option_and_then (λ e. option_map (f e) (leg_end setting right (what ∷ past))) (leg_end setting left (what ∷ past)) ≡ option_and_then (λ e. option_map (f e) (leg_end setting right past)) (leg_end setting left past)
  both_stay f left right None p is are gives = absurd cc
  both_stay f left right (Some d) None is are gives = absurd cc
  both_stay f left right (Some d) (Some e) is are gives =
      ap₂ (λ (o p : Option LegEnd). option_and_then (λ e. option_map (f e) p) o) (ended_stays setting what past left d is ∙ sym is) (ended_stays setting what past right e are ∙ sym are)

  -- a candidate that has given way stays so
  answer_stays : (c : ℕ) (name : Name) → gives_way (candidate_answer setting request spec c name past) ≡ true → candidate_answer setting request spec c name (what ∷ past) ≡ candidate_answer setting request spec c name past
  answer_stays c name = by_spec spec
    where
      by_spec : (s : Spec) → gives_way (candidate_answer setting request s c name past) ≡ true → candidate_answer setting request s c name (what ∷ past) ≡ candidate_answer setting request s c name past
      by_spec (Query text kind class) gives = one_stays (λ (e : LegEnd). bare request e.status e.reply) (leg_of request (2 * c)) (leg_end setting (leg_of request (2 * c)) past) refl gives
      by_spec (Search text kind class) gives = one_stays (λ (e : LegEnd). bare request e.status e.reply) (leg_of request (2 * c)) (leg_end setting (leg_of request (2 * c)) past) refl gives
      by_spec (Address host Family.Any nosort) gives =
          both_stay (merged setting request nosort name) (leg_of request (2 * c)) (leg_of request (2 * c + 1)) (leg_end setting (leg_of request (2 * c)) past) (leg_end setting (leg_of request (2 * c + 1)) past) refl refl gives
      by_spec (Address host Family.V4 nosort) gives = one_stays (merged_one setting request nosort name addresses_v4) (leg_of request (2 * c)) (leg_end setting (leg_of request (2 * c)) past) refl gives
      by_spec (Address host Family.V6 nosort) gives = one_stays (merged_one setting request nosort name addresses_v6) (leg_of request (2 * c + 1)) (leg_end setting (leg_of request (2 * c + 1)) past) refl gives
      by_spec (Reverse address) gives = one_stays (λ (e : LegEnd). bare request e.status e.reply) (leg_of request (2 * c)) (leg_end setting (leg_of request (2 * c)) past) refl gives

  -- candidates that are passed stay so, and so does whether one of them ended without data
  pub passed_stay : (c : ℕ) (names : List Name) → are_passed setting request spec past c names ≡ true
      → (are_passed setting request spec (what ∷ past) c names ≡ true) × (any_empty setting request spec (what ∷ past) c names ≡ any_empty setting request spec past c names)
  passed_stay c [] e = (refl, refl)
  passed_stay c (name ∷ names) e =
      let parts = and_parts (gives_way (candidate_answer setting request spec c name past)) (are_passed setting request spec past (c + 1) names) e in
      let same = answer_stays c name parts.0 in
      let rest = passed_stay (c + 1) names parts.1 in
      (ap₂ (λ o b. gives_way o && b) same rest.0 ∙ ap (λ b. b && true) parts.0, ap₂ (λ o b. is_empty o || b) same rest.1)

module _ (setting : Setting) (request : ℕ) (spec : Spec) (past : Past) where
  -- behind the passed candidates the search stands where it stands from the current one on
  stand_behind : (c : ℕ) (names : List Name) (name : Name) (rest : List Name) → are_passed setting request spec past c names ≡ true
      → stand_at setting request spec past c (names ++ name ∷ rest) ≡ stand_at setting request spec past (c + length names) (name ∷ rest)
  stand_behind c [] name rest e = ap (λ k. stand_at setting request spec past k (name ∷ rest)) (sym (plus_none c))
  stand_behind c (x ∷ xs) name rest e =
      let parts = and_parts (gives_way (candidate_answer setting request spec c x past)) (are_passed setting request spec past (c + 1) xs) e in
      moves xs (candidate_answer setting request spec c x past) parts.0 (stand_at setting request spec past (c + 1) (xs ++ name ∷ rest))
      ∙ stand_behind (c + 1) xs name rest parts.1 ∙ ap (λ k. stand_at setting request spec past k (name ∷ rest)) (one_on c (length xs))
    where
      moves : (ys : List Name) (o : Option Answer) → gives_way o ≡ true → (later : Stand) → behind_candidate c (ys ++ name ∷ rest) o later ≡ later
      moves ys None gives later = absurd cc
      moves [] (Some a) gives later = ap (λ b. cond b later (over a)) gives
      moves (y ∷ ys) (Some a) gives later = ap (λ b. cond b later (over a)) gives

  -- one passed candidate more
  pub passed_push : (c k : ℕ) (names : List Name) (name : Name) → k ≡ c + length names → are_passed setting request spec past c names ≡ true → gives_way (candidate_answer setting request spec k name past) ≡ true
      → are_passed setting request spec past c (names ++ name ∷ []) ≡ true
  passed_push c k [] name is e gives = ap (λ b. b && true) (ap (λ n. gives_way (candidate_answer setting request spec n name past)) (sym (is ∙ plus_none c)) ∙ gives)
  passed_push c k (x ∷ xs) name is e gives =
      let parts = and_parts (gives_way (candidate_answer setting request spec c x past)) (are_passed setting request spec past (c + 1) xs) e in
      ap₂ (λ p q. p && q) parts.0 (passed_push (c + 1) k xs name (is ∙ sym (one_on c (length xs))) parts.1 gives)

  -- whether one of some candidates and those behind them ended without data
  pub empty_append : (c k : ℕ) (names rest : List Name) → k ≡ c + length names
      → any_empty setting request spec past c (names ++ rest) ≡ (any_empty setting request spec past c names || any_empty setting request spec past k rest)
  empty_append c k [] rest is = ap (λ n. any_empty setting request spec past n rest) (sym (is ∙ plus_none c))
  empty_append c k (x ∷ xs) rest is =
      ap (λ b. is_empty (candidate_answer setting request spec c x past) || b) (empty_append (c + 1) k xs rest (is ∙ sym (one_on c (length xs))))
      ∙ or_assoc (is_empty (candidate_answer setting request spec c x past)) (any_empty setting request spec past (c + 1) xs) (any_empty setting request spec past k rest)

  module _ (passed : List Name) (name : Name) (names : List Name) (asks : spec_of request past ≡ Some spec) (candidates : candidates_of setting spec ≡ passed ++ name ∷ names)
      (came : are_passed setting request spec past 0 passed ≡ true) where
    here : stand_of setting request spec past ≡ stand_at setting request spec past (length passed) (name ∷ names)
    here = ap (stand_at setting request spec past 0) candidates ∙ stand_behind 0 passed name names came ∙ ap (λ n. stand_at setting request spec past n (name ∷ names)) (none_plus (length passed))

    -- the current candidate is asked while it has no answer
    pub still_asks : candidate_answer setting request spec (length passed) name past ≡ None → stand_of setting request spec past ≡ asking (length passed)
    still_asks is =
        here ∙ ap (λ o. behind_candidate (length passed) names o (stand_at setting request spec past (length passed + 1) names)) is ∙ by_names names
      where
        by_names : (ns : List Name) → behind_candidate (length passed) ns None (stand_at setting request spec past (length passed + 1) ns) ≡ asking (length passed)
        by_names [] = refl
        by_names (n ∷ ns) = refl

    pub no_answer : candidate_answer setting request spec (length passed) name past ≡ None → search_answer setting request past ≡ None
    no_answer is = asking_no_answer setting request past spec (length passed) asks (still_asks is)

    -- and its legs are the current ones
    pub current_are : candidate_answer setting request spec (length passed) name past ≡ None → current_legs setting past request ≡ map (leg_of request) (legs_of spec (length passed))
    current_are is =
        ap (λ o. unwrap_or (option_map (λ s. legs_at setting request s (stand_of setting request s past)) o) []) asks
        ∙ ap (legs_at setting request spec) (still_asks is)

    -- where it has an answer, the search is over if there is no next candidate that becomes current
    module _ (answer : Answer) (is : candidate_answer setting request spec (length passed) name past ≡ Some answer) where
      -- the candidate gives way, if its status is one that goes on
      pub gave_way : goes_on answer.status ≡ true → gives_way (candidate_answer setting request spec (length passed) name past) ≡ true
      gave_way goes = ap gives_way is ∙ goes

      empty_is : any_empty setting request spec past 0 (candidates_of setting spec) ≡ (any_empty setting request spec past 0 passed || (same_status answer.status NoData || any_empty setting request spec past (length passed + 1) names))
      empty_is =
          ap (any_empty setting request spec past 0) candidates ∙ empty_append 0 (length passed) passed (name ∷ names) (sym (none_plus (length passed)))
          ∙ ap (λ o. any_empty setting request spec past 0 passed || (is_empty o || any_empty setting request spec past (length passed + 1) names)) is

      stops : (ns : List Name) → (goes_on answer.status ≡ true → ns ≡ []) → behind_candidate (length passed) ns (Some answer) (stand_at setting request spec past (length passed + 1) ns) ≡ over answer
      stops [] last = refl
      stops (n ∷ ns) last = by_test (goes_on answer.status) refl
        where
          by_test : (b : Bool) → goes_on answer.status ≡ b → cond b (stand_at setting request spec past (length passed + 1) (n ∷ ns)) (over answer) ≡ over answer
          by_test true goes = let none = last goes in absurd cc
          by_test false goes = refl

      -- its status alone changes, or not
      last_alone : (s : Status) (empty : Bool) → last_answer (empty || (same_status s NoData || false)) (record answer { status = s }) ≡ record answer { status = last_status empty s }
      last_alone Success empty = refl
      last_alone NoData true = refl
      last_alone NoData false = refl
      last_alone FormErr empty = refl
      last_alone ServFail true = refl
      last_alone ServFail false = refl
      last_alone NotFound true = refl
      last_alone NotFound false = refl
      last_alone NotImp empty = refl
      last_alone Refused empty = refl
      last_alone BadName empty = refl
      last_alone BadResp empty = refl
      last_alone ConnRefused empty = refl
      last_alone TimedOut empty = refl
      last_alone Destruction empty = refl
      last_alone Cancelled empty = refl

      last_is : (empty all : Bool) (ns : List Name) → (goes_on answer.status ≡ true → ns ≡ []) → all ≡ (empty || (same_status answer.status NoData || any_empty setting request spec past (length passed + 1) ns))
          → last_answer all answer ≡ record answer { status = last_status empty answer.status }
      last_is empty all ns last are = by_test (goes_on answer.status) refl
        where
          by_test : (b : Bool) → goes_on answer.status ≡ b → last_answer all answer ≡ record answer { status = last_status empty answer.status }
          by_test true goes =
              let none = last goes in
              ap (λ a. last_answer a answer) (are ∙ ap (λ xs. empty || (same_status answer.status NoData || any_empty setting request spec past (length passed + 1) xs)) none) ∙ last_alone answer.status empty
          by_test false goes =
              ap (λ b. cond (b && all) (record answer { status = NoData }) answer) goes
              ∙ sym (ap (λ b. record answer { status = cond (b && empty) NoData answer.status }) goes)

      pub search_over : (empty : Bool) → any_empty setting request spec past 0 passed ≡ empty → (goes_on answer.status ≡ true → names ≡ []) → search_answer setting request past ≡ Some (record answer { status = last_status empty answer.status })
      search_over empty emptied last =
          let stands : stand_of setting request spec past ≡ over answer =
          here ∙ ap (λ o. behind_candidate (length passed) names o (stand_at setting request spec past (length passed + 1) names)) is ∙ stops names last in
          ap (option_and_then (answer_of_search setting request past)) asks
          ∙ ap (λ s. option_map (last_answer (any_empty setting request spec past 0 (candidates_of setting spec))) (answer_at s)) stands
          ∙ ap Some (last_is empty (any_empty setting request spec past 0 (candidates_of setting spec)) names last (empty_is ∙ ap (λ b. b || (same_status answer.status NoData || any_empty setting request spec past (length passed + 1) names)) emptied))
