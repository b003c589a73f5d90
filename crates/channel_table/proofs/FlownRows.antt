-- How what finds the attempts in flight follows the rows.
use Rattle.channel_table.proofs.Base.{◌≡◌, ◌∙◌, ℕ, zero, suc, ◌+◌, ◌<◌, ◌≤◌, Bool, true, false, List, [], ◌∷◌, ◌++◌, Option, Some, None, refl, ap, ap₂, sym, subst, map, take, drop, get_or, length, append_assoc, arith, MatchOption, nat_tests, flat_map-append, append-nil, drop_more, map-append, take_more, AllByRecursion, list_any, eq_by_cmp, nat_cmp, IfSome, IsSomeAnd, filter_map, flat_map, if◌then◌else◌, is_some, option_map, option_to_list, Answer, ServerKey, Ticket, leg_of, Judged, IsWaiting, flying_in, Flying, Phase, Flags, tied_keys, key_cmp, Key, after, IsApart, NoneFlies, Becomes, EndsRow, kept_of, AreFlown, entry_by_id, entry_by_leg, key_of_lookup, value_at, begun_flown, ended_of, left_of, left_second, has_left, row_set, all_lookups, begun_row, lookup_at, lookups, flying_of, is_flying, leg_of_lookup, new_lookup, BeginsRow, IsFree, WaitsAt, flying_id, has_id, row_has_id, After, Ends, Stays, Row, Asked, Concerned, Lookup, Flown}
use Rattle.std.proofs.Common.{◌==◌}
use Rattle.std.proofs.Common.{◌||◌}
use Rattle.std.specs.FinMap as finite
use Rattle.id_pool.specs.Identifiers.{AllUsed, IsFirstFree}
use Rattle.query_machine.specs.declared.leg.Leg as machine
use Rattle.query_machine.specs.declared.leg.Phase.TheVariants as phases
use Rattle.channel_table.proofs.Faulting.{ends_more, stays_more}
use Rattle.channel_table.proofs.FlownLemmas.{after_flown, begin_flown, more_flown, row_gone, set_flown, lookups_left}
use Rattle.channel_table.proofs.LookupLists.{any_lookups}

no_attempt : {A : Type 0} (o : Option A) → is_some o ≡ false → o ≡ None
no_attempt None e = refl
no_attempt (Some x) e = absurd cc

-- ---- identifiers

-- the list has an item
abbrev filled : {V : Type 0} → List V → Bool
filled [] = false
filled (v ∷ vs) = true

filled-append : {V : Type 0} (xs ys : List V) → filled (xs ++ ys) ≡ (filled xs || filled ys)
filled-append [] ys = refl
filled-append (x ∷ xs) ys = refl

filled_option : {V : Type 0} (o : Option V) → filled (option_to_list o) ≡ is_some o
filled_option None = refl
filled_option (Some v) = refl

same_id : (x y : ℕ) → eq_by_cmp nat_cmp x y ≡ (y == x)
same_id x y = grind (arith, nat_tests)

lookup_id : (id : ℕ) (lookup : Lookup) → filled (value_at nat_cmp id (entry_by_id lookup)) ≡ has_id id lookup
lookup_id id lookup = by_flying (flying_of lookup)
  where
    by_test : (key : Key) (b : Bool) → filled (if b then key ∷ [] else []) ≡ b
    by_test key true = refl
    by_test key false = refl

    by_flying : (o : Option Flying) → filled (value_at nat_cmp id (option_map (λ (flying : Flying). (flying.id, key_of_lookup lookup)) o)) ≡ flying_id id o
    by_flying None = refl
    by_flying (Some flying) = by_test (key_of_lookup lookup) (eq_by_cmp nat_cmp id flying.id) ∙ same_id id flying.id

lookups_id : (id : ℕ) (ss : List Lookup) → filled (flat_map (λ lookup. value_at nat_cmp id (entry_by_id lookup)) ss) ≡ list_any (has_id id) ss
lookups_id id [] = refl
lookups_id id (lookup ∷ ss) =
    filled-append (value_at nat_cmp id (entry_by_id lookup)) (flat_map (λ s. value_at nat_cmp id (entry_by_id s)) ss) ∙ ap₂ (λ a b. a || b) (lookup_id id lookup) (lookups_id id ss)

module _ {T : Type 0} (flown : Flown) (rows : List (Row T)) (are : AreFlown flown (all_lookups rows)) where
  -- an identifier is found where an attempt of the rows has it
  pub ids_alike : (id : ℕ) → finite.contains_key flown.flights id ≡ list_any (row_has_id id) rows
  ids_alike id = sym (filled_option (finite.get flown.flights id)) ∙ ap filled (sym (are.by_id id)) ∙ lookups_id id (all_lookups rows) ∙ sym (any_lookups (has_id id) rows)

  -- the first free one is so of the rows
  pub free_is : (word : ℕ) (o : Option ℕ) → MatchOption o (AllUsed (finite.contains_key flown.flights)) (IsFirstFree (finite.contains_key flown.flights) word) → IsFree rows word o
  free_is word None all = λ id small. sym (ids_alike id) ∙ all id small
  free_is word (Some id) first = (first.steps, first.few, first.reached, sym (ids_alike id) ∙ first.free, λ step less. sym (ids_alike _) ∙ first.passed step less)

  pub id_free : (id : ℕ) → list_any (row_has_id id) rows ≡ false → finite.get flown.flights id ≡ None
  id_free id none = no_attempt (finite.get flown.flights id) (ids_alike id ∙ none)

-- no attempt of a leg is found where none of the lookups is its
no_values : (key : Key) (ss : List Lookup) → NoneFlies (leg_of key.number key.leg) ss → flat_map (λ lookup. value_at key_cmp key (entry_by_leg lookup)) ss ≡ []
no_values key [] none = refl
no_values key (lookup ∷ ss) none = ap₂ (λ us ws. us ++ ws) (by_flying (flying_of lookup) refl) (no_values key ss none.1)
  where
    by_tie : (flying : Flying) (b : Bool) → flying_of lookup ≡ Some flying → eq_by_cmp key_cmp key (key_of_lookup lookup) ≡ b → (if b then flying.due ∷ [] else []) ≡ []
    by_tie flying true flies is =
        let same : leg_of_lookup lookup ≡ leg_of key.number key.leg = ap (λ (k : Key). leg_of k.number k.leg) (sym (tied_keys key (key_of_lookup lookup) is)) in
        absurd (let t : true ≡ false = ap is_some (sym flies) ∙ none.0 same in cc)
    by_tie flying false flies is = refl

    by_flying : (o : Option Flying) → flying_of lookup ≡ o → value_at key_cmp key (option_map (λ (flying : Flying). (key_of_lookup lookup, flying.due)) o) ≡ []
    by_flying None is = refl
    by_flying (Some flying) is = by_tie flying (eq_by_cmp key_cmp key (key_of_lookup lookup)) is refl

nothing_there : {V : Type 0} (o : Option V) → [] ≡ option_to_list o → o ≡ None
nothing_there None e = refl
nothing_there (Some v) e = absurd cc

pub leg_free : (flown : Flown) (ss : List Lookup) (key : Key) → AreFlown flown ss → NoneFlies (leg_of key.number key.leg) ss → finite.get flown.deadlines key ≡ None
leg_free flown ss key are none = nothing_there (finite.get flown.deadlines key) (sym (no_values key ss none) ∙ are.by_leg key)

-- ---- changes of the rows

more_lookups : (flown : Flown) (xs ys ss : List Lookup) → AllByRecursion (λ (lookup : Lookup). is_flying lookup ≡ false) ss → AreFlown flown (xs ++ ys) → AreFlown flown (xs ++ (ss ++ ys))
more_lookups flown xs ys [] idle are = are
more_lookups flown xs ys (lookup ∷ ss) idle are = more_flown flown xs (ss ++ ys) lookup (no_attempt (flying_of lookup) idle.0) (more_lookups flown xs ys ss idle.1 are)

module _ {T : Type 0} where
  parts : (before behind : List (Row T)) (row : Row T) → all_lookups (before ++ row ∷ behind) ≡ all_lookups before ++ (lookups row ++ all_lookups behind)
  parts before behind row = flat_map-append lookups before (row ∷ behind)

  pub push_flown : (flown : Flown) (rows : List (Row T)) (row : Row T) → AllByRecursion (λ (lookup : Lookup). is_flying lookup ≡ false) (lookups row) → AreFlown flown (all_lookups rows) → AreFlown flown (all_lookups (rows ++ row ∷ []))
  push_flown flown rows row idle are =
      subst (AreFlown flown) (sym (parts rows [] row)) (more_lookups flown (all_lookups rows) [] (lookups row) idle (subst (AreFlown flown) (sym (append-nil (all_lookups rows))) are))

  pub ends_flown : (flown : Flown) (flags : Flags) (concerned : Concerned) (judged : Judged) (reply : List ℕ) (most : ℕ) (answer : Option Answer) (index : ℕ) (rows : List (Row T)) (tickets : List (Ticket T)) (new_rows : List (Row T)) (new_tickets : List (Ticket T))
      (ends : EndsRow flags concerned judged reply most answer index rows tickets new_rows new_tickets) → AreFlown flown (all_lookups rows) → AreFlown (ended_of concerned (is_some answer) ends.row flown) (all_lookups new_rows)
  ends_flown flown flags concerned judged reply most answer index rows tickets new_rows new_tickets ends are =
      by_after (after flags concerned judged reply most ends.row answer) ends.becomes
      (after_flown flown (all_lookups before) (all_lookups behind) ends.row flags concerned judged reply most answer (subst (AreFlown flown) (ap all_lookups ends.parts ∙ parts before behind ends.row) are))
    where
      before : List (Row T)
      before = take index rows

      behind : List (Row T)
      behind = drop (index + 1) rows

      by_after : (a : After T) → Becomes before behind tickets new_rows new_tickets a → AreFlown (ended_of concerned (is_some answer) ends.row flown) (all_lookups before ++ (lookups_left a ++ all_lookups behind)) → AreFlown (ended_of concerned (is_some answer) ends.row flown) (all_lookups new_rows)
      by_after (Stays row) becomes there = subst (AreFlown (ended_of concerned (is_some answer) ends.row flown)) (sym (ap all_lookups becomes.0 ∙ parts before behind row)) there
      by_after (Ends ticket) becomes there = subst (AreFlown (ended_of concerned (is_some answer) ends.row flown)) (sym (ap all_lookups becomes.0 ∙ flat_map-append lookups before behind)) there

  pub begins_flown : (flown : Flown) (flying : Flying) (index : ℕ) (second : Bool) (rows new_rows : List (Row T)) (begins : BeginsRow flying index second rows new_rows) (lookup : Lookup) → lookup_at second begins.row ≡ Some lookup → flying_of lookup ≡ None
      → finite.get flown.flights flying.id ≡ None → finite.get flown.deadlines (key_of_lookup lookup) ≡ None → AreFlown flown (all_lookups rows) → AreFlown (begun_flown (key_of_lookup lookup) flying.id flying.due flown) (all_lookups new_rows)
  begins_flown flown flying index second rows new_rows begins lookup at none free idle are =
      let before = take index rows in
      let behind = drop (index + 1) rows in
      subst (AreFlown (begun_flown (key_of_lookup lookup) flying.id flying.due flown)) (sym (ap all_lookups begins.becomes ∙ parts before behind (begun_row flying second begins.row)))
      (begin_flown flown (all_lookups before) (all_lookups behind) begins.row flying second lookup at none free idle (subst (AreFlown flown) (ap all_lookups begins.parts ∙ parts before behind begins.row) are))

  -- ---- one row after the other

  module _ (flown : Flown) (rows : List (Row T)) (i : ℕ) (row : Row T) (inside : i < length rows) (is : row ≡ get_or rows i row) where
    rest : drop i rows ≡ row ∷ drop (i + 1) rows
    rest = drop_more rows i row inside ∙ ap (λ (r : Row T). r ∷ drop (i + 1) rows) (sym is)

    taken : take (i + 1) rows ≡ take i rows ++ row ∷ []
    taken = take_more rows i row inside ∙ ap (λ (r : Row T). take i rows ++ r ∷ []) (sym is)

    pub gone_step : AreFlown flown (all_lookups (drop i rows)) → AreFlown (left_of true true row flown) (all_lookups (drop (i + 1) rows))
    gone_step are = row_gone flown [] (all_lookups (drop (i + 1) rows)) row (subst (λ (rs : List (Row T)). AreFlown flown (all_lookups rs)) rest are)

    next : (before : List (Row T)) (new : Row T) → (all_lookups before ++ (lookups new ++ all_lookups (drop (i + 1) rows))) ≡ all_lookups (before ++ new ∷ []) ++ all_lookups (drop (i + 1) rows)
    next before new =
        sym (append_assoc (all_lookups before) (lookups new) (all_lookups (drop (i + 1) rows)))
        ∙ ap (λ ss. ss ++ all_lookups (drop (i + 1) rows)) (ap (λ ss. all_lookups before ++ ss) (sym (append-nil (lookups new))) ∙ sym (parts before [] new))

    pub set_step : (list : List ServerKey) → AreFlown flown (all_lookups (map (row_set list) (take i rows)) ++ all_lookups (drop i rows))
        → AreFlown (left_of (has_left list row.first) (left_second list row.second) row flown) (all_lookups (map (row_set list) (take (i + 1) rows)) ++ all_lookups (drop (i + 1) rows))
    set_step list are =
        let before = map (row_set list) (take i rows) in
        let there = set_flown flown (all_lookups before) (all_lookups (drop (i + 1) rows)) row list (subst (λ (rs : List (Row T)). AreFlown flown (all_lookups before ++ all_lookups rs)) rest are) in
        subst (AreFlown (left_of (has_left list row.first) (left_second list row.second) row flown))
        (next before (row_set list row) ∙ ap (λ (rs : List (Row T)). all_lookups rs ++ all_lookups (drop (i + 1) rows)) (sym (ap (map (row_set list)) taken ∙ map-append (row_set list) (take i rows) (row ∷ [])))) there

    pub over_step : (flags : Flags) (concerned : Concerned) (judged : Judged) (reply : List ℕ) (most : ℕ) (answer : Row T → Option Answer)
        → AreFlown flown (all_lookups (filter_map kept_of (map (λ (r : Row T). after flags concerned judged reply most r (answer r)) (take i rows))) ++ all_lookups (drop i rows))
        → AreFlown (ended_of concerned (is_some (answer row)) row flown) (all_lookups (filter_map kept_of (map (λ (r : Row T). after flags concerned judged reply most r (answer r)) (take (i + 1) rows))) ++ all_lookups (drop (i + 1) rows))
    over_step flags concerned judged reply most answer are =
        subst (λ (rs : List (Row T)). AreFlown (ended_of concerned (is_some (answer row)) row flown) (all_lookups (filter_map kept_of (map f rs)) ++ all_lookups (drop (i + 1) rows))) (sym taken)
        (by_after (f row) refl (after_flown flown (all_lookups before) (all_lookups (drop (i + 1) rows)) row flags concerned judged reply most (answer row) (subst (λ (rs : List (Row T)). AreFlown flown (all_lookups before ++ all_lookups rs)) rest are)))
      where
        f : Row T → After T
        f r = after flags concerned judged reply most r (answer r)

        before : List (Row T)
        before = filter_map kept_of (map f (take i rows))

        by_after : (a : After T) → f row ≡ a → AreFlown (ended_of concerned (is_some (answer row)) row flown) (all_lookups before ++ (lookups_left a ++ all_lookups (drop (i + 1) rows)))
            → AreFlown (ended_of concerned (is_some (answer row)) row flown) (all_lookups (filter_map kept_of (map f (take i rows ++ row ∷ []))) ++ all_lookups (drop (i + 1) rows))
        by_after (Stays new) e there = subst (AreFlown (ended_of concerned (is_some (answer row)) row flown)) (next before new ∙ ap (λ (rs : List (Row T)). all_lookups rs ++ all_lookups (drop (i + 1) rows)) (sym (stays_more f (take i rows) row new e).0)) there
        by_after (Ends ticket) e there = subst (λ (rs : List (Row T)). AreFlown (ended_of concerned (is_some (answer row)) row flown) (all_lookups rs ++ all_lookups (drop (i + 1) rows))) (sym (ends_more f (take i rows) row ticket e).0) there

-- ---- the begin of an attempt

pub waiting_idle : (phase : Phase) → IsWaiting phase → flying_in phase ≡ None
waiting_idle phases.Waiting waits = refl
waiting_idle (phases.InFlight flying) waits = absurd waits
waiting_idle (phases.Ended status) waits = absurd waits

module _ {T : Type 0} (flown : Flown) (index : ℕ) (second : Bool) (rows : List (Row T)) (apart : IsApart index second rows) (are : AreFlown flown (all_lookups rows)) (got : Lookup) where
  -- the leg of the lookup has no attempt that is found
  pub leg_idle : (row : Row T) → row ≡ get_or rows index row → IfSome (lookup_at second row) (λ (lookup : Lookup). got ≡ lookup) → finite.contains_key flown.deadlines (key_of_lookup got) ≡ false
  leg_idle row is told = by_lookup (lookup_at second row) (subst (λ (r : Row T). IsSomeAnd (lookup_at second r) (λ (lookup : Lookup). NoneFlies (leg_of_lookup lookup) (all_lookups rows))) (sym is) (apart row)) told
    where
      by_lookup : (o : Option Lookup) → IsSomeAnd o (λ (lookup : Lookup). NoneFlies (leg_of_lookup lookup) (all_lookups rows)) → IfSome o (λ (lookup : Lookup). got ≡ lookup) → finite.contains_key flown.deadlines (key_of_lookup got) ≡ false
      by_lookup None none told = absurd none
      by_lookup (Some lookup) none told = ap is_some (leg_free flown (all_lookups rows) (key_of_lookup got) are (subst (λ (s : Lookup). NoneFlies (leg_of_lookup s) (all_lookups rows)) (sym told) none))

  -- and it is found with its attempt
  pub begin_found : (flying : Flying) (new_rows : List (Row T)) (begins : BeginsRow flying index second rows new_rows) → WaitsAt index second rows → list_any (row_has_id flying.id) rows ≡ false → IfSome (lookup_at second begins.row) (λ (lookup : Lookup). got ≡ lookup)
      → AreFlown (begun_flown (key_of_lookup got) flying.id flying.due flown) (all_lookups new_rows)
  begin_found flying new_rows begins waits free told =
      by_lookup (lookup_at second begins.row) refl (subst (λ (r : Row T). IfSome (lookup_at second r) (λ (lookup : Lookup). IsWaiting lookup.leg.phase)) (begins.is begins.row) (waits begins.row))
      (subst (λ (r : Row T). IsSomeAnd (lookup_at second r) (λ (lookup : Lookup). NoneFlies (leg_of_lookup lookup) (all_lookups rows))) (begins.is begins.row) (apart begins.row)) told
    where
      by_lookup : (o : Option Lookup) → lookup_at second begins.row ≡ o → IfSome o (λ (lookup : Lookup). IsWaiting lookup.leg.phase) → IsSomeAnd o (λ (lookup : Lookup). NoneFlies (leg_of_lookup lookup) (all_lookups rows)) → IfSome o (λ (lookup : Lookup). got ≡ lookup)
          → AreFlown (begun_flown (key_of_lookup got) flying.id flying.due flown) (all_lookups new_rows)
      by_lookup None at waits none told = absurd none
      by_lookup (Some lookup) at waits none told =
          subst (λ (s : Lookup). AreFlown (begun_flown (key_of_lookup s) flying.id flying.due flown) (all_lookups new_rows)) (sym told)
          (begins_flown flown flying index second rows new_rows begins lookup at (waiting_idle lookup.leg.phase waits) (id_free flown rows are flying.id free) (leg_free flown (all_lookups rows) (key_of_lookup lookup) are none) are)

-- ---- lists

pub drop_none : {X : Type 0} (xs : List X) (i : ℕ) → length xs ≤ i → drop i xs ≡ []
drop_none [] zero short = refl
drop_none [] (suc i) short = refl
drop_none (x ∷ xs) zero short = absurd (omega (arith, short))
drop_none (x ∷ xs) (suc i) short = drop_none xs i (omega (arith, short))

pub map_at : {X Y : Type 0} (f : X → Y) (xs : List X) (i : ℕ) (x : X) (d : Y) → i < length xs → x ≡ get_or xs i x → get_or (map f xs) i d ≡ f x
map_at f [] i x d inside is = absurd (omega (arith, inside))
map_at f (y ∷ xs) zero x d inside is = ap f (sym is)
map_at f (y ∷ xs) (suc i) x d inside is = map_at f xs i x d (omega (arith, inside)) is

-- the lookups of a new request have no attempt
pub new_idle : (number leg_number : ℕ) (asked : Asked) (second : Option Asked) (leg : machine.Leg) → flying_in leg.phase ≡ None
    → AllByRecursion (λ (lookup : Lookup). is_flying lookup ≡ false) (new_lookup number leg_number asked leg ∷ option_to_list (option_map (λ (a : Asked). new_lookup number 1 a leg) second))
new_idle number leg_number asked None leg none = (ap is_some none, tt)
new_idle number leg_number asked (Some other) leg none = (ap is_some none, (ap is_some none, tt))
