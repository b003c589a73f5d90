-- The first deadline that is kept is the first of the rows.
use Rattle.channel_table.proofs.Base.{◌≡◌, ◌<◌, ◌∙◌, ℕ, Bool, true, false, List, [], ◌∷◌, ◌++◌, Option, Some, None, refl, ap, sym, subst, append_assoc, arith, inl, inr, and_parts, false≢true, nat_tests, AllByRecursion, cons_option, eq_by_cmp, is_le, nat_cmp, ordering_then, option_map_or, IfSome, filter_map, flat_map, if◌then◌else◌, nat_le, option_map, option_to_list, Ordering, Less, Equal, Greater, Due, is_before, least, least_due, leg_of, Flying, key_cmp_total, tied_keys, key_cmp, Deadlines, IsFirst, Key, AreFlown, entry_by_leg, key_of_lookup, value_at, all_lookups, flying_of, leg_of_lookup, due_of_lookup, dues, Row, Lookup, Flown}
use Rattle.std.proofs.Common.{◌==◌}
use Rattle.std.proofs.Common.{◌&&◌, ◌||◌, ◌⊎◌}
use Rattle.std.proofs.lemmas.Bool.{eqb-true}
use Rattle.std.specs.FinMap as map
use Rattle.std.specs.Ordering.{is_eq, is_lt}
use Rattle.std.specs.Prelude.{nat_lt}
use Rattle.channel_table.proofs.EntryLemmas.{entry_there}

-- a deadline stands in the list
abbrev IsThere : Due → List Due → Type 0
IsThere first [] = ⊥
IsThere first (d ∷ ds) = (d ≡ first) ⊎ IsThere first ds

-- it doesn't come before the first one
abbrev IsBehind : Due → Due → Type 0
IsBehind first d = ((d ≡ first) ⊎ (is_before first d ≡ true)) × (is_before d first ≡ false)

-- one that stands in the list, and behind which all are, is the least
least_due_is : (first best : Due) (ds : List Due) → IsBehind first best → AllByRecursion (IsBehind first) ds → (best ≡ first) ⊎ IsThere first ds → least_due best ds ≡ first
least_due_is first best [] own all (inl e) = e
least_due_is first best [] own all (inr e) = absurd e
least_due_is first best (next ∷ rest) own all there = by_test (is_before next best) refl there (λ b t. least_due_is first b rest t all.1)
  where
    by_test : (b : Bool) → is_before next best ≡ b → (best ≡ first) ⊎ ((next ≡ first) ⊎ IsThere first rest) → ((b : Due) → IsBehind first b → (b ≡ first) ⊎ IsThere first rest → least_due b rest ≡ first)
        → least_due (if b then next else best) rest ≡ first
    by_test true is (inl e) go = absurd (false≢true (sym all.0.1 ∙ ap (is_before next) (sym e) ∙ is))
    by_test true is (inr (inl e)) go = go next all.0 (inl e)
    by_test true is (inr (inr t)) go = go next all.0 (inr t)
    by_test false is (inl e) go = go best own (inl e)
    by_test false is (inr (inl e)) go = by_own own.0
      where
        by_own : (best ≡ first) ⊎ (is_before first best ≡ true) → least_due best rest ≡ first
        by_own (inl same) = go best own (inl same)
        by_own (inr before) = absurd (false≢true (sym is ∙ ap (λ (d : Due). is_before d best) e ∙ before))
    by_test false is (inr (inr t)) go = go best own (inr t)

least_is : (first : Due) (ds : List Due) → AllByRecursion (IsBehind first) ds → IsThere first ds → least ds ≡ Some first
least_is first [] all there = absurd there
least_is first (d ∷ ds) all there = ap Some (least_due_is first d ds all.0 all.1 there)

-- ---- the order of keys and that of deadlines

abbrev due_at_key : Key → ℕ → Due
due_at_key key at = record { at = at; leg = leg_of key.number key.leg }

is_le_then : (r s : Ordering) → is_le (ordering_then r s) ≡ (is_lt r || (is_eq r && is_le s))
is_le_then Less s = refl
is_le_then Equal s = refl
is_le_then Greater s = refl

not_before : (a n l b m k : ℕ) → is_le (ordering_then (nat_cmp a b) (ordering_then (nat_cmp n m) (nat_cmp l k))) ≡ true → (nat_lt b a || ((b == a) && (nat_lt m n || ((m == n) && nat_lt k l)))) ≡ false
not_before a n l b m k upto = grind (arith, nat_tests, is_le_then (nat_cmp a b) (ordering_then (nat_cmp n m) (nat_cmp l k)), is_le_then (nat_cmp n m) (nat_cmp l k), upto)

before_or : (a n l b m k : ℕ) → is_le (ordering_then (nat_cmp a b) (ordering_then (nat_cmp n m) (nat_cmp l k))) ≡ true → ((nat_lt a b || ((a == b) && (nat_lt n m || ((n == m) && nat_lt l k)))) || ((a == b) && ((n == m) && (l == k)))) ≡ true
before_or a n l b m k upto = grind (arith, nat_tests, is_le_then (nat_cmp a b) (ordering_then (nat_cmp n m) (nat_cmp l k)), is_le_then (nat_cmp n m) (nat_cmp l k), upto)

-- a key that comes first is due no later than another one
behind_first : (key other : Key) (due moment : ℕ) → is_le (ordering_then (nat_cmp due moment) (key_cmp key other)) ≡ true → IsBehind (due_at_key key due) (due_at_key other moment)
behind_first key other due moment upto =
    (by_or (is_before (due_at_key key due) (due_at_key other moment)) refl (before_or due key.number key.leg moment other.number other.leg upto), not_before due key.number key.leg moment other.number other.leg upto)
  where
    same : ((due == moment) && ((key.number == other.number) && (key.leg == other.leg))) ≡ true → due_at_key other moment ≡ due_at_key key due
    same e =
        let one = and_parts (due == moment) ((key.number == other.number) && (key.leg == other.leg)) e in
        let two = and_parts (key.number == other.number) (key.leg == other.leg) one.1 in
        sym (λ i. record { at = eqb-true due moment one.0 i; leg = leg_of (eqb-true key.number other.number two.0 i) (eqb-true key.leg other.leg two.1 i) })

    by_or : (b : Bool) → is_before (due_at_key key due) (due_at_key other moment) ≡ b → (b || ((due == moment) && ((key.number == other.number) && (key.leg == other.leg)))) ≡ true
        → (due_at_key other moment ≡ due_at_key key due) ⊎ (is_before (due_at_key key due) (due_at_key other moment) ≡ true)
    by_or true is e = inr is
    by_or false is e = inl (same e)

-- ---- the deadlines of lookups

module _ (flown : Flown) (key : Key) (due : ℕ) (first : IsFirst flown.deadlines key due) where
  each_behind : (xs ss : List Lookup) → AreFlown flown (xs ++ ss) → AllByRecursion (IsBehind (due_at_key key due)) (filter_map due_of_lookup ss)
  each_behind xs [] are = tt
  each_behind xs (lookup ∷ ss) are = by_flying (flying_of lookup) refl (each_behind (xs ++ lookup ∷ []) ss (subst (AreFlown flown) (sym (append_assoc xs (lookup ∷ []) ss)) are))
    where
      by_flying : (o : Option Flying) → flying_of lookup ≡ o → AllByRecursion (IsBehind (due_at_key key due)) (filter_map due_of_lookup ss)
          → AllByRecursion (IsBehind (due_at_key key due)) (cons_option (option_map (λ (flying : Flying). record { at = flying.due; leg = leg_of_lookup lookup }) o) (filter_map due_of_lookup ss))
      by_flying None is rest = rest
      by_flying (Some flying) is rest =
          let there = entry_there key_cmp_total entry_by_leg flown.deadlines xs ss lookup (key_of_lookup lookup) flying.due (ap (λ (o : Option Flying). option_map (λ (f : Flying). (key_of_lookup lookup, f.due)) o) is) are.by_leg in
          (behind_first key (key_of_lookup lookup) due flying.due (first.least (key_of_lookup lookup) flying.due there), rest)

find_there : (key : Key) (due : ℕ) (ss : List Lookup) → flat_map (λ lookup. value_at key_cmp key (entry_by_leg lookup)) ss ≡ due ∷ [] → IsThere (due_at_key key due) (filter_map due_of_lookup ss)
find_there key due [] e = absurd cc
find_there key due (lookup ∷ ss) e = by_flying (flying_of lookup) e (find_there key due ss)
  where
    by_tie : (flying : Flying) (b : Bool) → eq_by_cmp key_cmp key (key_of_lookup lookup) ≡ b → (if b then flying.due ∷ [] else []) ++ flat_map (λ s. value_at key_cmp key (entry_by_leg s)) ss ≡ due ∷ []
        → (flat_map (λ s. value_at key_cmp key (entry_by_leg s)) ss ≡ due ∷ [] → IsThere (due_at_key key due) (filter_map due_of_lookup ss))
        → (record { at = flying.due; leg = leg_of_lookup lookup } ≡ due_at_key key due) ⊎ IsThere (due_at_key key due) (filter_map due_of_lookup ss)
    by_tie flying true is e go =
        let at : flying.due ≡ due = cc in
        let own : key_of_lookup lookup ≡ key = sym (tied_keys key (key_of_lookup lookup) is) in
        inl (λ i. record { at = at i; leg = leg_of (own i).number (own i).leg })
    by_tie flying false is e go = inr (go e)

    by_flying : (o : Option Flying) → value_at key_cmp key (option_map (λ (flying : Flying). (key_of_lookup lookup, flying.due)) o) ++ flat_map (λ s. value_at key_cmp key (entry_by_leg s)) ss ≡ due ∷ []
        → (flat_map (λ s. value_at key_cmp key (entry_by_leg s)) ss ≡ due ∷ [] → IsThere (due_at_key key due) (filter_map due_of_lookup ss))
        → IsThere (due_at_key key due) (cons_option (option_map (λ (flying : Flying). record { at = flying.due; leg = leg_of_lookup lookup }) o) (filter_map due_of_lookup ss))
    by_flying None e go = go e
    by_flying (Some flying) e go = by_tie flying (eq_by_cmp key_cmp key (key_of_lookup lookup)) refl e go

-- the first deadline that is kept is the least of the rows
pub first_least : {T : Type 0} (flown : Flown) (rows : List (Row T)) (key : Key) (due : ℕ) → AreFlown flown (all_lookups rows) → IsFirst flown.deadlines key due → least (dues rows) ≡ Some (record { at = due; leg = leg_of key.number key.leg })
first_least flown rows key due are first =
    least_is (due_at_key key due) (dues rows) (each_behind flown key due first [] (all_lookups rows) are) (find_there key due (all_lookups rows) (are.by_leg key ∙ ap option_to_list first.there))

-- no lookup has one where none is kept
no_lookup_due : (flown : Flown) (xs ss : List Lookup) → flown.deadlines ≡ map.empty → AreFlown flown (xs ++ ss) → filter_map due_of_lookup ss ≡ []
no_lookup_due flown xs [] empty are = refl
no_lookup_due flown xs (lookup ∷ ss) empty are = by_flying (flying_of lookup) refl (no_lookup_due flown (xs ++ lookup ∷ []) ss empty (subst (AreFlown flown) (sym (append_assoc xs (lookup ∷ []) ss)) are))
  where
    by_flying : (o : Option Flying) → flying_of lookup ≡ o → filter_map due_of_lookup ss ≡ [] → cons_option (option_map (λ (flying : Flying). record { at = flying.due; leg = leg_of_lookup lookup }) o) (filter_map due_of_lookup ss) ≡ []
    by_flying None is rest = rest
    by_flying (Some flying) is rest =
        let there = entry_there key_cmp_total entry_by_leg flown.deadlines xs ss lookup (key_of_lookup lookup) flying.due (ap (λ (o : Option Flying). option_map (λ (f : Flying). (key_of_lookup lookup, f.due)) o) is) are.by_leg in
        let gone : ◌≡◌ {A = Option ℕ} (Some flying.due) None = sym there ∙ ap (λ (m : Deadlines). map.get m (key_of_lookup lookup)) empty ∙ map.get-empty key_cmp (key_of_lookup lookup) in
        absurd cc

-- no row has one
pub none_due : {T : Type 0} (flown : Flown) (rows : List (Row T)) → flown.deadlines ≡ map.empty → AreFlown flown (all_lookups rows) → dues rows ≡ []
none_due flown rows empty are = no_lookup_due flown [] (all_lookups rows) empty are

-- ---- whether the first is due at a moment

-- its moment tells it
pub due_by_moment : (at : ℕ) (first : Option Due) (moment : Option ℕ) → moment ≡ option_map (λ (d : Due). d.at) first → option_map_or (λ m. nat_le m at) moment false ≡ option_map_or (λ (d : Due). nat_le d.at at) first false
due_by_moment at None moment is = ap (λ m. option_map_or (λ m. nat_le m at) m false) is
due_by_moment at (Some d) moment is = ap (λ m. option_map_or (λ m. nat_le m at) m false) is

-- one that isn't due is later
pub due_later : (at : ℕ) (first : Option Due) → option_map_or (λ (d : Due). nat_le d.at at) first false ≡ false → IfSome first (λ d. at < d.at)
due_later at None not = tt
due_later at (Some d) not = grind (arith, nat_tests, not)
