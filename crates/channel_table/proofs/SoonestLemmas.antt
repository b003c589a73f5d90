-- The sooner of the best of some rows and of one more is the best of all of them.
use Rattle.channel_table.proofs.Base.{◌≡◌, ◌∙◌, ℕ, Bool, true, false, List, [], ◌∷◌, ◌++◌, Option, Some, None, refl, ap, sym, subst, cond, arith, append_assoc, length, append-nil, length_push, filter_map-append, Due, is_before, least, least_due, Flying, all_lookups, lookup_at, lookups, flying_of, leg_of_lookup, IsSoonest, due_of_lookup, due_of_soonest, dues, Lookup, flat_map-append, cons_option, option_and_then, filter_map, option_map, option_to_list, Row, Soonest}
use Rattle.std.proofs.lemmas.List.{get_or_append_left, get_or_push}
use Rattle.channel_table.specs.Soonest.{IsOfRow, is_sooner, sooner, sooner_if, sooner_row, sooner_with}

-- one more deadline behind others
least_with : Due → Due → Due
least_with x y = cond (is_before x y) x y

least_due-more : (best : Due) (ys : List Due) (x : Due) → least_due best (ys ++ x ∷ []) ≡ least_with x (least_due best ys)
unfolding least_with
least_due-more best [] x = refl
least_due-more best (y ∷ ys) x = least_due-more (cond (is_before y best) y best) ys x

least-more : (xs : List Due) (x first : Due) → least xs ≡ Some first → least (xs ++ x ∷ []) ≡ Some (least_with x first)
least-more [] x first e = absurd cc
least-more (y ∷ ys) x first e = let same : least_due y ys ≡ first = cc in ap Some (least_due-more y ys x ∙ ap (least_with x) same)

-- it is the one of these deadlines that comes first, and that of a lookup of these rows; or there is none
IsBest : {T : Type 0} → List (Row T) → List Due → Option Soonest → Type 0
IsBest rows ds None = ds ≡ []
IsBest rows ds (Some found) = IsOfRow rows found × (least ds ≡ Some (due_of_soonest found))

one_due : (lookup : Lookup) (more : List Due) → cons_option (due_of_lookup lookup) more ≡ option_to_list (due_of_lookup lookup) ++ more
one_due lookup more = by_due (due_of_lookup lookup)
  where
    by_due : (o : Option Due) → cons_option o more ≡ option_to_list o ++ more
    by_due None = refl
    by_due (Some d) = refl

module _ {T : Type 0} where
  of_row_kept : (xs : List (Row T)) (row : Row T) (found : Soonest) → IsOfRow xs found → IsOfRow (xs ++ row ∷ []) found
  of_row_kept xs row found of = record {
    inside = omega (arith, of.inside, length_push xs row);
    is_due = λ d. ap (λ r. option_and_then due_of_lookup (lookup_at found.is_second r)) (get_or_append_left xs (row ∷ []) d found.index of.inside) ∙ of.is_due d;
  }

  -- the best of some rows' deadlines is one of those of more rows
  best_kept : (xs : List (Row T)) (row : Row T) (ds : List Due) (best : Option Soonest) → IsBest xs ds best → IsBest (xs ++ row ∷ []) ds best
  unfolding IsBest
  best_kept xs row ds None is = is
  best_kept xs row ds (Some found) is = (of_row_kept xs row found is.0, is.1)

  of_row_new : (xs : List (Row T)) (row : Row T) (second : Bool) (lookup : Lookup) (flying : Flying) (i : ℕ) → length xs ≡ i → lookup_at second row ≡ Some lookup → flying_of lookup ≡ Some flying
      → IsOfRow (xs ++ row ∷ []) (record { index = i; is_second = second; at = flying.due; number = lookup.number; leg_number = lookup.leg_number })
  of_row_new xs row second lookup flying i is at flies = record {
    inside = omega (arith, is, length_push xs row);
    is_due = λ d. ap (λ r. option_and_then due_of_lookup (lookup_at second r)) (get_or_push xs row d i is) ∙ ap (option_and_then due_of_lookup) at ∙ rw flies refl;
  }

  -- the sooner of the best so far and the attempt of one more lookup
  best_more : (xs : List (Row T)) (row : Row T) (ds : List Due) (best : Option Soonest) (second : Bool) (lookup : Lookup) (i : ℕ) (o : Option Flying) → flying_of lookup ≡ o → length xs ≡ i → lookup_at second row ≡ Some lookup → IsBest (xs ++ row ∷ []) ds best
      → IsBest (xs ++ row ∷ []) (ds ++ option_to_list (option_map (λ (flying : Flying). record { at = flying.due; leg = leg_of_lookup lookup }) o)) (sooner_with best i second lookup.number lookup.leg_number o)
  unfolding IsBest least_with
  best_more xs row ds None second lookup i None flies is at none = ap (λ ys. ys ++ []) none
  best_more xs row ds (Some first) second lookup i None flies is at s = (s.0, ap least (append-nil ds) ∙ s.1)
  best_more xs row ds None second lookup i (Some flying) flies is at none =
      (of_row_new xs row second lookup flying i is at flies, ap (λ ys. least (ys ++ record { at = flying.due; leg = leg_of_lookup lookup } ∷ [])) none)
  best_more xs row ds (Some first) second lookup i (Some flying) flies is at s = by_test (is_sooner (record { index = i; is_second = second; at = flying.due; number = lookup.number; leg_number = lookup.leg_number }) first) refl
    where
      more : least (ds ++ record { at = flying.due; leg = leg_of_lookup lookup } ∷ []) ≡ Some (least_with (due_of_soonest (record { index = i; is_second = second; at = flying.due; number = lookup.number; leg_number = lookup.leg_number })) (due_of_soonest first))
      more = least-more ds _ (due_of_soonest first) s.1

      by_test : (b : Bool) → is_sooner (record { index = i; is_second = second; at = flying.due; number = lookup.number; leg_number = lookup.leg_number }) first ≡ b
          → IsBest (xs ++ row ∷ []) (ds ++ record { at = flying.due; leg = leg_of_lookup lookup } ∷ []) (cond b (Some (record { index = i; is_second = second; at = flying.due; number = lookup.number; leg_number = lookup.leg_number })) (Some first))
      by_test true e = (of_row_new xs row second lookup flying i is at flies, more ∙ ap (λ b. Some (cond b (due_of_soonest (record { index = i; is_second = second; at = flying.due; number = lookup.number; leg_number = lookup.leg_number })) (due_of_soonest first))) e)
      by_test false e = (s.0, more ∙ ap (λ b. Some (cond b (due_of_soonest (record { index = i; is_second = second; at = flying.due; number = lookup.number; leg_number = lookup.leg_number })) (due_of_soonest first))) e)

  -- the deadlines of the lookups of one more row come behind those of the rows before
  dues_more : (xs : List (Row T)) (row : Row T) → dues (xs ++ row ∷ []) ≡ dues xs ++ filter_map due_of_lookup (lookups row)
  dues_more xs row =
      ap (filter_map due_of_lookup) (flat_map-append lookups xs (row ∷ []) ∙ ap (λ ys. all_lookups xs ++ ys) (append-nil (lookups row))) ∙ filter_map-append due_of_lookup (all_lookups xs) (lookups row)

  best_row : (xs : List (Row T)) (row : Row T) (ds : List Due) (best : Option Soonest) (i : ℕ) (second : Option Lookup) → row.second ≡ second → length xs ≡ i → IsBest (xs ++ row ∷ []) ds best
      → IsBest (xs ++ row ∷ []) (ds ++ filter_map due_of_lookup (row.first ∷ option_to_list second)) (sooner_if (sooner best i false row.first) i second)
  best_row xs row ds best i None at is b =
      let one = best_more xs row ds best false row.first i (flying_of row.first) refl is refl b in
      subst (λ ys. IsBest (xs ++ row ∷ []) (ds ++ ys) (sooner best i false row.first)) (sym (one_due row.first [] ∙ append-nil (option_to_list (due_of_lookup row.first)))) one
  best_row xs row ds best i (Some lookup) at is b =
      let one = best_more xs row ds best false row.first i (flying_of row.first) refl is refl b in
      let two = best_more xs row (ds ++ option_to_list (due_of_lookup row.first)) (sooner best i false row.first) true lookup i (flying_of lookup) refl is at one in
      subst (λ ys. IsBest (xs ++ row ∷ []) ys (sooner (sooner best i false row.first) i true lookup))
      (append_assoc ds (option_to_list (due_of_lookup row.first)) (option_to_list (due_of_lookup lookup))
      ∙ ap (λ ys. ds ++ ys) (sym (one_due row.first (cons_option (due_of_lookup lookup) []) ∙ ap (λ ys. option_to_list (due_of_lookup row.first) ++ ys) (one_due lookup [] ∙ append-nil (option_to_list (due_of_lookup lookup)))))) two

  soonest_is : (xs : List (Row T)) (best : Option Soonest) → IsSoonest xs best → IsBest xs (dues xs) best
  unfolding IsBest
  soonest_is xs None is = is
  soonest_is xs (Some found) is = is

  is_soonest : (xs : List (Row T)) (best : Option Soonest) → IsBest xs (dues xs) best → IsSoonest xs best
  unfolding IsBest
  is_soonest xs None is = is
  is_soonest xs (Some found) is = is

  pub soonest_more : (xs : List (Row T)) (row : Row T) (best : Option Soonest) (i : ℕ) → length xs ≡ i → IsSoonest xs best → IsSoonest (xs ++ row ∷ []) (sooner_row best i row)
  soonest_more xs row best i is s =
      is_soonest (xs ++ row ∷ []) (sooner_row best i row)
      (subst (λ ds. IsBest (xs ++ row ∷ []) ds (sooner_row best i row)) (sym (dues_more xs row)) (best_row xs row (dues xs) best i row.second refl is (best_kept xs row (dues xs) best (soonest_is xs best s))))
