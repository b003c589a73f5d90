-- The first element of a list that passes a test, and the list without it.
use Rattle.std.proofs.Common.{◌≡◌, ℕ, suc, ◌+◌, ◌<◌, ◌≤◌, List, [], ◌∷◌, ◌++◌, length, get_or, add-one, take, Bool, true, false, cond, not, Some, None, refl, sym, ap, subst, ◌∙◌, ⊎_elim, arith}
use Rattle.std.specs.Prelude.{find, filter, position, remove, nat_lt, All}
use Rattle.std.specs.List.{before_first, after_first, position_or_len, slice_get}
use Rattle.std.proofs.lemmas.Bool.{ltb-true, ltb-false}
use Rattle.std.proofs.lemmas.List.{take_all, drop_all, append-nil}
use Rattle.std.proofs.lemmas.List.Elements.{filter-append}
use Rattle.std.proofs.lemmas.List.Folds.{find_at}
use Rattle.std.proofs.lemmas.List.Sums.{split_at_first, passes_at_first}
use Rattle.std.proofs.lemmas.Option.{slice_get_past, slice_get_cases, slice_get-get_or, slice_get_within, get_or_from_slice_get}

-- a choice that gave something chose it
chosen : (b : Bool) (n i : ℕ) → cond b (Some n) None ≡ Some i → (b ≡ true) × (n ≡ i)
chosen true n i is = (refl, cc)
chosen false n i is = absurd (cc)

-- a choice that gave nothing chose so
not_chosen : (b : Bool) (n : ℕ) → cond b (Some n) None ≡ None → b ≡ false
not_chosen true n is = absurd (cc)
not_chosen false n is = refl

module _ {X : Type 0} (p : X → Bool) where
  one_more : (b : Bool) (x : X) (xs : List X) → p x ≡ b → filter p (before_first p xs) ≡ [] → filter p (take (cond (not b) (1 + position_or_len p xs) 0) (x ∷ xs)) ≡ []
  one_more true x xs passes rest = refl
  one_more false x xs fails rest =
      let more : 1 + position_or_len p xs ≡ suc (position_or_len p xs) = omega arith in
      rw more (rw fails rest)

  -- nothing before it passes
  filter-before_first : (xs : List X) → filter p (before_first p xs) ≡ []
  filter-before_first [] = refl
  filter-before_first (x ∷ xs) = one_more (p x) x xs refl (filter-before_first xs)

  -- where none passes, nothing is left out
  nothing_left_out : (xs : List X) → length xs ≤ position_or_len p xs → before_first p xs ++ after_first p xs ≡ xs
  nothing_left_out xs past =
      rw (take_all (position_or_len p xs) xs past, drop_all (position_or_len p xs + 1) xs (omega arith)) (append-nil xs)

  -- where it has no index, it isn't found, and nothing is left out
  pub first_none : (xs : List X) → position p xs ≡ None → (find p xs ≡ None) × (before_first p xs ++ after_first p xs ≡ xs)
  first_none xs none =
      let n = position_or_len p xs in
      let past : length xs ≤ n = omega (arith, ltb-false n (length xs) (not_chosen (nat_lt n (length xs)) n none)) in
      (find_at p xs ∙ slice_get_past xs n past, nothing_left_out xs past)

  -- where it stands at an index, it is found there, and removing it leaves the others
  pub first_some : (xs : List X) (i : ℕ) (d : X) → position p xs ≡ Some i → (i < length xs) × (find p xs ≡ Some (get_or xs i d)) × (before_first p xs ++ after_first p xs ≡ remove xs i)
  first_some xs i d some =
      let n = position_or_len p xs in
      let is = chosen (nat_lt n (length xs)) n i some in
      let within : n < length xs = ltb-true n (length xs) is.0 in (
        omega (arith, is.1),
        find_at p xs ∙ slice_get-get_or xs n d within ∙ ap (λ (k : ℕ). Some (get_or xs k d)) is.1,
        rw (is.1, add-one) refl,
      )

  -- what passes is the first that passes, and then what passes without it
  pub filter_first : (xs : List X) (x : X) → find p xs ≡ Some x → filter p xs ≡ x ∷ filter p (before_first p xs ++ after_first p xs)
  filter_first xs x found =
      let here = sym (find_at p xs) ∙ found in
      let within = slice_get_within xs (position_or_len p xs) x here in
      let is : get_or xs (position_or_len p xs) x ≡ x = get_or_from_slice_get xs (position_or_len p xs) x x here in
      let passes : p x ≡ true = ap p (sym is) ∙ passes_at_first p xs x within in
      let split : xs ≡ before_first p xs ++ (x ∷ after_first p xs) = rw is at (split_at_first p xs x within) in
      let left : filter p (before_first p xs ++ after_first p xs) ≡ filter p (after_first p xs) =
      rw (filter-append p (before_first p xs) (after_first p xs), filter-before_first xs) refl in
      ap (filter p) split ∙ rw (filter-append p (before_first p xs) (x ∷ after_first p xs), filter-before_first xs, passes, left) refl

  all_fail : (b : Bool) (x : X) (xs : List X) → p x ≡ b → cond b (Some x) (find p xs) ≡ None → (find p xs ≡ None → filter p xs ≡ []) → cond b (x ∷ filter p xs) (filter p xs) ≡ []
  all_fail true x xs passes none rest = absurd (cc)
  all_fail false x xs fails none rest = rest none

  -- where none is found, none passes
  pub filter_none : (xs : List X) → find p xs ≡ None → filter p xs ≡ []
  filter_none [] none = refl
  filter_none (x ∷ xs) none = all_fail (p x) x xs refl none (filter_none xs)

  -- where none is found, nothing is left out
  pub none_left_out : (xs : List X) → find p xs ≡ None → before_first p xs ++ after_first p xs ≡ xs
  none_left_out xs none =
      let here : slice_get xs (position_or_len p xs) ≡ None = sym (find_at p xs) ∙ none in
      nothing_left_out xs (⊎_elim (λ within. absurd (cc (here, within.2))) (λ past. past.0) (slice_get_cases xs (position_or_len p xs)).1)

  -- what holds of all holds of the one that is found
  pub first_holds : (P : X → Type 0) (xs : List X) (x : X) → All P xs → find p xs ≡ Some x → P x
  first_holds P xs x each found =
      let here = sym (find_at p xs) ∙ found in
      let is : get_or xs (position_or_len p xs) x ≡ x = get_or_from_slice_get xs (position_or_len p xs) x x here in
      subst P is (each (position_or_len p xs) x (slice_get_within xs (position_or_len p xs) x here))
