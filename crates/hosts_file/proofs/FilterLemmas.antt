-- What a filter keeps of parts of a list.
use Rattle.std.proofs.Common.{◌≡◌, ℕ, ◌+◌, ◌-◌, ◌<◌, ◌≤◌, Bool, true, false, List, [], ◌∷◌, ◌++◌, length, map, filter, take, drop, get_or, All, Contains, refl, ap, sym, subst, ◌∙◌, append-nil, arith}
use Rattle.std.specs.List.{AllWithin}
use Rattle.std.proofs.lemmas.Bool.{cond-true}
use Rattle.std.proofs.lemmas.List.{get_or-map, get_or-take, get_or-drop, length-map, length-take, length-drop, take-append-drop, take-take, drop-take, drop_more}
use Rattle.std.proofs.lemmas.List.Elements.{filter-append, All-head, All-tail, Contains-append_right}

-- an element of a list, behind a function
pub Contains-map : {X Y : Type 0} (f : X → Y) (xs : List X) (x : X) → Contains xs x → Contains (map f xs) (f x)
Contains-map f xs x found = (found.0, omega (arith, found.1, length-map xs f), get_or-map f xs found.0 x (f x) found.1 ∙ ap f found.2)

module _ {X : Type 0} (P : X → Type 0) where
  -- what holds of the first elements
  all_of_take : (n : ℕ) (xs : List X) → AllWithin P xs 0 n → All P (take n xs)
  all_of_take n xs all = λ k d lt.
      let near : k < n = omega (arith, lt, length-take n xs) in
      subst P (sym (get_or-take n xs k d near)) (all k d (omega arith) near)

  -- what holds of the last elements
  all_of_drop : (n : ℕ) (xs : List X) → AllWithin P xs n (length xs) → All P (drop n xs)
  all_of_drop n xs all = λ k d lt. subst P (sym (get_or-drop n xs k d)) (all (n + k) d (omega arith) (omega (arith, lt, length-drop n xs)))

module _ {X : Type 0} (p : X → Bool) where
  -- where none passes, none is kept
  filter_none : (xs : List X) → All (λ x. p x ≡ false) xs → filter p xs ≡ []
  filter_none [] none = refl
  filter_none (x ∷ xs) none = rw (All-head (λ x. p x ≡ false) x xs none) (filter_none xs (All-tail (λ x. p x ≡ false) x xs none))

  -- where all pass, all are kept
  filter_whole : (xs : List X) → All (λ x. p x ≡ true) xs → filter p xs ≡ xs
  filter_whole [] all = refl
  filter_whole (x ∷ xs) all = rw (All-head (λ x. p x ≡ true) x xs all) (ap (λ (rest : List X). x ∷ rest) (filter_whole xs (All-tail (λ x. p x ≡ true) x xs all)))

  -- an element that passes is kept
  pub Contains-filter : (xs : List X) (x : X) → Contains xs x → p x ≡ true → Contains (filter p xs) x
  Contains-filter xs x found passes =
      let k : ℕ = found.0 in
      let parts : take k xs ++ x ∷ drop (k + 1) xs ≡ xs =
      ap (λ (y : X). take k xs ++ y ∷ drop (k + 1) xs) (sym found.2) ∙ (ap (λ (l : List X). take k xs ++ l) (sym (drop_more xs k x found.1)) ∙ take-append-drop k xs) in
      let kept : filter p (take k xs) ++ x ∷ filter p (drop (k + 1) xs) ≡ filter p xs =
      ap (λ (l : List X). filter p (take k xs) ++ l) (sym (cond-true (p x) (x ∷ filter p (drop (k + 1) xs)) (filter p (drop (k + 1) xs)) passes))
      ∙ (sym (filter-append p (take k xs) (x ∷ drop (k + 1) xs)) ∙ ap (filter p) parts) in
      let first : Contains (x ∷ filter p (drop (k + 1) xs)) x = (0, omega arith, refl) in
      subst (λ (l : List X). Contains l x) kept (Contains-append_right (filter p (take k xs)) (x ∷ filter p (drop (k + 1) xs)) x first)

  -- where those that pass stand side by side
  pub filter_cut : (xs rest : List X) (a b : ℕ) → rest ≡ drop a xs → AllWithin (λ x. p x ≡ false) xs 0 a → AllWithin (λ x. p x ≡ true) rest 0 b → AllWithin (λ x. p x ≡ false) rest b (length rest)
      → take b rest ≡ filter p xs
  filter_cut xs rest a b is before pass behind =
      let front : filter p (take a xs) ≡ [] = filter_none (take a xs) (all_of_take (λ x. p x ≡ false) a xs before) in
      let middle : filter p (take b rest) ≡ take b rest = filter_whole (take b rest) (all_of_take (λ x. p x ≡ true) b rest pass) in
      let back : filter p (drop b rest) ≡ [] = filter_none (drop b rest) (all_of_drop (λ x. p x ≡ false) b rest behind) in
      let of_rest : filter p rest ≡ take b rest =
      ap (filter p) (sym (take-append-drop b rest))
      ∙ (filter-append p (take b rest) (drop b rest)
      ∙ (ap (λ (l : List X). l ++ filter p (drop b rest)) middle ∙ (ap (λ (l : List X). take b rest ++ l) back ∙ append-nil (take b rest)))) in
      let of_all : filter p xs ≡ filter p rest =
      ap (filter p) (sym (take-append-drop a xs)) ∙ (filter-append p (take a xs) (drop a xs) ∙ (ap (λ (l : List X). l ++ filter p (drop a xs)) front ∙ ap (filter p) (sym is))) in
      sym (of_all ∙ of_rest)

  kept_by_more : (xs : List X) (m q : ℕ) → ((i : ℕ) (d : X) → m ≤ i → i < m + q → i < length xs → p (get_or xs i d) ≡ false) → filter p (take (m + q) xs) ≡ filter p (take m xs)
  kept_by_more xs m q none =
      let parts : take m xs ++ take q (drop m xs) ≡ take (m + q) xs =
      ap (λ (l : List X). l ++ take q (drop m xs)) (sym (take-take m (m + q) xs (omega arith)))
      ∙ (ap (λ (l : List X). take m (take (m + q) xs) ++ l) (sym (drop-take m q xs)) ∙ take-append-drop m (take (m + q) xs)) in
      let rest : All (λ x. p x ≡ false) (take q (drop m xs)) = λ k d lt.
      let near : k < q = omega (arith, lt, length-take q (drop m xs)) in
      let there : m + k < length xs = omega (arith, lt, length-take q (drop m xs), length-drop m xs) in
      subst (λ x. p x ≡ false) (sym (get_or-take q (drop m xs) k d near ∙ get_or-drop m xs k d)) (none (m + k) d (omega arith) (omega (arith, near)) there) in
      ap (filter p) (sym parts) ∙ (filter-append p (take m xs) (take q (drop m xs)) ∙ (ap (λ (l : List X). filter p (take m xs) ++ l) (filter_none (take q (drop m xs)) rest) ∙ append-nil (filter p (take m xs))))

  -- where none passes from one place to another
  pub filter_until : (xs : List X) (m n : ℕ) → m ≤ n → ((i : ℕ) (d : X) → m ≤ i → i < n → i < length xs → p (get_or xs i d) ≡ false) → filter p (take n xs) ≡ filter p (take m xs)
  filter_until xs m n upto none =
      let far : m + (n - m) ≡ n = omega (arith, upto) in
      ap (λ (end : ℕ). filter p (take end xs)) (sym far) ∙ kept_by_more xs m (n - m) (λ i d from to. none i d from (omega (arith, to, upto)))
