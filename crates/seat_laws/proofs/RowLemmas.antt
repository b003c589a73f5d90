-- Items in the order of other items' keys, and what stands at the places of several rows.
use Rattle.std.proofs.Common.{◌≡◌, ◌≢◌, ◌∙◌, ℕ, suc, zero, ◌+◌, ◌≤◌, ◌==◌, Bool, true, false, cond, List, [], ◌∷◌, ◌++◌, map, flat_map, sum_by, refl, ap, subst, arith, eqb-true}
use Rattle.std.proofs.lemmas.List.{map-append}
use Rattle.std.proofs.lemmas.List.Sums.{sum_by-append, sum_by-cons}
use Rattle.std.specs.List.{AllByRecursion}
use Rattle.channel_model.proofs.Theorems.{each-append, occurrences-append}
use Rattle.channel_model.specs.Completion.{occurrences}
use Rattle.seat_laws.proofs.ListLemmas.{occurrences_cons, occurrences_here}

-- lists with the same first item and the same rest
both_same : (m n : ℕ) (ms ns : List ℕ) → m ≡ n → ms ≡ ns → m ∷ ms ≡ n ∷ ns
both_same m n ms ns same rest = ap (λ k. k ∷ ms) same ∙ ap (λ l. n ∷ l) rest

module _ {A : Type 0} (key : A → ℕ) where
  -- an item with a key, and what stands around it
  record Found (n : ℕ) (xs : List A) : Type 0 where
    before : List A
    item : A
    behind : List A
    parts : xs ≡ before ++ item ∷ behind
    is_it : key item ≡ n

  found_if : (n : ℕ) (xs : List A) → occurrences n (map key xs) ≢ 0 → Found n xs
  found_if n [] some = absurd (some refl)
  found_if n (x ∷ xs) some = by (key x == n) refl (found_if n xs) some
    where
      by : (b : Bool) → (key x == n) ≡ b → (occurrences n (map key xs) ≢ 0 → Found n xs) → cond b (occurrences n (map key xs) + 1) (occurrences n (map key xs)) ≢ 0 → Found n (x ∷ xs)
      by true is rest some = record { before = []; item = x; behind = xs; parts = refl; is_it = eqb-true (key x) n is }
      by false is rest some = let f = rest some in record { before = x ∷ f.before; item = f.item; behind = f.behind; parts = ap (λ l. x ∷ l) f.parts; is_it = f.is_it }

  each_front : (P : A → Type 0) (xs ys : List A) → AllByRecursion P (xs ++ ys) → AllByRecursion P xs × AllByRecursion P ys
  each_front P [] ys each = (tt, each)
  each_front P (x ∷ xs) ys each = let rest = each_front P xs ys each.1 in ((each.0, rest.0), rest.1)

  -- how often a number is a key of two lists
  keys_joined : (m : ℕ) (xs ys : List A) → occurrences m (map key (xs ++ ys)) ≡ occurrences m (map key xs) + occurrences m (map key ys)
  keys_joined m xs ys = ap (occurrences m) (map-append key xs ys) ∙ occurrences-append m (map key xs) (map key ys)

  -- the same items, with these keys in this order
  pub record Ordered (P : A → Type 0) (f : A → ℕ) (xs : List A) (ns : List ℕ) : Type 0 where
    pub items : List A
    pub keys : map key items ≡ ns
    pub each : AllByRecursion P items
    pub sum : sum_by f items ≡ sum_by f xs

  -- numbers of which each is as often a key
  pub ordered : (P : A → Type 0) (f : A → ℕ) (xs : List A) (ns : List ℕ) → AllByRecursion P xs → ((n : ℕ) → occurrences n (map key xs) ≡ occurrences n ns) → Ordered P f xs ns
  ordered P f [] [] each same = record { items = []; keys = refl; each = tt; sum = refl }
  ordered P f (x ∷ xs) [] each same = absurd (omega (arith, same (key x), occurrences_here (key x) (map key xs)))
  ordered P f xs (n ∷ ns) each same =
      let found : Found n xs = found_if n xs (λ none. omega (arith, none, same n, occurrences_here n ns)) in
      let parts = each_front P found.before (found.item ∷ found.behind) (subst (AllByRecursion P) found.parts each) in
      let rest = ordered P f (found.before ++ found.behind) ns (each-append P found.before found.behind parts.0 parts.1.1) (λ m. without m found) in
      record {
        items = found.item ∷ rest.items;
        keys = both_same (key found.item) n (map key rest.items) ns found.is_it rest.keys;
        each = (parts.1.0, rest.each);
        sum = omega (arith, sum_by-cons f found.item rest.items, rest.sum, sum_by-append f found.before found.behind, ap (sum_by f) found.parts, sum_by-append f found.before (found.item ∷ found.behind), sum_by-cons f found.item found.behind);
      }
    where
      without : (m : ℕ) (g : Found n xs) → occurrences m (map key (g.before ++ g.behind)) ≡ occurrences m ns
      without m g =
          let whole : occurrences m (map key xs) ≡ occurrences m (map key g.before) + occurrences m (key g.item ∷ map key g.behind) =
          ap (λ l. occurrences m (map key l)) g.parts ∙ keys_joined m g.before (g.item ∷ g.behind) in
          let item : occurrences m (key g.item ∷ map key g.behind) ≡ occurrences m (n ∷ map key g.behind) = ap (λ k. occurrences m (k ∷ map key g.behind)) g.is_it in
          omega (arith, whole, item, keys_joined m g.before g.behind, same m, occurrences_cons m n ns, occurrences_cons m n (map key g.behind))

-- ---- rows

module _ {A : Type 0} (row : A → List ℕ) where
  -- the row of the item at a place
  abbrev pub row_at : List A → ℕ → List ℕ
  row_at [] k = []
  row_at (x ∷ xs) zero = row x
  row_at (x ∷ xs) (suc k) = row_at xs k

  -- a number stands in one row no more often than in all
  pub row_fewer : (n : ℕ) (xs : List A) (k : ℕ) → occurrences n (row_at xs k) ≤ occurrences n (flat_map row xs)
  row_fewer n [] k = omega arith
  row_fewer n (x ∷ xs) zero = omega (arith, occurrences-append n (row x) (flat_map row xs))
  row_fewer n (x ∷ xs) (suc k) = omega (arith, occurrences-append n (row x) (flat_map row xs), row_fewer n xs k)

  -- nor in two
  pub rows_fewer : (n : ℕ) (xs : List A) (j k : ℕ) → j ≢ k → occurrences n (row_at xs j) + occurrences n (row_at xs k) ≤ occurrences n (flat_map row xs)
  rows_fewer n [] j k differ = omega arith
  rows_fewer n (x ∷ xs) zero zero differ = absurd (differ refl)
  rows_fewer n (x ∷ xs) zero (suc k) differ = omega (arith, occurrences-append n (row x) (flat_map row xs), row_fewer n xs k)
  rows_fewer n (x ∷ xs) (suc j) zero differ = omega (arith, occurrences-append n (row x) (flat_map row xs), row_fewer n xs j)
  rows_fewer n (x ∷ xs) (suc j) (suc k) differ = omega (arith, occurrences-append n (row x) (flat_map row xs), rows_fewer n xs j k (λ same. differ (ap suc same)))
