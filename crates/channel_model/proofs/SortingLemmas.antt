-- The sorted list is the only one: by a strict weak order a list has one stable order.
use Rattle.std.proofs.Common.{sym, true≢false, ◌∙◌, ap, subst, ap₂, arith}
use Rattle.std.proofs.lemmas.Bool.{false_from_ne_true, and_parts, cond_both}
use Rattle.std.proofs.lemmas.List.Elements.{recursion_from_All}
use Rattle.std.proofs.lemmas.List.Sorted.{ranks_by}
use Rattle.std.specs.Cmp.{IsStrictWeakOrder}
use Rattle.std.specs.List.{AllByRecursion}
use Rattle.std.specs.List.Sorted.{ties}
use Rattle.std.specs.Ordering.{is_lt}
use Rattle.std.specs.Prelude.{Bool, not, ◌≡◌, true, false, refl, List, [], ◌∷◌, ⊤, if◌then◌else◌, filter, cond, ℕ, ◌<◌, length, IsTrue, slice_index_or, suc}
use Rattle.dest_sorting.proofs.Theorems.{rank_cmp, ranks_decide}
use Rattle.dest_sorting.specs.Order.{destination_before, source_of, IsSortedBy}
use Rattle.dest_sorting.specs.Ranks.{rank_of}
use Rattle.dest_sorting.specs.declared.ranks.Rank.{Rank}
use Rattle.net_addr.specs.declared.addr.Addr.{Addr}
use Rattle.channel_model.proofs.ListLemmas.{each-then, each-filter}
use Rattle.channel_model.specs.Lawful.{first, least}
use Rattle.channel_model.specs.Merge.{sorted, sorted_in}
use Rattle.dest_sorting.specs.contracts.ranks.RankOrd.TheImpl.Laws.{total-law as total}

-- a test that fails
not_true : (b : Bool) → not b ≡ true → b ≡ false
not_true true e = sym e
not_true false e = refl

-- the empty list isn't longer
empty_or : {X : Type 0} (x : X) (xs : List X) → ◌≡◌ {A = List X} [] (x ∷ xs) → ⊥
empty_or x xs e = absurd cc

module _ {X : Type 0} (before : X → X → Bool) where
  -- no item of the list is before this one
  abbrev pub IsLeast : X → List X → Type 0
  IsLeast x xs = AllByRecursion (λ y. before y x ≡ false) xs

  -- no later item is before an earlier one
  abbrev pub IsInOrder : List X → Type 0
  IsInOrder [] = ⊤
  IsInOrder (x ∷ xs) = IsLeast x xs × IsInOrder xs

  -- the item among sorted ones, and the items sorted
  abbrev pub put : X → List X → List X
  put x [] = x ∷ []
  put x (y ∷ ys) = if before y x then y ∷ put x ys else x ∷ y ∷ ys

  abbrev pub put_all : List X → List X
  put_all [] = []
  put_all (x ∷ xs) = put x (put_all xs)

  -- the two lists have the same ties
  abbrev pub SameTies : List X → List X → Type 0
  SameTies xs ys = (x : X) → filter (ties before x) xs ≡ filter (ties before x) ys

module _ {X : Type 0} (before : X → X → Bool) (order : IsStrictWeakOrder before) where
  -- nothing is before itself
  irreflexive : (x : X) → before x x ≡ false
  irreflexive x = false_from_ne_true (before x x) (λ e. true≢false (sym e ∙ order.one_way x x e))

  tied : (x y : X) → before x y ≡ false → before y x ≡ false → ties before x y ≡ true
  tied x y p q = rw (p, q) refl

  untied : (x y : X) → ties before x y ≡ true → (before x y ≡ false) × (before y x ≡ false)
  untied x y e = let parts = and_parts (not (before x y)) (not (before y x)) e in (not_true _ parts.0, not_true _ parts.1)

  itself : (x : X) → ties before x x ≡ true
  itself x = tied x x (irreflexive x) (irreflexive x)

  -- what is before neither an item nor those of a list is before none of them together
  least_put : (x y : X) (ys : List X) → before y x ≡ false → IsLeast before x ys → IsLeast before x (put before y ys)
  least_put x y [] first least = (first, tt)
  least_put x y (z ∷ zs) first least =
      cond_both (before z y) (z ∷ put before y zs) (y ∷ z ∷ zs) (IsLeast before x) (λ _. (least.0, least_put x y zs first least.1)) (λ _. (first, least))

  put_in_order : (x : X) (ys : List X) → IsInOrder before ys → IsInOrder before (put before x ys)
  put_in_order x [] sorted = (tt, tt)
  put_in_order x (y ∷ ys) sorted =
      cond_both (before y x) (y ∷ put before x ys) (x ∷ y ∷ ys) (IsInOrder before)
      (λ e. (least_put y x ys (order.one_way y x e) sorted.0, put_in_order x ys sorted.1))
      (λ e. ((e, each-then (λ z. before z y ≡ false) (λ z. before z x ≡ false) ys (λ z h. order.chain z y x h e) sorted.0), sorted))

  -- items sorted are in order
  put_all_in_order : (xs : List X) → IsInOrder before (put_all before xs)
  put_all_in_order [] = tt
  put_all_in_order (x ∷ xs) = put_in_order x (put_all before xs) (put_all_in_order xs)

  -- of two items of which one is before the other a tie keeps one at most
  swapped : (p q : Bool) (x y : X) (zs : List X) → (p ≡ true → q ≡ true → ⊥) → cond p (x ∷ cond q (y ∷ zs) zs) (cond q (y ∷ zs) zs) ≡ cond q (y ∷ cond p (x ∷ zs) zs) (cond p (x ∷ zs) zs)
  swapped true true x y zs apart = absurd (apart refl refl)
  swapped true false x y zs apart = refl
  swapped false true x y zs apart = refl
  swapped false false x y zs apart = refl

  apart : (w x y : X) → before y x ≡ true → ties before w y ≡ true → ties before w x ≡ true → ⊥
  apart w x y e one other = true≢false (sym e ∙ order.chain y w x (untied w y one).1 (untied w x other).0)

  put_ties : (x : X) (ys : List X) → SameTies before (put before x ys) (x ∷ ys)
  put_ties x [] w = refl
  put_ties x (y ∷ ys) w =
      cond_both (before y x) (y ∷ put before x ys) (x ∷ y ∷ ys) (λ l. filter (ties before w) l ≡ filter (ties before w) (x ∷ y ∷ ys))
      (λ e. ap (λ l. cond (ties before w y) (y ∷ l) l) (put_ties x ys w) ∙ swapped (ties before w y) (ties before w x) y x (filter (ties before w) ys) (apart w x y e))
      (λ _. refl)

  -- items sorted have the same ties
  put_all_ties : (xs : List X) → SameTies before (put_all before xs) xs
  put_all_ties [] w = refl
  put_all_ties (x ∷ xs) w = put_ties x (put_all before xs) w ∙ ap (λ l. cond (ties before w x) (x ∷ l) l) (put_all_ties xs w)

  -- an item that stands first among its ties isn't after the first of a list in order
  first_tied : (x y : X) (ys rest : List X) → IsLeast before y ys → filter (ties before x) (y ∷ ys) ≡ x ∷ rest → before x y ≡ false
  first_tied x y ys rest least e =
      let each : AllByRecursion (λ z. (ties before x z ≡ true) × (before z y ≡ false)) (x ∷ rest) =
      subst (AllByRecursion (λ z. (ties before x z ≡ true) × (before z y ≡ false))) e (each-filter (λ z. before z y ≡ false) (ties before x) (y ∷ ys) (irreflexive y, least)) in
      each.0.1

  tail_ties : (b : Bool) (x : X) (xs ys : List X) → cond b (x ∷ xs) xs ≡ cond b (x ∷ ys) ys → xs ≡ ys
  tail_ties true x xs ys e = cc
  tail_ties false x xs ys e = e

  -- lists in order with the same ties are one
  one_order : (xs ys : List X) → IsInOrder before xs → IsInOrder before ys → SameTies before xs ys → xs ≡ ys
  one_order [] [] p q same = refl
  one_order [] (y ∷ ys) p q same = absurd (empty_or _ _ (same y ∙ ap (λ b. cond b (y ∷ filter (ties before y) ys) (filter (ties before y) ys)) (itself y)))
  one_order (x ∷ xs) [] p q same = absurd (empty_or _ _ (sym (same x) ∙ ap (λ b. cond b (x ∷ filter (ties before x) xs) (filter (ties before x) xs)) (itself x)))
  one_order (x ∷ xs) (y ∷ ys) p q same =
      let mine : filter (ties before x) (x ∷ xs) ≡ x ∷ filter (ties before x) xs = rw (itself x) refl in
      let yours : filter (ties before y) (y ∷ ys) ≡ y ∷ filter (ties before y) ys = rw (itself y) refl in
      let forth : before x y ≡ false = first_tied x y ys (filter (ties before x) xs) q.0 (sym (same x) ∙ mine) in
      let back : before y x ≡ false = first_tied y x xs (filter (ties before y) ys) p.0 (same y ∙ yours) in
      let both : x ∷ filter (ties before x) xs ≡ y ∷ filter (ties before x) ys = sym mine ∙ same x ∙ rw (tied x y forth back) refl in
      let one : x ≡ y = cc in
      ap₂ (λ z zs. z ∷ zs) one (one_order xs ys p.1 q.1 (λ w. tail_ties (ties before w y) y _ _ (subst (λ z. cond (ties before w z) (z ∷ filter (ties before w) xs) (filter (ties before w) xs) ≡ filter (ties before w) (y ∷ ys)) one (same w))))

  -- the sorted items are the only list in order that has their ties
  pub only_sorted : (given sorted : List X) → IsInOrder before sorted → SameTies before sorted given → sorted ≡ put_all before given
  only_sorted given sorted in_order same =
      one_order sorted (put_all before given) in_order (put_all_in_order given) (λ w. same w ∙ sym (put_all_ties given w))

-- addresses are put in order as the definition sorts them
sorted_in_puts : (sources : List Addr) (address : Addr) (others : List Addr) → sorted_in sources address others ≡ put (destination_before sources) address others
sorted_in_puts sources address [] = refl
sorted_in_puts sources address (other ∷ others) =
    ap (λ l. cond (destination_before sources other address) (other ∷ l) (address ∷ other ∷ others)) (sorted_in_puts sources address others)

sorted_puts : (sources given : List Addr) → sorted sources given ≡ put_all (destination_before sources) given
sorted_puts sources [] = refl
sorted_puts sources (address ∷ given) = sorted_in_puts sources address (sorted sources given) ∙ ap (put (destination_before sources) address) (sorted_puts sources given)

-- destinations rank
destinations_rank : (sources : List Addr) → IsStrictWeakOrder (destination_before sources)
destinations_rank sources =
    let key : Addr → Rank = λ d. rank_of d (source_of sources d) in
    let ranks : IsStrictWeakOrder (λ d e. is_lt (rank_cmp (key d) (key e))) = ranks_by total key in
    let same : (d e : Addr) → destination_before sources d e ≡ is_lt (rank_cmp (key d) (key e)) = λ d e. ranks_decide d e (source_of sources d) (source_of sources e) in
    record {
      one_way = λ x y e. same y x ∙ ranks.one_way x y (sym (same x y) ∙ e);
      chain = λ x y z p q. same x z ∙ ranks.chain x y z (sym (same x y) ∙ p) (sym (same y z) ∙ q);
    }

-- what is in order by its indexes is so
in_order_by_index : (before : Addr → Addr → Bool) (xs : List Addr)
    → ((i j : ℕ) (d : Addr) → i < j → j < length xs → IsTrue (before (slice_index_or xs j d) (slice_index_or xs i d)) → ⊥) → IsInOrder before xs
in_order_by_index before [] later = tt
in_order_by_index before (x ∷ xs) later = (
  recursion_from_All (λ y. before y x ≡ false) xs (λ k d within. false_from_ne_true _ (later 0 (suc k) d (omega arith) (omega arith))),
  in_order_by_index before xs (λ i j d less within. later (suc i) (suc j) d (omega arith) (omega arith)),
)

-- what is sorted is the sorted list
pub sorted_is : (sources given out : List Addr) → IsSortedBy sources given out → out ≡ sorted sources given
sorted_is sources given out is =
    only_sorted (destination_before sources) (destinations_rank sources) given out (in_order_by_index (destination_before sources) out is.ordered) is.ties_stay
    ∙ sym (sorted_puts sources given)
