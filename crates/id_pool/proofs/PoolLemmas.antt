-- Which identifiers the flags leave, what a changed flag does to them, and how many they are.
use Rattle.std.proofs.Common.{refl, ◌≡◌, ◌≢◌, ℕ, zero, suc, ◌+◌, ◌-◌, ◌%◌, ◌<◌, ◌≤◌, Bool, true, false, cond, not, ◌&&◌, ◌||◌, List, ap, sym, ◌∙◌, inl, inr, arith}
use Rattle.std.specs.Prelude.{◌==◌}
use Rattle.std.specs.Cmp.{unsigned_tied}
use Rattle.std.specs.FinSet as set
use Rattle.std.specs.Ordering.{nat_cmp}
use Rattle.std.specs.Slice.Scan.{HoldsNowhere}
use Rattle.std.proofs.lemmas.Bool.{cases_Bool, cases_eq, cases_lt, ne_eqb, eq-eqb, true≢false}
use Rattle.std.proofs.lemmas.Cmp.{nat_cmp_total}
use Rattle.id_pool.specs.Bitmap.{flag, AllSet, IsFirst, Changes}
use Rattle.id_pool.specs.Identifiers.{Identifiers, AllUsed, IsFirstFree}
use Rattle.id_pool.specs.Levels.{ids_below, ids_unset}

-- ---- one identifier more, or less

contains-insert : (ids : Identifiers) (id q : ℕ) → set.contains (set.insert ids id) q ≡ ((q == id) || set.contains ids q)
contains-insert ids id q = set.contains-insert nat_cmp_total ids id q ∙ ap (λ t. t || set.contains ids q) (unsigned_tied q id)

contains-remove : (ids : Identifiers) (id q : ℕ) → set.contains (set.remove ids id) q ≡ (not (q == id) && set.contains ids q)
contains-remove ids id q = set.contains-remove nat_cmp_total ids id q ∙ ap (λ t. not t && set.contains ids q) (unsigned_tied q id)

same_ids : (ids other : Identifiers) → ((q : ℕ) → set.contains ids q ≡ set.contains other q) → ids ≡ other
same_ids = set.same_set nat_cmp_total set.nat_cmp-IsAntisymmetric

-- to take what is there changes nothing
pub insert_present : (ids : Identifiers) (id : ℕ) → set.contains ids id ≡ true → ids ≡ set.insert ids id
insert_present ids id there = same_ids _ _ (λ q. elim (cases_eq q id) [
  | inl same ↦ ap (set.contains ids) same ∙ there ∙ sym (contains-insert ids id q ∙ ap (λ t. t || set.contains ids q) (eq-eqb q id same))
  | inr other ↦ sym (contains-insert ids id q ∙ ap (λ t. t || set.contains ids q) (ne_eqb q id other))
])

-- and to give back what isn't
pub remove_absent : (ids : Identifiers) (id : ℕ) → set.contains ids id ≡ false → ids ≡ set.remove ids id
remove_absent ids id absent = same_ids _ _ (λ q. elim (cases_eq q id) [
  | inl same ↦ ap (set.contains ids) same ∙ absent ∙ sym (contains-remove ids id q ∙ ap (λ t. not t && set.contains ids q) (eq-eqb q id same))
  | inr other ↦ sym (contains-remove ids id q ∙ ap (λ t. not t && set.contains ids q) (ne_eqb q id other))
])

-- a pool that has one has at least one
pub some_used : (ids : Identifiers) (id : ℕ) → set.contains ids id ≡ true → 1 ≤ set.len ids
some_used ids id there = elim (cases_eq (set.len ids) 0) [
  | inl none ↦ absurd (true≢false (sym there ∙ ap (λ s. set.contains s id) (set.empty_of_len ids none) ∙ set.contains-empty nat_cmp id))
  | inr some ↦ omega arith
]

-- ---- those below a bound

module _ (p : ℕ → Bool) where
  step : (ids : Identifiers) (b : Bool) (n q : ℕ) → set.contains (cond b (set.insert ids n) ids) q ≡ ((b && (q == n)) || set.contains ids q)
  step ids true n q = contains-insert ids n q
  step ids false n q = refl

  no_match : (b c : Bool) → ((b && false) || c) ≡ c
  no_match true c = refl
  no_match false c = refl

  match : (b : Bool) → ((b && true) || false) ≡ b
  match true = refl
  match false = refl

  contains-above : (n q : ℕ) → n ≤ q → set.contains (ids_below p n) q ≡ false
  unfolding ids_below
  contains-above zero q low = set.contains-empty nat_cmp q
  contains-above (suc n) q low =
      step (ids_below p n) (p n) n q
      ∙ ap (λ t. (p n && t) || set.contains (ids_below p n) q) (ne_eqb q n (λ same. omega arith))
      ∙ no_match (p n) _ ∙ contains-above n q (omega arith)

  contains-below : (n q : ℕ) → q < n → set.contains (ids_below p n) q ≡ p q
  unfolding ids_below
  contains-below zero q high = absurd (omega arith)
  contains-below (suc n) q high = step (ids_below p n) (p n) n q ∙ (elim (cases_eq q n) [
    | inl same ↦
        ap (λ t. (p n && t) || set.contains (ids_below p n) q) (eq-eqb q n same)
        ∙ ap (λ t. (p n && true) || t) (contains-above n q (omega arith))
        ∙ match (p n) ∙ ap p (sym same)
    | inr other ↦
        ap (λ t. (p n && t) || set.contains (ids_below p n) q) (ne_eqb q n other)
        ∙ no_match (p n) _ ∙ contains-below n q (omega arith)
  ])

  len_step : (ids : Identifiers) (b : Bool) (n : ℕ) → set.len (cond b (set.insert ids n) ids) ≤ set.len ids + 1
  len_step ids true n = elim (cases_Bool (set.contains ids n)) [
    | inl there ↦ omega (arith, set.len-insert nat_cmp_total ids n ∙ ap (λ t. cond t (set.len ids) (set.len ids + 1)) there)
    | inr absent ↦ omega (arith, set.len-insert nat_cmp_total ids n ∙ ap (λ t. cond t (set.len ids) (set.len ids + 1)) absent)
  ]
  len_step ids false n = omega arith

  len-below : (n : ℕ) → set.len (ids_below p n) ≤ n
  unfolding ids_below
  len-below zero = omega (arith, set.len-empty nat_cmp)
  len-below (suc n) = omega (arith, len_step (ids_below p n) (p n) n, len-below n)

-- ---- those that the flags leave

module _ (flags : List ℕ) where
  pub contains-unset : (id : ℕ) → id < 65536 → set.contains (ids_unset flags) id ≡ not (flag flags id)
  contains-unset id small = contains-below (λ q. not (flag flags q)) 65536 id small

  unset_beyond : (id : ℕ) → 65536 ≤ id → set.contains (ids_unset flags) id ≡ false
  unset_beyond id large = contains-above (λ q. not (flag flags q)) 65536 id large

  pub len-unset : set.len (ids_unset flags) ≤ 65536
  len-unset = len-below (λ q. not (flag flags q)) 65536

  -- where all flags are set, none is in use
  pub none_used : AllSet flags 65536 → ids_unset flags ≡ set.empty
  none_used all = same_ids _ _ (λ q. elim (cases_lt q 65536) [
    | inl small ↦ contains-unset q small ∙ ap not (all q small) ∙ sym (set.contains-empty nat_cmp q)
    | inr large ↦ unset_beyond q large ∙ sym (set.contains-empty nat_cmp q)
  ])

module _ (old new : List ℕ) (id : ℕ) (small : id < 65536) where
  -- a flag that is cleared takes its identifier into use
  pub taken : Changes old new id false → ids_unset new ≡ set.insert (ids_unset old) id
  taken changes = same_ids _ _ (λ q. elim (cases_eq q id) [
    | inl same ↦
        ap (set.contains (ids_unset new)) same ∙ contains-unset new id small ∙ ap not changes.own
        ∙ sym (contains-insert (ids_unset old) id q ∙ ap (λ t. t || set.contains (ids_unset old) q) (eq-eqb q id same))
    | inr other ↦ others_as_before changes q other ∙ sym (contains-insert (ids_unset old) id q ∙ ap (λ t. t || set.contains (ids_unset old) q) (ne_eqb q id other))
  ])
    where
      others_as_before : Changes old new id false → (q : ℕ) → q ≢ id → set.contains (ids_unset new) q ≡ set.contains (ids_unset old) q
      others_as_before changes q other = elim (cases_lt q 65536) [
        | inl low ↦ contains-unset new q low ∙ ap not (changes.others q other) ∙ sym (contains-unset old q low)
        | inr high ↦ unset_beyond new q high ∙ sym (unset_beyond old q high)
      ]

  -- and one that is set gives it back
  pub given_back : Changes old new id true → ids_unset new ≡ set.remove (ids_unset old) id
  given_back changes = same_ids _ _ (λ q. elim (cases_eq q id) [
    | inl same ↦
        ap (set.contains (ids_unset new)) same ∙ contains-unset new id small ∙ ap not changes.own
        ∙ sym (contains-remove (ids_unset old) id q ∙ ap (λ t. not t && set.contains (ids_unset old) q) (eq-eqb q id same))
    | inr other ↦ others_as_before changes q other ∙ sym (contains-remove (ids_unset old) id q ∙ ap (λ t. not t && set.contains (ids_unset old) q) (ne_eqb q id other))
  ])
    where
      others_as_before : Changes old new id true → (q : ℕ) → q ≢ id → set.contains (ids_unset new) q ≡ set.contains (ids_unset old) q
      others_as_before changes q other = elim (cases_lt q 65536) [
        | inl low ↦ contains-unset new q low ∙ ap not (changes.others q other) ∙ sym (contains-unset old q low)
        | inr high ↦ unset_beyond new q high ∙ sym (unset_beyond old q high)
      ]

  -- and they are counted
  pub counted_taken : Changes old new id false → set.contains (ids_unset old) id ≡ false → set.len (ids_unset new) ≡ set.len (ids_unset old) + 1
  counted_taken changes free =
      ap set.len (taken changes) ∙ set.len-insert nat_cmp_total (ids_unset old) id
      ∙ ap (λ t. cond t (set.len (ids_unset old)) (set.len (ids_unset old) + 1)) free

  pub counted_given_back : Changes old new id true → set.contains (ids_unset old) id ≡ true → set.len (ids_unset new) ≡ set.len (ids_unset old) - 1
  counted_given_back changes used =
      ap set.len (given_back changes) ∙ set.len-remove nat_cmp_total (ids_unset old) id
      ∙ ap (λ t. cond t (set.len (ids_unset old) - 1) (set.len (ids_unset old))) used

-- ---- the first free one

module _ (flags : List ℕ) where
  used_by_flag : (id : ℕ) → id < 65536 → flag flags id ≡ false → set.contains (ids_unset flags) id ≡ true
  used_by_flag id small unset = contains-unset flags id small ∙ ap not unset

  free_by_flag : (id : ℕ) → id < 65536 → flag flags id ≡ true → set.contains (ids_unset flags) id ≡ false
  free_by_flag id small is_set = contains-unset flags id small ∙ ap not is_set

  -- no flag is set
  pub all_used : HoldsNowhere (flag flags) 0 65536 → AllUsed (set.contains (ids_unset flags))
  all_used none id small = used_by_flag id small (none id (omega arith) small)

  -- the first flag from the word on
  pub free_upwards : (word id : ℕ) → IsFirst (flag flags) word 65536 id → IsFirstFree (set.contains (ids_unset flags)) word id
  free_upwards word id first =
      let low = first.low in
      let high = first.high in
      record {
        steps = id - word;
        few = omega arith;
        reached = omega arith;
        free = free_by_flag id high first.holds;
        passed = λ step within.
            let place : (word + step) % 65536 ≡ word + step = omega arith in
            ap (set.contains (ids_unset flags)) place ∙ used_by_flag (word + step) (omega arith) (first.before (word + step) (omega arith) (omega arith));
      }

  -- none from the word on, and the first of all
  pub free_around : (word id : ℕ) → word < 65536 → HoldsNowhere (flag flags) word 65536 → IsFirst (flag flags) 0 65536 id
      → IsFirstFree (set.contains (ids_unset flags)) word id
  free_around word id small none first =
      let high = first.high in
      let below : id < word = elim (cases_lt id word) [
        | inl below ↦ below
        | inr above ↦ absurd (true≢false (sym first.holds ∙ none id above high))
      ] in
      record {
        steps = 65536 - word + id;
        few = omega arith;
        reached = omega arith;
        free = free_by_flag id high first.holds;
        passed = λ step within. elim (cases_lt (word + step) 65536) [
          | inl before ↦
              let place : (word + step) % 65536 ≡ word + step = omega arith in
              ap (set.contains (ids_unset flags)) place ∙ used_by_flag (word + step) before (none (word + step) (omega arith) before)
          | inr after ↦
              let place : (word + step) % 65536 ≡ word + step - 65536 = omega arith in
              ap (set.contains (ids_unset flags)) place
              ∙ used_by_flag (word + step - 65536) (omega arith) (first.before (word + step - 65536) (omega arith) (omega arith))
        ];
      }
