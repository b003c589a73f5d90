-- How a row and a tree stand for the legs that wait.
use Rattle.std.proofs.Common.{◌≡◌, ℕ, ◌-◌, ◌<◌, Bool, true, false, cond, not, ◌&&◌, ◌||◌, Some, None, Option, List, [], ◌∷◌, ◌++◌, length, get_or, drop, arith, ap, refl, sym, subst, ◌∙◌, MatchOption, Bor, ◌⊎◌, inl, inr, ⊎_elim}
use Rattle.std.specs.BTreeSet as tree
use Rattle.std.specs.BTreeSet.{BTreeSet}
use Rattle.std.specs.BTreeMap.Comparable.{le_lt_trans}
use Rattle.std.specs.FinSet as set
use Rattle.std.specs.List.{AllByRecursion, list_any, slice_get}
use Rattle.std.specs.Option.{option_copied, IfSome}
use Rattle.std.specs.Prelude.{IsSome, ◌↔◌}
use Rattle.std.specs.Ordering.{nat_cmp, ordering_then, eq_by_cmp, is_eq, is_lt, is_le, is_gt, ordering_reverse}
use Rattle.std.specs.Cmp.{Equal-is}
use Rattle.std.specs.declared.cmp.Ordering.{Ordering}
use Rattle.std.specs.declared.cmp.Ordering.TheVariants.{Less, Equal, Greater}
use Rattle.std.proofs.lemmas.Bool.{false≢true}
use Rattle.std.proofs.lemmas.Bool.Decides.{nat_tests}
use Rattle.std.proofs.lemmas.Cmp.{eq_by_cmp_equiv}
use Rattle.std.proofs.lemmas.List.Folds.{list_any-append}
use Rattle.timeout_queue.specs.Key.{key_cmp, key_eq}
use Rattle.timeout_queue.specs.declared.key.Key.{Key}
use Rattle.timeout_queue.proofs.Theorems.{key_cmp_total, key_cmp-IsAntisymmetric, tied_keys}
use Rattle.leg_index.specs.Waiting.{Legs, WaitsFirst, IsBelow, IsBehind, IsAhead, IsRising, LeavesTree, begins_with, lesser_of}

-- ---- the order of legs

-- two comparisons, one after the other, tie where both do
is_eq-ordering_then : (r s : Ordering) → is_eq (ordering_then r s) ≡ (is_eq r && is_eq s)
is_eq-ordering_then Less s = refl
is_eq-ordering_then Equal s = refl
is_eq-ordering_then Greater s = refl

-- legs tie where their numbers and their legs are equal
eq_by_key_cmp : (x y : Key) → eq_by_cmp key_cmp x y ≡ key_eq x y
eq_by_key_cmp x y = grind (arith, nat_tests, is_eq-ordering_then (nat_cmp x.number y.number) (nat_cmp x.leg y.leg))

same_key : (x y : Key) → key_eq x y ≡ true → x ≡ y
same_key x y same = tied_keys x y (eq_by_key_cmp x y ∙ same)

abbrev is_key : Key → Key → Bool
is_key q x = eq_by_cmp key_cmp q x

abbrev IsUpto : Key → Key → Type 0
IsUpto x y = is_le (key_cmp x y) ≡ true

below-trans : (x y z : Key) → IsBelow x y → IsBelow y z → IsBelow x z
below-trans x y z p q = le_lt_trans key_cmp_total x y z (ap is_le p) q

below_upto : (x y : Key) → IsBelow x y → IsUpto x y
below_upto x y p = ap is_le p

upto-refl : (x : Key) → IsUpto x x
upto-refl x = ap is_le ((Equal-is (key_cmp x x)).0 ((eq_by_cmp_equiv key_cmp_total).refl x))

upto-trans : (x y z : Key) → IsUpto x y → IsUpto y z → IsUpto x z
upto-trans x y z p q =
    elim (key_cmp y z) as (λ r. key_cmp y z ≡ r → is_le r ≡ true → IsUpto x z) [
      | Less ↦ λ is h. ap is_le (le_lt_trans key_cmp_total x y z p is)
      | Equal ↦ λ is h. subst (IsUpto x) (key_cmp-IsAntisymmetric y z is) p
      | Greater ↦ λ is h. absurd (false≢true h)
    ] refl q

-- a leg is another one than a leg that it comes before
below_other : (x y : Key) → IsBelow x y → is_key x y ≡ false
below_other x y p = ap is_eq p

-- one that is no later than another comes before it, or is it
upto_below : (x y : Key) → IsUpto x y → is_key x y ≡ false → IsBelow x y
upto_below x y upto other =
    elim (key_cmp x y) as (λ r. is_le r ≡ true → is_eq r ≡ false → r ≡ Less) [
      | Less ↦ λ _ _. refl
      | Equal ↦ λ _ e. absurd (false≢true (sym e))
      | Greater ↦ λ h _. absurd (false≢true h)
    ] upto other

pub less_of : (r : Ordering) → is_lt r ≡ true → r ≡ Less
less_of Less h = refl
less_of Equal h = absurd (false≢true h)
less_of Greater h = absurd (false≢true h)

-- ---- a row

all_push : (P : Key → Type 0) (xs : List Key) (y : Key) → AllByRecursion P xs → P y → AllByRecursion P (xs ++ y ∷ [])
all_push P [] y all is = (is, tt)
all_push P (x ∷ xs) y all is = (all.0, all_push P xs y all.1 is)

pub rising_push : (row : List Key) (leg : Key) → IsRising row → IsBehind leg row → IsRising (row ++ leg ∷ [])
rising_push [] leg rising behind = (tt, tt)
rising_push (x ∷ xs) leg rising behind = (all_push (λ y. IsBelow x y) xs leg rising.0 behind.0, rising_push xs leg rising.1 behind.1)

-- a leg that is behind the last one of a rising row is behind all
last_behind : (x : Key) (xs : List Key) (leg y : Key) → IsRising (x ∷ xs) → y ≡ get_or (x ∷ xs) (length xs) y → IsBelow y leg → IsBehind leg (x ∷ xs)
last_behind x [] leg y rising is below = (subst (λ z. IsBelow z leg) is below, tt)
last_behind x (z ∷ zs) leg y rising is below =
    let rest = last_behind z zs leg y rising.1 is below in (below-trans x z leg rising.0.0 rest.0, rest)

pub fits_behind : (row : List Key) (n : ℕ) (leg y : Key) → n ≡ length row → IsRising row → y ≡ get_or row (n - 1) y → IsBelow y leg → IsBehind leg row
fits_behind [] n leg y len rising is below = tt
fits_behind (x ∷ xs) n leg y len rising is below =
    let at : n - 1 ≡ length xs = omega (arith, len) in
    last_behind x xs leg y rising (subst (λ k. y ≡ get_or (x ∷ xs) k y) at is) below

pub behind_none : (row : List Key) (n : ℕ) (leg : Key) → n ≡ length row → (0 < n → ⊥) → IsBehind leg row
behind_none [] n leg len none = tt
behind_none (x ∷ xs) n leg len none = absurd (none (omega (arith, len)))

-- a row doesn't have a leg that comes before each of its own
ahead_other : (leg : Key) (row : List Key) → IsAhead leg row → list_any (is_key leg) row ≡ false
ahead_other leg [] ahead = refl
ahead_other leg (x ∷ xs) ahead = ap (λ b. b || list_any (is_key leg) xs) (below_other leg x ahead.0) ∙ ahead_other leg xs ahead.1

-- nor one that comes before its first
ahead_first : (leg x : Key) (xs : List Key) → IsAhead x xs → IsBelow leg x → IsAhead leg xs
ahead_first leg x [] ahead below = tt
ahead_first leg x (y ∷ ys) ahead below = (below-trans leg x y below ahead.0, ahead_first leg x ys ahead.1 below)

-- in a row the first comes before all others
upto_all : (x : Key) (xs : List Key) → IsAhead x xs → (q : Key) → list_any (is_key q) xs ≡ true → IsUpto x q
upto_all x [] ahead q has = absurd (false≢true has)
upto_all x (y ∷ ys) ahead q has =
    elim (is_key q y) as (λ b. is_key q y ≡ b → (b || list_any (is_key q) ys) ≡ true → IsUpto x q) [
      | true ↦ λ is _. subst (IsUpto x) (sym (tied_keys q y is)) (below_upto x y ahead.0)
      | false ↦ λ _ rest. upto_all x ys ahead.1 q rest
    ] refl has

-- ---- a row and a tree

-- they have a leg where either has it
pub has_either : (row : List Key) (rest : BTreeSet Key) (q : Key) → set.contains (set.from_list {R = key_cmp} (row ++ rest.keys)) q ≡ (list_any (is_key q) row || tree.contains key_cmp rest q)
has_either row rest q = set.contains-from_list key_cmp_total (row ++ rest.keys) q ∙ list_any-append (is_key q) row rest.keys

same_legs : (legs other : Legs) → ((q : Key) → set.contains legs q ≡ set.contains other q) → legs ≡ other
same_legs = set.same_set key_cmp_total key_cmp-IsAntisymmetric

module _ (row : List Key) (rest : BTreeSet Key) (legs : Legs) (seen : set.from_list (row ++ rest.keys) ≡ legs) where
  pub has-seen : (q : Key) → set.contains legs q ≡ (list_any (is_key q) row || tree.contains key_cmp rest q)
  has-seen q = ap (λ s. set.contains s q) (sym seen) ∙ has_either row rest q

  -- another row and tree stand for the legs that have what these have
  seen_by_has : (new : List Key) (other : BTreeSet Key) (after : Legs) → ((q : Key) → (list_any (is_key q) new || tree.contains key_cmp other q) ≡ set.contains after q) → set.from_list (new ++ other.keys) ≡ after
  seen_by_has new other after same = same_legs _ _ (λ q. has_either new other q ∙ same q)

  pub seen_again : (other : BTreeSet Key) → other.keys ≡ rest.keys → set.from_list (row ++ other.keys) ≡ legs
  seen_again other same = ap (λ ks. set.from_list (row ++ ks)) same ∙ seen

  -- a leg comes to the end of the row
  pub seen_pushed : (leg : Key) → set.from_list ((row ++ leg ∷ []) ++ rest.keys) ≡ set.insert legs leg
  seen_pushed leg = seen_by_has (row ++ leg ∷ []) rest (set.insert legs leg) (λ q.
      ap (λ b. b || tree.contains key_cmp rest q) (list_any-append (is_key q) row (leg ∷ []))
      ∙ or_moved (list_any (is_key q) row) (is_key q leg) (tree.contains key_cmp rest q)
      ∙ ap (λ b. is_key q leg || b) (sym (has-seen q)) ∙ sym (set.contains-insert key_cmp_total legs leg q))
    where
      or_moved : (a b c : Bool) → ((a || (b || false)) || c) ≡ (b || (a || c))
      or_moved true true c = refl
      or_moved true false c = refl
      or_moved false true c = refl
      or_moved false false c = refl

  -- or into the tree
  pub seen_inserted : (other : BTreeSet Key) (leg : Key) → tree.Updates key_cmp rest other leg true → set.from_list (row ++ other.keys) ≡ set.insert legs leg
  seen_inserted other leg updates = seen_by_has row other (set.insert legs leg) (λ q.
      ap (λ b. list_any (is_key q) row || b) (updates.0 q ∙ ap (λ b. cond b true (tree.contains key_cmp rest q)) ((eq_by_cmp_equiv key_cmp_total).symm leg q))
      ∙ or_cond (list_any (is_key q) row) (is_key q leg) (tree.contains key_cmp rest q)
      ∙ ap (λ b. is_key q leg || b) (sym (has-seen q)) ∙ sym (set.contains-insert key_cmp_total legs leg q))
    where
      or_cond : (a b c : Bool) → (a || cond b true c) ≡ (b || (a || c))
      or_cond true true c = refl
      or_cond true false c = refl
      or_cond false true c = refl
      or_cond false false c = refl

  -- the first leg leaves both
  module _ (leg : Key) (first : WaitsFirst legs leg) (new : List Key) (other : BTreeSet Key) (updates : LeavesTree leg rest other)
      (left : (q : Key) → list_any (is_key q) new ≡ (not (is_key q leg) && list_any (is_key q) row)) where
    pub seen_dropped : set.from_list (new ++ other.keys) ≡ set.remove legs leg
    seen_dropped = seen_by_has new other (set.remove legs leg) (λ q.
        ap (λ b. b || tree.contains key_cmp other q) (left q)
        ∙ ap (λ b. (not (is_key q leg) && list_any (is_key q) row) || b) (updates q ∙ ap (λ b. cond b false (tree.contains key_cmp rest q)) ((eq_by_cmp_equiv key_cmp_total).symm leg q))
        ∙ and_both (is_key q leg) (list_any (is_key q) row) (tree.contains key_cmp rest q)
        ∙ ap (λ b. not (is_key q leg) && b) (sym (has-seen q)) ∙ sym (set.contains-remove key_cmp_total legs leg q))
      where
        and_both : (a b c : Bool) → ((not a && b) || cond a false c) ≡ (not a && (b || c))
        and_both true b c = refl
        and_both false b c = refl

  -- the first of all is no later than a leg of the row
  pub first_upto : (leg : Key) → WaitsFirst legs leg → (q : Key) → list_any (is_key q) row ≡ true → IsUpto leg q
  first_upto leg first q has = first.least q (has-seen q ∙ ap (λ b. b || tree.contains key_cmp rest q) has)

-- an empty tree is without the leg
pub none_leaves : (leg : Key) (rest : BTreeSet Key) → length rest.keys ≡ 0 → LeavesTree leg rest rest
none_leaves leg rest none q = unless (eq_by_cmp key_cmp leg q) _ (absent rest.keys none)
  where
    absent : (keys : List Key) → length keys ≡ 0 → list_any (is_key q) keys ≡ false
    absent [] empty = refl
    absent (k ∷ ks) empty = absurd (omega (arith, empty))

    unless : (b has : Bool) → has ≡ false → has ≡ cond b false has
    unless true has is = is
    unless false has is = refl

-- a row that begins with the leg is without it when its first is gone
pub left_popped : (row : List Key) (leg : Key) → IsRising row → begins_with leg row ≡ true → (q : Key) → list_any (is_key q) (drop 1 row) ≡ (not (is_key q leg) && list_any (is_key q) row)
left_popped [] leg rising begins q = absurd (false≢true begins)
left_popped (x ∷ xs) leg rising begins q =
    subst (λ y. list_any (is_key q) xs ≡ (not (is_key q y) && list_any (is_key q) (x ∷ xs))) (same_key x leg begins) (by_test (is_key q x) refl)
  where
    by_test : (b : Bool) → is_key q x ≡ b → list_any (is_key q) xs ≡ (not (is_key q x) && (is_key q x || list_any (is_key q) xs))
    by_test true is = ap (λ k. list_any (is_key k) xs) (tied_keys q x is) ∙ ahead_other x xs rising.0 ∙ sym (ap (λ b. not b && (b || list_any (is_key q) xs)) is)
    by_test false is = sym (ap (λ b. not b && (b || list_any (is_key q) xs)) is)

-- one that doesn't was without it, where the leg is no later than any of the row
pub left_kept : (row : List Key) (leg : Key) → IsRising row → begins_with leg row ≡ false → ((q : Key) → list_any (is_key q) row ≡ true → IsUpto leg q) → (q : Key) → list_any (is_key q) row ≡ (not (is_key q leg) && list_any (is_key q) row)
left_kept row leg rising begins upto q = by_test (is_key q leg) refl
  where
    without : (row : List Key) → IsRising row → begins_with leg row ≡ false → ((q : Key) → list_any (is_key q) row ≡ true → IsUpto leg q) → list_any (is_key leg) row ≡ false
    without [] rising begins upto = refl
    without (x ∷ xs) rising begins upto =
        let other : is_key leg x ≡ false = (eq_by_cmp_equiv key_cmp_total).symm leg x ∙ eq_by_key_cmp x leg ∙ begins in
        let below = upto_below leg x (upto x (ap (λ b. b || list_any (is_key x) xs) ((eq_by_cmp_equiv key_cmp_total).refl x))) other in
        ahead_other leg (x ∷ xs) (below, ahead_first leg x xs rising.0 below)

    by_test : (b : Bool) → is_key q leg ≡ b → list_any (is_key q) row ≡ (not (is_key q leg) && list_any (is_key q) row)
    by_test true is = ap (λ k. list_any (is_key k) row) (tied_keys q leg is) ∙ without row rising begins upto ∙ sym (ap (λ b. not b && list_any (is_key q) row) is)
    by_test false is = sym (ap (λ b. not b && list_any (is_key q) row) is)

-- ---- the first

-- of those with P it is the first, or there are none
abbrev pub Leads : (Key → Type 0) → Option Key → Type 0
Leads P r = MatchOption r ((q : Key) → P q → ⊥) (λ f. P f × ((q : Key) → P q → IsUpto f q))

leads_lesser : (P Q : Key → Type 0) (a b : Option Key) → Leads P a → Leads Q b → Leads (λ q. P q ⊎ Q q) (lesser_of a b)
leads_lesser P Q None None p q = λ k h. ⊎_elim (λ (i : P k). p k i) (λ (i : Q k). q k i) h
leads_lesser P Q None (Some b) p q = (inr q.0, λ k h. ⊎_elim (λ (i : P k). absurd (p k i)) (λ (i : Q k). q.1 k i) h)
leads_lesser P Q (Some a) None p q = (inl p.0, λ k h. ⊎_elim (λ (i : P k). p.1 k i) (λ (i : Q k). absurd (q k i)) h)
leads_lesser P Q (Some a) (Some b) p q = by_order (is_le (key_cmp a b)) refl
  where
    turned : (r : Ordering) → is_le r ≡ false → r ≡ Greater
    turned Less h = absurd (false≢true (sym h))
    turned Equal h = absurd (false≢true (sym h))
    turned Greater h = refl

    over : is_le (key_cmp a b) ≡ false → IsUpto b a
    over later = ap is_le (key_cmp_total.antisymm b a ∙ ap ordering_reverse (turned (key_cmp a b) later))

    by_order : (t : Bool) → is_le (key_cmp a b) ≡ t → Leads (λ k. P k ⊎ Q k) (Some (cond t a b))
    by_order true is = (inl p.0, λ k h. ⊎_elim (λ (i : P k). p.1 k i) (λ (i : Q k). upto-trans a b k is (q.1 k i)) h)
    by_order false is = (inr q.0, λ k h. ⊎_elim (λ (i : P k). upto-trans b a k (over is) (p.1 k i)) (λ (i : Q k). q.1 k i) h)

-- a row's front leads what stands in the row
pub front_leads : (row : List Key) (r : Option Key) → r ≡ slice_get row 0 → IsRising row → Leads (λ q. list_any (is_key q) row ≡ true) r
front_leads [] r is rising = subst (Leads (λ q. list_any (is_key q) [] ≡ true)) (sym is) (λ q h. false≢true h)
front_leads (x ∷ xs) r is rising = subst (Leads (λ q. list_any (is_key q) (x ∷ xs) ≡ true)) (sym is)
    (ap (λ b. b || list_any (is_key x) xs) ((eq_by_cmp_equiv key_cmp_total).refl x), λ q h. by_test q (is_key q x) refl h)
  where
    by_test : (q : Key) (b : Bool) → is_key q x ≡ b → (b || list_any (is_key q) xs) ≡ true → IsUpto x q
    by_test q true is h = subst (IsUpto x) (sym (tied_keys q x is)) (upto-refl x)
    by_test q false is h = upto_all x xs rising.0 q h

none_of_keys : (keys : List Key) (n : ℕ) → n ≡ length keys → (0 < n → ⊥) → keys ≡ []
none_of_keys [] n len none = refl
none_of_keys (x ∷ xs) n len none = absurd (none (omega (arith, len)))

is_le_from_not_gt : (r : Ordering) → is_gt r ≡ false → is_le r ≡ true
is_le_from_not_gt Less not_gt = refl
is_le_from_not_gt Equal not_gt = refl
is_le_from_not_gt Greater not_gt = absurd (false≢true (sym not_gt))

-- what the tree's `first` finds leads the tree
pub rest_leads : (rest : BTreeSet Key) (r : Option (Bor Key)) → IsSome r ↔ (0 < tree.btree_set_len rest)
    → IfSome r (λ k. tree.contains key_cmp rest k.now ≡ true) → IfSome r (λ k. tree.IsLowerBound key_cmp rest k.now) → Leads (λ q. tree.contains key_cmp rest q ≡ true) (option_copied r)
rest_leads rest None some member least = λ q there. absurd (false≢true (sym (ap (list_any (is_key q)) (none_of_keys rest.keys _ refl (λ z. false≢true (some.1 z)))) ∙ there))
rest_leads rest (Some f) some member least = (member, λ q there. is_le_from_not_gt _ (least q there))

-- who leads the row and the tree is the first of all
module _ (row : List Key) (rest : BTreeSet Key) (legs : Legs) (seen : set.from_list (row ++ rest.keys) ≡ legs) where
  pub first_seen : (a b r : Option Key) → Leads (λ q. list_any (is_key q) row ≡ true) a → Leads (λ q. tree.contains key_cmp rest q ≡ true) b → r ≡ lesser_of a b → MatchOption r (legs ≡ set.empty) (WaitsFirst legs)
  first_seen a b r in_row in_rest is = by_case r (subst (Leads (λ q. (list_any (is_key q) row ≡ true) ⊎ (tree.contains key_cmp rest q ≡ true))) (sym is) (leads_lesser (λ q. list_any (is_key q) row ≡ true) (λ q. tree.contains key_cmp rest q ≡ true) a b in_row in_rest))
    where
      Stands : Key → Type 0
      Stands q = (list_any (is_key q) row ≡ true) ⊎ (tree.contains key_cmp rest q ≡ true)

      either : (a b : Bool) → (a || b) ≡ true → (a ≡ true) ⊎ (b ≡ true)
      either true b h = inl refl
      either false b h = inr h

      any : (a b : Bool) → (a ≡ true) ⊎ (b ≡ true) → (a || b) ≡ true
      any true b h = refl
      any false b h = ⊎_elim (λ (i : false ≡ true). absurd (false≢true i)) (λ (j : b ≡ true). j) h

      stands : (q : Key) → set.contains legs q ≡ true → Stands q
      stands q h = either _ _ (sym (has-seen row rest legs seen q) ∙ h)

      none : ((q : Key) → Stands q → ⊥) → (q : Key) (b : Bool) → set.contains legs q ≡ b → b ≡ false
      none empty q true h = absurd (empty q (stands q h))
      none empty q false h = refl

      by_case : (r : Option Key) → Leads Stands r → MatchOption r (legs ≡ set.empty) (WaitsFirst legs)
      by_case None l = same_legs legs set.empty (λ q. none l q (set.contains legs q) refl ∙ sym (set.contains-empty key_cmp q))
      by_case (Some f) l = record {
        there = has-seen row rest legs seen f ∙ any _ _ l.0;
        least = λ other h. l.1 other (stands other h);
      }
