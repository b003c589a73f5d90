-- What puts, drops and look-ups do to the rows of deadlines.
use Rattle.std.proofs.Common.{◌≡◌, ℕ, ◌-◌, ◌<◌, ◌⊎◌, inl, inr, ⊎_elim, Bool, true, false, cond, Some, None, Option, List, [], ◌∷◌, ◌++◌, length, filter, arith, ap, refl, sym, ◌∙◌, subst, get_or, MatchOption, Bor}
use Rattle.std.specs.BTreeSet as set
use Rattle.std.specs.BTreeSet.{BTreeSet, contains}
use Rattle.std.specs.BTreeMap.Comparable.{le_lt_trans}
use Rattle.std.specs.List.{AllByRecursion, list_any, slice_get}
use Rattle.std.specs.Option.{option_to_list, option_copied, IfSome}
use Rattle.std.specs.Prelude.{IsSome, ◌↔◌}
use Rattle.std.specs.Ordering.{eq_by_cmp, is_le, is_gt, ordering_reverse}
use Rattle.std.specs.Cmp.{Equal-is}
use Rattle.std.specs.declared.cmp.Ordering.{Ordering}
use Rattle.std.specs.declared.cmp.Ordering.TheVariants.{Less, Equal, Greater}
use Rattle.std.proofs.lemmas.Bool.{false≢true}
use Rattle.std.proofs.lemmas.Cmp.{eq_by_cmp_equiv}
use Rattle.timeout_queue.specs.declared.key.Deadline.{Deadline}
use Rattle.timeout_queue.specs.declared.rows.Rows.{Rows}
use Rattle.timeout_queue.specs.Key.{deadline_cmp}
use Rattle.timeout_queue.specs.Rows.{AreLed, HoldsAll, LeavesTree, IsIn, IsBehind, IsRising, IsLed, KeepsLive, Thins, AddsLive, DropsLive, Extends, HaveLive, IsFirstLive, sooner_of}
use Rattle.timeout_queue.proofs.KeyLemmas.{deadline_cmp_total, deadline_cmp-IsAntisymmetric}

-- ---- the order of deadlines

abbrev IsUpto : Deadline → Deadline → Type 0
IsUpto x y = is_le (deadline_cmp x y) ≡ true

pub is_upto-trans : (x y z : Deadline) → IsUpto x y → IsUpto y z → IsUpto x z
is_upto-trans x y z p q =
    elim (deadline_cmp y z) as (λ r. deadline_cmp y z ≡ r → is_le r ≡ true → IsUpto x z) [
      | Less ↦ λ is h. ap is_le (le_lt_trans deadline_cmp_total x y z p is)
      | Equal ↦ λ is h. subst (IsUpto x) (deadline_cmp-IsAntisymmetric y z is) p
      | Greater ↦ λ is h. absurd (false≢true h)
    ] refl q

pub is_upto-refl : (x : Deadline) → IsUpto x x
is_upto-refl x = ap is_le ((Equal-is (deadline_cmp x x)).0 ((eq_by_cmp_equiv deadline_cmp_total).refl x))

-- ---- one row

module _ (P : Deadline → Type 0) where
  all_push : (xs : List Deadline) (d : Deadline) → AllByRecursion P xs → P d → AllByRecursion P (xs ++ d ∷ [])
  all_push [] d all is = (is, tt)
  all_push (x ∷ xs) d all is = (all.0, all_push xs d all.1 is)

  all_filter : (p : Deadline → Bool) (xs : List Deadline) → AllByRecursion P xs → AllByRecursion P (filter p xs)
  all_filter p [] all = tt
  all_filter p (x ∷ xs) all = by_test (p x) (all_filter p xs all.1)
    where
      by_test : (b : Bool) → AllByRecursion P (filter p xs) → AllByRecursion P (cond b (x ∷ filter p xs) (filter p xs))
      by_test true rest = (all.0, rest)
      by_test false rest = rest

  all_in : (xs : List Deadline) (d : Deadline) → AllByRecursion P xs → IsIn d xs → P d
  all_in [] d all at = absurd at
  all_in (x ∷ xs) d all at = ⊎_elim (λ (e : x ≡ d). subst P e all.0) (λ (i : IsIn d xs). all_in xs d all.1 i) at

rising_push : (row : List Deadline) (d : Deadline) → IsRising row → IsBehind d row → IsRising (row ++ d ∷ [])
rising_push [] d rising behind = (tt, tt)
rising_push (x ∷ xs) d rising behind = (all_push (IsUpto x) xs d rising.0 behind.0, rising_push xs d rising.1 behind.1)

rising_filter : (p : Deadline → Bool) (row : List Deadline) → IsRising row → IsRising (filter p row)
rising_filter p [] rising = tt
rising_filter p (x ∷ xs) rising = by_test (p x) (rising_filter p xs rising.1)
  where
    by_test : (b : Bool) → IsRising (filter p xs) → IsRising (cond b (x ∷ filter p xs) (filter p xs))
    by_test true rest = (all_filter (IsUpto x) p xs rising.0, rest)
    by_test false rest = rest

in_filter : (p : Deadline → Bool) (row : List Deadline) (d : Deadline) → p d ≡ true → IsIn d row → IsIn d (filter p row)
in_filter p [] d is at = at
in_filter p (x ∷ xs) d is at = by_test (p x) refl (λ i. in_filter p xs d is i)
  where
    by_test : (b : Bool) → p x ≡ b → (IsIn d xs → IsIn d (filter p xs)) → IsIn d (cond b (x ∷ filter p xs) (filter p xs))
    by_test true q rest = ⊎_elim (λ (e : x ≡ d). inl e) (λ (i : IsIn d xs). inr (rest i)) at
    by_test false q rest = ⊎_elim (λ (e : x ≡ d). absurd (false≢true (sym q ∙ (ap p e ∙ is)))) rest at

led_filter : (p : Deadline → Bool) (row : List Deadline) → IsLed (λ d. p d ≡ true) (filter p row)
led_filter p [] = tt
led_filter p (x ∷ xs) = by_test (p x) refl (led_filter p xs)
  where
    by_test : (b : Bool) → p x ≡ b → IsLed (λ d. p d ≡ true) (filter p xs) → IsLed (λ d. p d ≡ true) (cond b (x ∷ filter p xs) (filter p xs))
    by_test true q rest = q
    by_test false q rest = rest

in_push : (row : List Deadline) (d : Deadline) → IsIn d (row ++ d ∷ [])
in_push [] d = inl refl
in_push (x ∷ xs) d = inr (in_push xs d)

in_push_left : (row : List Deadline) (d y : Deadline) → IsIn d row → IsIn d (row ++ y ∷ [])
in_push_left [] d y at = absurd at
in_push_left (x ∷ xs) d y at = ⊎_elim (λ (e : x ≡ d). inl e) (λ (i : IsIn d xs). inr (in_push_left xs d y i)) at

pub led_weaker : (P Q : Deadline → Type 0) → ((d : Deadline) → P d → Q d) → (row : List Deadline) → IsLed P row → IsLed Q row
led_weaker P Q f [] led = tt
led_weaker P Q f (x ∷ xs) led = f x led

-- a deadline that is not before the last one of a rising row is before none
last_behind : (x : Deadline) (xs : List Deadline) (d y : Deadline) → IsRising (x ∷ xs) → y ≡ get_or (x ∷ xs) (length xs) y → IsUpto y d → IsBehind d (x ∷ xs)
last_behind x [] d y rising is upto = (subst (λ z. IsUpto z d) is upto, tt)
last_behind x (z ∷ zs) d y rising is upto =
    let rest = last_behind z zs d y rising.1 is upto in (is_upto-trans x z d rising.0.0 rest.0, rest)

pub fits_behind : (row : List Deadline) (n : ℕ) (d y : Deadline) → n ≡ length row → IsRising row → y ≡ get_or row (n - 1) y → IsUpto y d → IsBehind d row
fits_behind [] n d y len rising is upto = tt
fits_behind (x ∷ xs) n d y len rising is upto =
    let at : n - 1 ≡ length xs = omega (arith, len) in
    last_behind x xs d y rising (subst (λ k. y ≡ get_or (x ∷ xs) k y) at is) upto

pub behind_none : (row : List Deadline) (n : ℕ) (d : Deadline) → n ≡ length row → (0 < n → ⊥) → IsBehind d row
behind_none [] n d len none = tt
behind_none (x ∷ xs) n d len none = absurd (none (omega (arith, len)))

-- what the first of a row is, is said of the row
pub led_by_front : (P : Deadline → Type 0) (row : List Deadline) (x : Deadline) → x ≡ get_or row 0 x → P x → IsLed P row
led_by_front P [] x is p = tt
led_by_front P (y ∷ ys) x is p = subst P is p

pub led_none : (P : Deadline → Type 0) (row : List Deadline) (n : ℕ) → n ≡ length row → (0 < n → ⊥) → IsLed P row
led_none P [] n len none = tt
led_none P (x ∷ xs) n len none = absurd (none (omega (arith, len)))

-- a row that is led by the deadline or a live one, and not by the deadline
pub led_else : (P : Deadline → Type 0) (row : List Deadline) (d x : Deadline) → x ≡ get_or row 0 x → (x ≡ d → ⊥) → IsLed (λ y. (d ≡ y) ⊎ P y) row → IsLed P row
led_else P [] d x is else led = tt
led_else P (y ∷ ys) d x is else led = ⊎_elim (λ (e : d ≡ y). absurd (else (is ∙ sym e))) (λ (p : P y). p) led

module _ (live : Deadline → Bool) where
  pub keeps_refl : (row : List Deadline) → KeepsLive live row row
  keeps_refl row = record { rising = λ r. r; behind = λ d b. b; kept = λ d l i. i }

  pub keeps_trans : (xs ys zs : List Deadline) → KeepsLive live xs ys → KeepsLive live ys zs → KeepsLive live xs zs
  keeps_trans xs ys zs h k = record {
    rising = λ r. k.rising (h.rising r);
    behind = λ d b. k.behind d (h.behind d b);
    kept = λ d l i. k.kept d l (h.kept d l i);
  }

  -- the first leaves, which isn't live
  pub keeps_popped : (old new : List Deadline) (r : Option Deadline) (x : Deadline) → old ≡ option_to_list r ++ new → x ≡ get_or old 0 x → live x ≡ false → KeepsLive live old new
  keeps_popped old new None x is at stale = subst (λ l. KeepsLive live l new) (sym is) (keeps_refl new)
  keeps_popped old new (Some y) x is at stale = subst (λ l. KeepsLive live l new) (sym is) (record {
    rising = λ r. r.1;
    behind = λ d b. b.1;
    kept = λ d l i. ⊎_elim (λ (e : y ≡ d). absurd (false≢true (sym stale ∙ (ap live (at ∙ (ap (λ l. get_or l 0 x) is ∙ e)) ∙ l)))) (λ (k : IsIn d new). k) i;
  })

  pub thins_refl : (row : List Deadline) → Thins live row row
  thins_refl row = record { keeps = keeps_refl row; led = λ l. l }

  -- those that aren't live leave
  pub thins_filter : (old new : List Deadline) → new ≡ filter live old → Thins live old new
  thins_filter old new is = subst (Thins live old) (sym is) (record {
    keeps = record { rising = rising_filter live old; behind = λ d b. all_filter (λ x. IsUpto x d) live old b; kept = λ d l i. in_filter live old d l i };
    led = λ _. led_filter live old;
  })

  -- a deadline comes to the end of a thinned row
  pub extends : (old thin new : List Deadline) (d : Deadline) → IsRising old → IsBehind d old → Thins live old thin → new ≡ thin ++ d ∷ [] → Extends live d old new
  extends old thin new d rising behind thins is = subst (Extends live d old) (sym is) (record {
    rising = rising_push thin d (thins.keeps.rising rising) (thins.keeps.behind d behind);
    kept = λ q l i. in_push_left thin q d (thins.keeps.kept q l i);
    has = in_push thin d;
    led = λ after adds led. led_push thin after adds (thins.led led);
  })
    where
      led_push : (row : List Deadline) (after : Deadline → Bool) → AddsLive live d after → IsLed (λ q. live q ≡ true) row → IsLed (λ q. after q ≡ true) (row ++ d ∷ [])
      led_push [] after adds led = adds.itself
      led_push (x ∷ xs) after adds led = adds.kept x led

-- ---- all rows

-- where nothing is live, empty rows have all
pub have_none : (live : Deadline → Bool) (rows : Rows) → rows.row.items ≡ [] → rows.other.items ≡ [] → rows.rest.keys ≡ [] → ((d : Deadline) → live d ≡ true → ⊥) → HaveLive live rows
have_none live rows row other rest none = record {
  rising = subst IsRising (sym row) tt;
  led = subst (IsLed (λ d. live d ≡ true)) (sym row) tt;
  other_rising = subst IsRising (sym other) tt;
  other_led = subst (IsLed (λ d. live d ≡ true)) (sym other) tt;
  rest = λ d there. absurd (false≢true (sym (ap (λ ks. contains deadline_cmp (record rows.rest { keys = ks }) d) rest) ∙ there));
  all = λ d l. absurd (none d l);
}

module _ (live : Deadline → Bool) (old new : Rows) (h : HaveLive live old) where
  pub have_in_row : (d : Deadline) (after : Deadline → Bool) → AddsLive live d after → Extends live d old.row.items new.row.items
      → new.other.items ≡ old.other.items → new.rest ≡ old.rest → HaveLive after new
  have_in_row d after adds ext other rest = record {
    rising = ext.rising;
    led = ext.led after adds h.led;
    other_rising = subst IsRising (sym other) h.other_rising;
    other_led = subst (IsLed (λ q. after q ≡ true)) (sym other) (led_weaker (λ q. live q ≡ true) (λ q. after q ≡ true) adds.kept old.other.items h.other_led);
    rest = λ q there. adds.kept q (h.rest q (sym (ap (λ t. contains deadline_cmp t q) rest) ∙ there));
    all = λ q is. ⊎_elim (λ (e : d ≡ q). inl (subst (λ z. IsIn z new.row.items) e ext.has)) (λ (l : live q ≡ true).
        ⊎_elim (λ (i : IsIn q old.row.items). inl (ext.kept q l i))
        (λ (i : IsIn q old.other.items ⊎ (contains deadline_cmp old.rest q ≡ true)).
        ⊎_elim (λ (j : IsIn q old.other.items). inr (inl (subst (IsIn q) (sym other) j))) (λ (j : contains deadline_cmp old.rest q ≡ true). inr (inr (ap (λ t. contains deadline_cmp t q) rest ∙ j))) i)
        (h.all q l)) (adds.only q is);
  }

  pub have_in_other : (d : Deadline) (after : Deadline → Bool) → AddsLive live d after → Extends live d old.other.items new.other.items
      → new.row.items ≡ old.row.items → new.rest ≡ old.rest → HaveLive after new
  have_in_other d after adds ext row rest = record {
    rising = subst IsRising (sym row) h.rising;
    led = subst (IsLed (λ q. after q ≡ true)) (sym row) (led_weaker (λ q. live q ≡ true) (λ q. after q ≡ true) adds.kept old.row.items h.led);
    other_rising = ext.rising;
    other_led = ext.led after adds h.other_led;
    rest = λ q there. adds.kept q (h.rest q (sym (ap (λ t. contains deadline_cmp t q) rest) ∙ there));
    all = λ q is. ⊎_elim (λ (e : d ≡ q). inr (inl (subst (λ z. IsIn z new.other.items) e ext.has))) (λ (l : live q ≡ true).
        ⊎_elim (λ (i : IsIn q old.row.items). inl (subst (IsIn q) (sym row) i))
        (λ (i : IsIn q old.other.items ⊎ (contains deadline_cmp old.rest q ≡ true)).
        ⊎_elim (λ (j : IsIn q old.other.items). inr (inl (ext.kept q l j))) (λ (j : contains deadline_cmp old.rest q ≡ true). inr (inr (ap (λ t. contains deadline_cmp t q) rest ∙ j))) i)
        (h.all q l)) (adds.only q is);
  }

  pub have_in_rest : (d : Deadline) (after : Deadline → Bool) → AddsLive live d after → set.Updates deadline_cmp old.rest new.rest d true
      → new.row.items ≡ old.row.items → new.other.items ≡ old.other.items → HaveLive after new
  have_in_rest d after adds updates row other = record {
    rising = subst IsRising (sym row) h.rising;
    led = subst (IsLed (λ q. after q ≡ true)) (sym row) (led_weaker (λ q. live q ≡ true) (λ q. after q ≡ true) adds.kept old.row.items h.led);
    other_rising = subst IsRising (sym other) h.other_rising;
    other_led = subst (IsLed (λ q. after q ≡ true)) (sym other) (led_weaker (λ q. live q ≡ true) (λ q. after q ≡ true) adds.kept old.other.items h.other_led);
    rest = λ q there. from_rest q (eq_by_cmp deadline_cmp d q) refl (sym (updates.0 q) ∙ there);
    all = λ q is. ⊎_elim (λ (e : d ≡ q). inr (inr (subst (λ z. contains deadline_cmp new.rest z ≡ true) e updates.1))) (λ (l : live q ≡ true).
        ⊎_elim (λ (i : IsIn q old.row.items). inl (subst (IsIn q) (sym row) i))
        (λ (i : IsIn q old.other.items ⊎ (contains deadline_cmp old.rest q ≡ true)).
        ⊎_elim (λ (j : IsIn q old.other.items). inr (inl (subst (IsIn q) (sym other) j))) (λ (j : contains deadline_cmp old.rest q ≡ true). inr (inr (updates.0 q ∙ still q j (eq_by_cmp deadline_cmp d q)))) i)
        (h.all q l)) (adds.only q is);
  }
    where
      from_rest : (q : Deadline) (b : Bool) → eq_by_cmp deadline_cmp d q ≡ b → cond b true (contains deadline_cmp old.rest q) ≡ true → after q ≡ true
      from_rest q true tie there = subst (λ z. after z ≡ true) (deadline_cmp-IsAntisymmetric d q ((Equal-is (deadline_cmp d q)).0 tie)) adds.itself
      from_rest q false tie there = adds.kept q (h.rest q there)

      still : (q : Deadline) → contains deadline_cmp old.rest q ≡ true → (b : Bool) → cond b true (contains deadline_cmp old.rest q) ≡ true
      still q there true = refl
      still q there false = there

  -- a row was thinned
  pub have_thinned : Thins live old.row.items new.row.items → Thins live old.other.items new.other.items → new.rest ≡ old.rest → HaveLive live new
  have_thinned row other rest = record {
    rising = row.keeps.rising h.rising;
    led = row.led h.led;
    other_rising = other.keeps.rising h.other_rising;
    other_led = other.led h.other_led;
    rest = λ q there. h.rest q (sym (ap (λ t. contains deadline_cmp t q) rest) ∙ there);
    all = λ q l. ⊎_elim (λ (i : IsIn q old.row.items). inl (row.keeps.kept q l i))
        (λ (i : IsIn q old.other.items ⊎ (contains deadline_cmp old.rest q ≡ true)).
        ⊎_elim (λ (j : IsIn q old.other.items). inr (inl (other.keeps.kept q l j))) (λ (j : contains deadline_cmp old.rest q ≡ true). inr (inr (ap (λ t. contains deadline_cmp t q) rest ∙ j))) i)
        (h.all q l);
  }

  -- a deadline left
  module _ (d : Deadline) (after : Deadline → Bool) (drops : DropsLive live d after) (row : KeepsLive after old.row.items new.row.items)
      (other : KeepsLive after old.other.items new.other.items) (leaves : LeavesTree d old.rest new.rest) where
    pub holds_without : HoldsAll after new
    holds_without = λ q l. ⊎_elim (λ (i : IsIn q old.row.items). inl (row.kept q l i))
        (λ (i : IsIn q old.other.items ⊎ (contains deadline_cmp old.rest q ≡ true)).
        ⊎_elim (λ (j : IsIn q old.other.items). inr (inl (other.kept q l j))) (λ (j : contains deadline_cmp old.rest q ≡ true). inr (inr (leaves q ∙ still q l j (eq_by_cmp deadline_cmp d q) refl))) i)
        (h.all q (drops.only q l))
      where
        still : (q : Deadline) → after q ≡ true → contains deadline_cmp old.rest q ≡ true → (b : Bool) → eq_by_cmp deadline_cmp d q ≡ b → cond b false (contains deadline_cmp old.rest q) ≡ true
        still q l there true tie = absurd (drops.gone (subst (λ z. after z ≡ true) (sym (deadline_cmp-IsAntisymmetric d q ((Equal-is (deadline_cmp d q)).0 tie))) l))
        still q l there false tie = there

    pub have_without : AreLed after new → HaveLive after new
    have_without led = record {
      rising = row.rising h.rising;
      led = led.0;
      other_rising = other.rising h.other_rising;
      other_led = led.1;
      rest = λ q there. from_rest q (eq_by_cmp deadline_cmp d q) refl (sym (leaves q) ∙ there);
      all = holds_without;
    }
      where
        from_rest : (q : Deadline) (b : Bool) → eq_by_cmp deadline_cmp d q ≡ b → cond b false (contains deadline_cmp old.rest q) ≡ true → after q ≡ true
        from_rest q true tie there = absurd (false≢true there)
        from_rest q false tie there = ⊎_elim (λ (e : d ≡ q). absurd (false≢true (sym tie ∙ (ap (eq_by_cmp deadline_cmp d) (sym e) ∙ (eq_by_cmp_equiv deadline_cmp_total).refl d)))) (λ (l : after q ≡ true). l) (drops.kept q (h.rest q there))

-- an empty tree is without the deadline
pub none_leaves : (d : Deadline) (rest : BTreeSet Deadline) → length rest.keys ≡ 0 → LeavesTree d rest rest
none_leaves d rest none q = unless (eq_by_cmp deadline_cmp d q) _ (absent rest.keys none)
  where
    absent : (keys : List Deadline) → length keys ≡ 0 → list_any (λ k. eq_by_cmp deadline_cmp q k) keys ≡ false
    absent [] empty = refl
    absent (k ∷ ks) empty = absurd (omega (arith, empty))

    unless : (b has : Bool) → has ≡ false → has ≡ cond b false has
    unless true has is = is
    unless false has is = refl

-- ---- the first

-- of those with P it is the first, or there are none
abbrev pub Leads : (Deadline → Type 0) → Option Deadline → Type 0
Leads P r = MatchOption r ((d : Deadline) → P d → ⊥) (λ f. P f × ((d : Deadline) → P d → IsUpto f d))

pub leads_sooner : (P Q : Deadline → Type 0) (a b : Option Deadline) → Leads P a → Leads Q b → Leads (λ d. P d ⊎ Q d) (sooner_of a b)
leads_sooner P Q None None p q = λ d h. ⊎_elim (λ (i : P d). p d i) (λ (i : Q d). q d i) h
leads_sooner P Q None (Some b) p q = (inr q.0, λ d h. ⊎_elim (λ (i : P d). absurd (p d i)) (λ (i : Q d). q.1 d i) h)
leads_sooner P Q (Some a) None p q = (inl p.0, λ d h. ⊎_elim (λ (i : P d). p.1 d i) (λ (i : Q d). absurd (q d i)) h)
leads_sooner P Q (Some a) (Some b) p q = by_order (is_le (deadline_cmp a b)) refl
  where
    turned : (r : Ordering) → is_le r ≡ false → r ≡ Greater
    turned Less h = absurd (false≢true (sym h))
    turned Equal h = absurd (false≢true (sym h))
    turned Greater h = refl

    over : is_le (deadline_cmp a b) ≡ false → IsUpto b a
    over later = ap is_le (deadline_cmp_total.antisymm b a ∙ ap ordering_reverse (turned (deadline_cmp a b) later))

    by_order : (t : Bool) → is_le (deadline_cmp a b) ≡ t → Leads (λ d. P d ⊎ Q d) (Some (cond t a b))
    by_order true is = (inl p.0, λ d h. ⊎_elim (λ (i : P d). p.1 d i) (λ (i : Q d). is_upto-trans a b d is (q.1 d i)) h)
    by_order false is = (inr q.0, λ d h. ⊎_elim (λ (i : P d). is_upto-trans b a d (over is) (p.1 d i)) (λ (i : Q d). q.1 d i) h)

-- a row's front leads what stands in the row
pub front_leads : (live : Deadline → Bool) (row : List Deadline) (r : Option Deadline) → r ≡ slice_get row 0 → IsRising row → IsLed (λ d. live d ≡ true) row
    → Leads (λ d. IsIn d row × (live d ≡ true)) r
front_leads live [] r is rising led = subst (Leads (λ d. IsIn d [] × (live d ≡ true))) (sym is) (λ d h. h.0)
front_leads live (x ∷ xs) r is rising led = subst (Leads (λ d. IsIn d (x ∷ xs) × (live d ≡ true))) (sym is)
    ((inl refl, led), λ d h. ⊎_elim (λ (e : x ≡ d). subst (IsUpto x) e (is_upto-refl x)) (λ (i : IsIn d xs). all_in (IsUpto x) xs d rising.0 i) h.0)

front_none : (row : List Deadline) (n : ℕ) → n ≡ length row → (0 < n → ⊥) → row ≡ []
front_none [] n len none = refl
front_none (x ∷ xs) n len none = absurd (none (omega (arith, len)))

-- who leads the rows and the tree is the first
pub first_live : (live : Deadline → Bool) (rows : Rows) (r : Option Deadline) → HaveLive live rows
    → Leads (λ d. ((IsIn d rows.row.items × (live d ≡ true)) ⊎ (IsIn d rows.other.items × (live d ≡ true))) ⊎ (contains deadline_cmp rows.rest d ≡ true)) r
    → MatchOption r ((d : Deadline) → live d ≡ true → ⊥) (IsFirstLive live)
first_live live rows r h leads = by_case r leads
  where
    Stands : Deadline → Type 0
    Stands d = ((IsIn d rows.row.items × (live d ≡ true)) ⊎ (IsIn d rows.other.items × (live d ≡ true))) ⊎ (contains deadline_cmp rows.rest d ≡ true)

    stands : (d : Deadline) → live d ≡ true → Stands d
    stands d l = ⊎_elim (λ (i : IsIn d rows.row.items). inl (inl (i, l)))
        (λ (i : IsIn d rows.other.items ⊎ (contains deadline_cmp rows.rest d ≡ true)).
        ⊎_elim (λ (j : IsIn d rows.other.items). inl (inr (j, l))) (λ (j : contains deadline_cmp rows.rest d ≡ true). inr j) i)
        (h.all d l)

    is_live : (d : Deadline) → Stands d → live d ≡ true
    is_live d s = ⊎_elim (λ (i : (IsIn d rows.row.items × (live d ≡ true)) ⊎ (IsIn d rows.other.items × (live d ≡ true))). ⊎_elim (λ (j : IsIn d rows.row.items × (live d ≡ true)). j.1) (λ (j : IsIn d rows.other.items × (live d ≡ true)). j.1) i) (λ (j : contains deadline_cmp rows.rest d ≡ true). h.rest d j) s

    by_case : (r : Option Deadline) → Leads Stands r → MatchOption r ((d : Deadline) → live d ≡ true → ⊥) (IsFirstLive live)
    by_case None l = λ d is. l d (stands d is)
    by_case (Some f) l = record { is = is_live f l.0; least = λ d is. l.1 d (stands d is) }

is_le_from_not_gt : (r : Ordering) → is_gt r ≡ false → is_le r ≡ true
is_le_from_not_gt Less not_gt = refl
is_le_from_not_gt Equal not_gt = refl
is_le_from_not_gt Greater not_gt = absurd (false≢true (sym not_gt))

-- what the tree's `first` finds leads the tree
pub rest_leads : (rest : BTreeSet Deadline) (r : Option (Bor Deadline)) → IsSome r ↔ (0 < set.btree_set_len rest)
    → IfSome r (λ k. contains deadline_cmp rest k.now ≡ true) → IfSome r (λ k. set.IsLowerBound deadline_cmp rest k.now) → Leads (λ d. contains deadline_cmp rest d ≡ true) (option_copied r)
rest_leads rest None some member least = λ d there. absurd (false≢true (sym (ap (list_any (λ k. eq_by_cmp deadline_cmp d k)) (front_none rest.keys _ refl (λ z. false≢true (some.1 z)))) ∙ there))
rest_leads rest (Some f) some member least = (member, λ d there. is_le_from_not_gt _ (least d there))
