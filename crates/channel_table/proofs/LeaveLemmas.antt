-- How many attempts are on servers that leave the list, as the links tell it, and what a new list changes where none is.
use Rattle.channel_table.proofs.Base.{◌≡◌, ◌∙◌, ℕ, ◌+◌, ◌-◌, Bool, true, false, cond, List, [], ◌∷◌, ◌++◌, Option, Some, None, refl, ap, ap₂, sym, subst, map, take, drop, arith, eqb-true, eq-eqb, true≢false, and_parts, flat_map-append, map-append, sum_by-cons, then_some, AllByRecursion, sum_by, count_by, is_some, option_map, option_to_list, ServerKey, each-append, has_key, is_link, used, Legs, LinkUse, flying_in, Flying, AreFlown, left_of, left_second, AreLinked, left_use, over_left, IsListed, IsRising, Keeps, key_of, flying_left, has_left, kept_in, left_in, leg_set, row_set, lookup_set, all_lookups, forced_in, number_of, over_in, lookups, flew_over, flying_of, flying_over, is_forced, Row, Lookup, Flown}
use Rattle.std.proofs.Common.{◌==◌}
use Rattle.std.proofs.Common.{◌≢◌, ◌&&◌, not}
use Rattle.std.specs.FinSet as set
use Rattle.leg_index.specs.Links.{used_in}
use Rattle.query_machine.specs.declared.leg.Leg as machine
use Rattle.query_machine.specs.declared.leg.Phase.TheVariants as phases
use Rattle.channel_table.proofs.FlownLemmas.{set_flown}
use Rattle.channel_table.proofs.IndexLemmas.{each_before, each_behind, rising_same}
use Rattle.channel_table.proofs.LinkedLemmas.{set_counted}
use Rattle.channel_table.proofs.ListedLemmas.{kept_listed}
use Rattle.channel_table.proofs.LookupLists.{count_lookups}
use Rattle.channel_table.proofs.TallyLemmas.{replaced}
use Rattle.channel_table.specs.Leaving.{SetsRow}

-- ---- how many legs are in flight over the links of which this is so, by the counts of each

module _ (w : ℕ → ℕ → Bool) where
  -- those that an item counts, if it is so of its link
  abbrev counts_so : LinkUse → ℕ
  counts_so item = cond (w item.server item.link) item.count 0

  -- one for an attempt over such a link
  abbrev flies_so : Option Flying → ℕ
  flies_so None = 0
  flies_so (Some flying) = cond (w flying.server flying.link) 1 0

  part_of : (b : Bool) (count : ℕ) → count ≡ 0 → cond b count 0 ≡ 0
  part_of true count none = none
  part_of false count none = refl

  -- none, where none is over any link
  none_so : (items : List LinkUse) → ((s l : ℕ) → used s l items ≡ 0) → sum_by counts_so items ≡ 0
  none_so [] none = refl
  none_so (item ∷ items) none =
      let on : is_link item.server item.link item.server item.link ≡ true = ap₂ (λ a b. a && b) (eq-eqb item.server item.server refl) (eq-eqb item.link item.link refl) in
      let here : used_in item.server item.link item ≡ item.count = ap (λ b. cond b item.count 0) on in
      let nought : item.count ≡ 0 = omega (arith, here, sum_by-cons (used_in item.server item.link) item items, none item.server item.link) in
      let rest = none_so items (λ s l. omega (arith, sum_by-cons (used_in s l) item items, none s l)) in
      omega (arith, sum_by-cons counts_so item items, part_of (w item.server item.link) item.count nought, rest)

-- ---- with one leg less over a link

module _ (server link : ℕ) where
  less_one : List LinkUse → List LinkUse
  less_one [] = []
  less_one (item ∷ items) = cond (used_in server link item == 0) (item ∷ less_one items) (record item { count = item.count - 1 } ∷ items)

  one_less : (b : Bool) (count : ℕ) → count ≢ 0 → cond b count 0 ≡ cond b 1 0 + cond b (count - 1) 0
  one_less true count some = omega (arith, some)
  one_less false count some = refl

  module _ (w : ℕ → ℕ → Bool) where
    here_less : (item : LinkUse) → used_in server link item ≢ 0 → counts_so w item ≡ cond (w server link) 1 0 + counts_so w (record item { count = item.count - 1 })
    here_less item some = by_test (is_link item.server item.link server link) refl some
      where
        by_test : (b : Bool) → is_link item.server item.link server link ≡ b → cond b item.count 0 ≢ 0 → counts_so w item ≡ cond (w server link) 1 0 + counts_so w (record item { count = item.count - 1 })
        by_test true is counts =
            let both = and_parts _ _ is in
            let same : w item.server item.link ≡ w server link = ap₂ w (eqb-true item.server server both.0) (eqb-true item.link link both.1) in
            one_less (w item.server item.link) item.count counts ∙ ap (λ b. cond b 1 0 + counts_so w (record item { count = item.count - 1 })) same
        by_test false is counts = absurd (counts refl)

    -- those over such links are one less, if it is so of this one
    less_so : (items : List LinkUse) → used server link items ≢ 0 → sum_by (counts_so w) items ≡ cond (w server link) 1 0 + sum_by (counts_so w) (less_one items)
    unfolding less_one
    less_so [] some = absurd (some refl)
    less_so (item ∷ items) some = by_test (used_in server link item == 0) refl (less_so items)
      where
        by_test : (b : Bool) → (used_in server link item == 0) ≡ b → (used server link items ≢ 0 → sum_by (counts_so w) items ≡ cond (w server link) 1 0 + sum_by (counts_so w) (less_one items))
            → sum_by (counts_so w) (item ∷ items) ≡ cond (w server link) 1 0 + sum_by (counts_so w) (cond b (item ∷ less_one items) (record item { count = item.count - 1 } ∷ items))
        by_test true is more =
            let here : used_in server link item ≡ 0 = eqb-true (used_in server link item) 0 is in
            let rest = more (λ none. some (omega (arith, here, none, sum_by-cons (used_in server link) item items))) in
            omega (arith, rest, sum_by-cons (counts_so w) item items, sum_by-cons (counts_so w) item (less_one items))
        by_test false is more =
            let here = here_less item (λ none. true≢false (sym (eq-eqb (used_in server link item) 0 none) ∙ is)) in
            omega (arith, here, sum_by-cons (counts_so w) item items, sum_by-cons (counts_so w) (record item { count = item.count - 1 }) items)

-- as many are in flight as lookups fly, where it is so of each link
module _ (w : ℕ → ℕ → Bool) where
  alike : (ss : List Lookup) (items : List LinkUse) → ((s l : ℕ) → used s l items ≡ count_by (flew_over s l) ss) → sum_by (counts_so w) items ≡ sum_by (λ (lookup : Lookup). flies_so w (flying_of lookup)) ss
  alike [] items same = none_so w items same
  alike (lookup ∷ ss) items same = by_flying (flying_of lookup) (alike ss) (λ s l. same s l ∙ sum_by-cons (λ (x : Lookup). cond (flew_over s l x) 1 0) lookup ss) ∙ sym (sum_by-cons (λ (x : Lookup). flies_so w (flying_of x)) lookup ss)
    where
      by_flying : (o : Option Flying) → ((new : List LinkUse) → ((s l : ℕ) → used s l new ≡ count_by (flew_over s l) ss) → sum_by (counts_so w) new ≡ sum_by (λ (x : Lookup). flies_so w (flying_of x)) ss)
          → ((s l : ℕ) → used s l items ≡ cond (flying_over s l o) 1 0 + count_by (flew_over s l) ss) → sum_by (counts_so w) items ≡ flies_so w o + sum_by (λ (x : Lookup). flies_so w (flying_of x)) ss
      by_flying None more each = omega (arith, more items (λ s l. omega (arith, each s l)))
      by_flying (Some flying) more each =
          let on : flying_over flying.server flying.link (Some flying) ≡ true = ap₂ (λ a b. a && b) (eq-eqb flying.server flying.server refl) (eq-eqb flying.link flying.link refl) in
          let some : used flying.server flying.link items ≢ 0 = λ none. omega (arith, none, each flying.server flying.link, ap (λ b. cond {A = ℕ} b 1 0) on) in
          let rest = more (less_one flying.server flying.link items) (λ s l. omega (arith, each s l, less_so flying.server flying.link (is_so s l) items some)) in
          omega (arith, rest, less_so flying.server flying.link w items some)
        where
          is_so : ℕ → ℕ → ℕ → ℕ → Bool
          is_so s l server link = is_link server link s l

-- the links tell how many attempts are on servers that aren't in the list
pub left_told : {T : Type 0} (list : List ServerKey) (uses : List LinkUse) (rows : List (Row T)) → AreLinked uses rows → sum_by (left_use list) uses ≡ sum_by (left_in list) rows
left_told list uses rows are =
    alike (λ server link. not (has_key server list)) (all_lookups rows) uses (λ s l. are s l ∙ count_lookups (flew_over s l) rows)
    ∙ left_lookups (all_lookups rows) ∙ sym (count_lookups (has_left list) rows)
  where
    left_lookups : (ss : List Lookup) → sum_by (λ (lookup : Lookup). flies_so (λ server link. not (has_key server list)) (flying_of lookup)) ss ≡ count_by (has_left list) ss
    left_lookups [] = refl
    left_lookups (lookup ∷ ss) =
        sum_by-cons (λ (x : Lookup). flies_so (λ server link. not (has_key server list)) (flying_of x)) lookup ss
        ∙ ap₂ (λ m n. m + n) (by_flying (flying_of lookup)) (left_lookups ss) ∙ sym (sum_by-cons (λ (x : Lookup). cond (has_left list x) 1 0) lookup ss)
      where
        by_flying : (o : Option Flying) → flies_so (λ server link. not (has_key server list)) o ≡ cond (flying_left list o) 1 0
        by_flying None = refl
        by_flying (Some flying) = refl

-- ---- where nothing changes

module _ (list : List ServerKey) where
  unforced : (o : Option ℕ) → is_some o ≡ false → o ≡ None
  unforced None e = refl
  unforced (Some server) e = absurd (true≢false e)

  -- a leg is as the list has it, whose attempt isn't on such a server and which isn't forced
  leg_same : (leg : machine.Leg) → flying_left list (flying_in leg.phase) ≡ false → is_some leg.forced ≡ false → leg_set list leg ≡ leg
  leg_same leg stays free =
      let none = unforced leg.forced free in
      ap (λ b. cond b (record leg { phase = phases.Waiting; forced = None }) (record leg { forced = kept_in list leg.forced })) stays
      ∙ ap (λ o. record leg { forced = o }) (ap (kept_in list) none ∙ sym none)

  lookup_same : (lookup : Lookup) → has_left list lookup ≡ false → is_forced lookup ≡ false → lookup_set list lookup ≡ lookup
  lookup_same lookup stays free = ap (λ leg. record lookup { leg = leg }) (leg_same lookup.leg stays free)

  none_counted : (b : Bool) → cond {A = ℕ} b 1 0 ≡ 0 → b ≡ false
  none_counted true e = absurd (omega (arith, e))
  none_counted false e = refl

  module _ {T : Type 0} where
    row_same : (row : Row T) → left_in list row ≡ 0 → forced_in row ≡ 0 → row_set list row ≡ row
    row_same row stays free =
        let one = lookup_same row.first (none_counted (has_left list row.first) (omega (arith, stays, sum_by-cons (λ (x : Lookup). cond (has_left list x) 1 0) row.first (option_to_list row.second))))
        (none_counted (is_forced row.first) (omega (arith, free, sum_by-cons (λ (x : Lookup). cond (is_forced x) 1 0) row.first (option_to_list row.second)))) in
        let two = by_second row.second (omega (arith, stays, sum_by-cons (λ (x : Lookup). cond (has_left list x) 1 0) row.first (option_to_list row.second)))
        (omega (arith, free, sum_by-cons (λ (x : Lookup). cond (is_forced x) 1 0) row.first (option_to_list row.second))) in
        ap₂ (λ a b. record row { first = a; second = b }) one two
      where
        by_second : (o : Option Lookup) → count_by (has_left list) (option_to_list o) ≡ 0 → count_by is_forced (option_to_list o) ≡ 0 → option_map (lookup_set list) o ≡ o
        by_second None stays free = refl
        by_second (Some lookup) stays free = ap Some (lookup_same lookup (none_counted (has_left list lookup) (omega (arith, stays))) (none_counted (is_forced lookup) (omega (arith, free))))

    -- rows are as the list has them of which no attempt is on such a server and no leg is forced
    pub rows_same : (rows : List (Row T)) → sum_by (left_in list) rows ≡ 0 → sum_by forced_in rows ≡ 0 → map (row_set list) rows ≡ rows
    rows_same [] stays free = refl
    rows_same (row ∷ rows) stays free =
        let left = sum_by-cons (left_in list) row rows in
        let forced = sum_by-cons forced_in row rows in
        ap₂ (λ r rs. r ∷ rs) (row_same row (omega (arith, left, stays)) (omega (arith, forced, free))) (rows_same rows (omega (arith, left, stays)) (omega (arith, forced, free)))

-- ---- one row behind the list, among others

module _ (list : List ServerKey) where
  kept_again : (o : Option ℕ) → kept_in list (kept_in list o) ≡ kept_in list o
  kept_again None = refl
  kept_again (Some key) = by_test (has_key key list) refl
    where
      by_test : (b : Bool) → has_key key list ≡ b → kept_in list (then_some b key) ≡ then_some b key
      by_test true is = ap (λ b. then_some b key) is
      by_test false is = refl

  -- a list that is set again changes nothing
  leg_again : (leg : machine.Leg) → leg_set list (leg_set list leg) ≡ leg_set list leg
  leg_again leg = by_test (flying_left list (flying_in leg.phase)) refl
    where
      by_test : (b : Bool) → flying_left list (flying_in leg.phase) ≡ b
          → leg_set list (cond b (record leg { phase = phases.Waiting; forced = None }) (record leg { forced = kept_in list leg.forced })) ≡ cond b (record leg { phase = phases.Waiting; forced = None }) (record leg { forced = kept_in list leg.forced })
      by_test true is = refl
      by_test false is =
          ap (λ b. cond b (record leg { phase = phases.Waiting; forced = None }) (record leg { forced = kept_in list (kept_in list leg.forced) })) is
          ∙ ap (λ o. record leg { forced = o }) (kept_again leg.forced)

  lookup_again : (lookup : Lookup) → lookup_set list (lookup_set list lookup) ≡ lookup_set list lookup
  lookup_again lookup = ap (λ leg. record lookup { leg = leg }) (leg_again lookup.leg)

  second_again : (o : Option Lookup) → option_map (lookup_set list) (option_map (lookup_set list) o) ≡ option_map (lookup_set list) o
  second_again None = refl
  second_again (Some lookup) = ap Some (lookup_again lookup)

  module _ {T : Type 0} where
    row_again : (row : Row T) → row_set list (row_set list row) ≡ row_set list row
    row_again row = ap₂ (λ a b. record row { first = a; second = b }) (lookup_again row.first) (second_again row.second)

    module _ (index : ℕ) (rows new_rows : List (Row T)) (sets : SetsRow list index rows new_rows) where
      front : List (Row T)
      front = take index rows

      back : List (Row T)
      back = drop (index + 1) rows

      new : Row T
      new = row_set list sets.row

      -- the list makes the same of the rows as before
      pub sets_again : map (row_set list) new_rows ≡ map (row_set list) rows
      unfolding front back new
      sets_again =
          ap (map (row_set list)) sets.becomes ∙ map-append (row_set list) front (new ∷ back)
          ∙ ap (λ r. map (row_set list) front ++ r ∷ map (row_set list) back) (row_again sets.row)
          ∙ sym (ap (map (row_set list)) sets.parts ∙ map-append (row_set list) front (sets.row ∷ back))

      pub sets_rising : IsRising (map number_of rows) → IsRising (map number_of new_rows)
      unfolding front back new
      sets_rising up =
          subst (λ (rs : List (Row T)). IsRising (map number_of rs)) (sym sets.becomes)
          (rising_same front back sets.row (subst (λ (rs : List (Row T)). IsRising (map number_of rs)) sets.parts up) new refl)

      -- the row is among those that wait
      pub sets_listed : (old legs : Legs) → Keeps old legs → set.contains legs (key_of sets.row.number) ≡ true → AllByRecursion (IsListed old) rows → AllByRecursion (IsListed legs) new_rows
      unfolding front back new
      sets_listed old legs keeps there listed =
          let kept = subst (λ (rs : List (Row T)). AllByRecursion (IsListed legs) rs) sets.parts (kept_listed old legs rows keeps listed) in
          subst (λ (rs : List (Row T)). AllByRecursion (IsListed legs) rs) (sym sets.becomes)
          (each-append (IsListed legs) front (new ∷ back) (each_before (IsListed legs) front (sets.row ∷ back) kept) ((λ waiting. there), (each_behind (IsListed legs) front (sets.row ∷ back) kept).1))

      pub sets_flown : (flown : Flown) → AreFlown flown (all_lookups rows) → AreFlown (left_of (has_left list sets.row.first) (left_second list sets.row.second) sets.row flown) (all_lookups new_rows)
      unfolding front back new
      sets_flown flown are =
          subst (AreFlown (left_of (has_left list sets.row.first) (left_second list sets.row.second) sets.row flown)) (sym (ap all_lookups sets.becomes ∙ flat_map-append lookups front (new ∷ back)))
          (set_flown flown (all_lookups front) (all_lookups back) sets.row list (subst (AreFlown flown) (ap all_lookups sets.parts ∙ flat_map-append lookups front (sets.row ∷ back)) are))

      pub sets_linked : (links new_links : List LinkUse) → AreLinked links rows → ((server link : ℕ) → used server link new_links ≡ used server link links - over_left list server link sets.row) → AreLinked new_links new_rows
      unfolding front back new
      sets_linked links new_links are told = λ server link.
          let f = over_in {T = T} server link in
          omega (arith, told server link, are server link, ap (sum_by f) sets.becomes, ap (sum_by f) sets.parts, replaced f front back sets.row new, set_counted server link sets.row list)
