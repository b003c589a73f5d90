-- Rows in the order of their numbers, and the first of them that waits.
use Rattle.channel_table.proofs.Base.{◌≡◌, ◌∙◌, ℕ, zero, suc, ◌+◌, ◌-◌, ◌<◌, ◌≤◌, Bool, true, false, cond, List, [], ◌∷◌, ◌++◌, Option, Some, None, refl, ap, sym, subst, map, take, get_or, length, arith, false≢true, leb-false, get_or_read, AllByRecursion, list_any, eq_by_cmp, is_le, nat_cmp, ordering_then, flat_map, if◌then◌else◌, ◌≢◌, Less, Equal, Greater, each-then, leg_of, Legs, key_cmp_total, tied_keys, key_cmp, Key, IsListed, IsRising, Keeps, key_of, some_waits, number_of, row_waits, lookups, leg_of_lookup, waits, waits_of, Row, IsIdle, Lookup}
use Rattle.std.proofs.Common.{leb}
use Rattle.std.proofs.lemmas.Bool.{leb-true}
use Rattle.std.proofs.Common.{not, ◌&&◌, ◌||◌}
use Rattle.std.proofs.lemmas.Cmp.{eq_by_cmp_equiv, ranked}
use Rattle.std.specs.FinSet as set
use Rattle.leg_index.specs.Waiting.{WaitsFirst}
use Rattle.channel_table.proofs.Finding.{found_first}
use Rattle.channel_table.proofs.RowAt.{item_at}
use Rattle.channel_table.specs.Listed.{FindsIdleWith}
use Rattle.channel_table.specs.Starting.{FindsAt, FindsIdle, FindsIdleLookup}
use Rattle.channel_table.specs.declared.table.starting.Idle.{Idle}

-- lookups of which none waits give no leg that does, and the other way round
pub none_waits : (ss : List Lookup) → list_any waits ss ≡ false → flat_map waits_of ss ≡ []
none_waits [] e = refl
none_waits (lookup ∷ ss) e = by_test (waits lookup) e (none_waits ss)
  where
    by_test : (b : Bool) → (b || list_any waits ss) ≡ false → (list_any waits ss ≡ false → flat_map waits_of ss ≡ []) → (if b then leg_of_lookup lookup ∷ [] else []) ++ flat_map waits_of ss ≡ []
    by_test true e rest = absurd (false≢true (sym e))
    by_test false e rest = rest e

waits_none : (ss : List Lookup) → flat_map waits_of ss ≡ [] → list_any waits ss ≡ false
waits_none [] e = refl
waits_none (lookup ∷ ss) e = by_test (waits lookup) e (waits_none ss)
  where
    by_test : (b : Bool) → (if b then leg_of_lookup lookup ∷ [] else []) ++ flat_map waits_of ss ≡ [] → (flat_map waits_of ss ≡ [] → list_any waits ss ≡ false) → (b || list_any waits ss) ≡ false
    by_test true none rest = absurd cc
    by_test false none rest = rest none

-- ---- keys

-- a request that comes to those that wait keeps the others
pub insert_keeps : (legs : Legs) (key : Key) → Keeps legs (set.insert legs key)
insert_keeps legs key number there = set.contains-insert key_cmp_total legs key (key_of number) ∙ by_tie (eq_by_cmp key_cmp (key_of number) key)
  where
    by_tie : (b : Bool) → (b || set.contains legs (key_of number)) ≡ true
    by_tie true = refl
    by_tie false = there

-- and is there
pub listed_itself : (legs : Legs) (number : ℕ) → set.contains (set.insert legs (key_of number)) (key_of number) ≡ true
listed_itself legs number = set.contains-insert key_cmp_total legs (key_of number) (key_of number) ∙ ap (λ b. b || set.contains legs (key_of number)) ((eq_by_cmp_equiv key_cmp_total).refl (key_of number))

-- no key of a greater number comes first
later : (key other : Key) → other.number < key.number → is_le (key_cmp key other) ≡ true → ⊥
later key other less upto =
    elim (nat_cmp key.number other.number) as (λ r. r ≡ nat_cmp key.number other.number → is_le (ordering_then r (nat_cmp key.leg other.leg)) ≡ true → ⊥) [
      | Less ↦ λ is h. let more = ranked key.number other.number Less is in omega (arith, more, less)
      | Equal ↦ λ is h. let same = ranked key.number other.number Equal is in omega (arith, same, less)
      | Greater ↦ λ is h. false≢true h
    ] refl upto

-- ---- the order of the numbers

module _ {T : Type 0} where
  -- rows of which each has a greater number have one at an index
  pub above : (n : ℕ) (rows : List (Row T)) (j : ℕ) (d : Row T) → AllByRecursion (λ (m : ℕ). n < m) (map number_of rows) → j < length rows → n < (get_or rows j d).number
  above n [] j d all inside = absurd (omega (arith, inside))
  above n (row ∷ rows) zero d all inside = all.0
  above n (row ∷ rows) (suc j) d all inside = above n rows j d all.1 (omega (arith, inside))

  rising_at : (rows : List (Row T)) (i j : ℕ) (d : Row T) → IsRising (map number_of rows) → i ≤ j → j < length rows → (get_or rows i d).number ≤ (get_or rows j d).number
  rising_at [] i j d up below inside = absurd (omega (arith, inside))
  rising_at (row ∷ rows) zero zero d up below inside = omega arith
  rising_at (row ∷ rows) zero (suc j) d up below inside = let over = above row.number rows j d up.0 (omega (arith, inside)) in omega (arith, over)
  rising_at (row ∷ rows) (suc i) zero d up below inside = absurd (omega (arith, below))
  rising_at (row ∷ rows) (suc i) (suc j) d up below inside = rising_at rows i j d up.1 (omega (arith, below)) (omega (arith, inside))

  -- the rows up to one of a lesser number have lesser numbers, and those from one of a greater number on greater ones
  pub lower_half : (rows : List (Row T)) (number middle : ℕ) (row : Row T) → IsRising (map number_of rows) → middle < length rows → row ≡ get_or rows middle row → (get_or rows middle row).number < number
      → (i : ℕ) (d : Row T) → i < middle + 1 → (get_or rows i d).number < number
  lower_half rows number middle row up inside is less i d below =
      let upto = rising_at rows i middle d up (omega (arith, below)) inside in
      let here = ap number_of (get_or_read rows middle row inside is d) in
      omega (arith, upto, here, less, ap number_of is)

  pub upper_half : (rows : List (Row T)) (number middle : ℕ) (row : Row T) → IsRising (map number_of rows) → middle < length rows → row ≡ get_or rows middle row → number < (get_or rows middle row).number
      → (i : ℕ) (d : Row T) → middle ≤ i → i < length rows → number < (get_or rows i d).number
  upper_half rows number middle row up inside is more i d upto inside_i =
      let over = rising_at rows middle i d up upto inside_i in
      let here = ap number_of (get_or_read rows middle row inside is d) in
      omega (arith, over, here, more, ap number_of is)

  -- rows of which none at an index has the number don't have it
  pub none_has : (rows : List (Row T)) (number : ℕ) → ((i : ℕ) (d : Row T) → i < length rows → (get_or rows i d).number ≢ number) → AllByRecursion (λ (row : Row T). row.number ≢ number) rows
  none_has [] number other = tt
  none_has (row ∷ rows) number other = (other 0 row (omega arith), none_has rows number (λ i d inside. other (suc i) d (omega (arith, inside))))

  -- none has it where the lesser ones and the greater ones are all
  pub none_between : (rows : List (Row T)) (number low high : ℕ) → high ≤ low → ((i : ℕ) (d : Row T) → i < low → (get_or rows i d).number < number) → ((i : ℕ) (d : Row T) → high ≤ i → i < length rows → number < (get_or rows i d).number)
      → AllByRecursion (λ (row : Row T). row.number ≢ number) rows
  none_between rows number low high met below over = none_has rows number (λ i d inside same. by_order i d inside same (leb high i) refl)
    where
      by_order : (i : ℕ) (d : Row T) → i < length rows → (get_or rows i d).number ≡ number → (b : Bool) → leb high i ≡ b → ⊥
      by_order i d inside same true is = let more = over i d (leb-true high i is) inside in omega (arith, more, same)
      by_order i d inside same false is = let upto = leb-false high i is in let less = below i d (omega (arith, upto, met)) in omega (arith, less, same)

  -- ---- the row of a number

  above_with : (n number : ℕ) (rows : List (Row T)) → n ≡ number → AllByRecursion (λ (m : ℕ). n < m) (map number_of rows) → AllByRecursion (λ (row : Row T). row.number ≡ number → some_waits row ≡ false) rows
  above_with n number [] is all = tt
  above_with n number (row ∷ rows) is all = (λ same. absurd (omega (arith, same, is, all.0)), above_with n number rows is all.1)

  -- where the row of the number doesn't wait, no row of the number does
  pub idle_with : (rows : List (Row T)) (number i : ℕ) (row : Row T) → IsRising (map number_of rows) → i < length rows → row ≡ get_or rows i row → row.number ≡ number → row_waits row ≡ []
      → AllByRecursion (λ (r : Row T). r.number ≡ number → some_waits r ≡ false) rows
  idle_with [] number i row up inside is numbered none = tt
  idle_with (r ∷ rows) number zero row up inside is numbered none =
      let here : some_waits r ≡ false = subst (λ (x : Row T). some_waits x ≡ false) is (waits_none (lookups row) none) in
      (λ same. here, above_with r.number number rows (sym (ap number_of is) ∙ numbered) up.0)
  idle_with (r ∷ rows) number (suc i) row up inside is numbered none =
      let over = above r.number rows i row up.0 (omega (arith, inside)) in
      let here = ap number_of is in
      (λ same. absurd (omega (arith, over, here, numbered, same)), idle_with rows number i row up.1 (omega (arith, inside)) is numbered none)

  -- what was found of the row at an index is what was sought of its number
  pub finds_with : (rows : List (Row T)) (number i : ℕ) (row : Row T) (o : Option Idle) → IsRising (map number_of rows) → i < length rows → row ≡ get_or rows i row → row.number ≡ number → FindsIdleLookup i row o → FindsIdleWith number rows o
  finds_with rows number i row None up inside is numbered found = idle_with rows number i row up inside is numbered found
  finds_with rows number i row (Some idle) up inside is numbered found = (
    omega (arith, inside, found.0),
    λ d. subst (λ (n : ℕ). IsIdle (get_or rows n d) idle × ((get_or rows n d).number ≡ number)) (sym found.0)
        (subst (λ (r : Row T). IsIdle r idle × (r.number ≡ number)) (get_or_read rows i row inside is d) (found.1, numbered)),
  )

  -- ---- those that wait

  -- those that wait still do by more of them
  pub kept_listed : (old new : Legs) (rows : List (Row T)) → Keeps old new → AllByRecursion (IsListed old) rows → AllByRecursion (IsListed new) rows
  kept_listed old new rows keeps listed = each-then (IsListed old) (IsListed new) rows (λ row there waiting. keeps row.number (there waiting)) listed

  module _ (legs : Legs) (key : Key) where
    dropped_one : (row : Row T) → IsListed legs row → (row.number ≡ key.number → some_waits row ≡ false) → IsListed (set.remove legs key) row
    dropped_one row listed idle waiting = set.contains-remove key_cmp_total legs key (key_of row.number) ∙ by_tie (eq_by_cmp key_cmp (key_of row.number) key) refl
      where
        by_tie : (b : Bool) → eq_by_cmp key_cmp (key_of row.number) key ≡ b → (not b && set.contains legs (key_of row.number)) ≡ true
        by_tie true is = absurd (false≢true (sym (idle (ap (λ (k : Key). k.number) (tied_keys (key_of row.number) key is))) ∙ waiting))
        by_tie false is = listed waiting

    -- a request that doesn't wait leaves the others listed
    pub dropped : (rows : List (Row T)) → AllByRecursion (IsListed legs) rows → AllByRecursion (λ (row : Row T). row.number ≡ key.number → some_waits row ≡ false) rows → AllByRecursion (IsListed (set.remove legs key)) rows
    dropped [] listed idle = tt
    dropped (row ∷ rows) listed idle = (dropped_one row listed.0 idle.0, dropped rows listed.1 idle.1)

    -- and so does one that comes to them
    pub listed_one : (row : Row T) → IsListed legs row → IsListed (set.insert legs key) row
    listed_one row listed waiting = set.contains-insert key_cmp_total legs key (key_of row.number) ∙ by_tie (eq_by_cmp key_cmp (key_of row.number) key) (listed waiting)
      where
        by_tie : (b : Bool) → set.contains legs (key_of row.number) ≡ true → (b || set.contains legs (key_of row.number)) ≡ true
        by_tie true there = refl
        by_tie false there = there

    pub listed_more : (rows : List (Row T)) → AllByRecursion (IsListed legs) rows → AllByRecursion (IsListed (set.insert legs key)) rows
    listed_more rows listed = each-then (IsListed legs) (IsListed (set.insert legs key)) rows listed_one listed

  module _ (legs : Legs) (key : Key) (first : WaitsFirst legs key) where
    idle_row : (row : Row T) → IsListed legs row → row.number < key.number → row_waits row ≡ []
    idle_row row listed less = by_test (some_waits row) refl
      where
        by_test : (b : Bool) → some_waits row ≡ b → row_waits row ≡ []
        by_test true is = absurd (later key (key_of row.number) less (first.least (key_of row.number) (listed is)))
        by_test false is = none_waits (lookups row) is

    -- no row before that of the first number waits
    pub none_before : (rows : List (Row T)) (i : ℕ) (d : Row T) → IsRising (map number_of rows) → AllByRecursion (IsListed legs) rows → i < length rows → (get_or rows i d).number ≡ key.number → flat_map row_waits (take i rows) ≡ []
    none_before [] i d up listed inside is = absurd (omega (arith, inside))
    none_before (row ∷ rows) zero d up listed inside is = refl
    none_before (row ∷ rows) (suc i) d up listed inside is =
        let over = above row.number rows i d up.0 (omega (arith, inside)) in
        let here : row_waits row ≡ [] = idle_row row listed.0 (omega (arith, over, is)) in
        rw here (none_before rows i d up.1 listed.1 (omega (arith, inside)) is)

  -- where none is listed none waits
  pub none_listed : (rows : List (Row T)) → AllByRecursion (IsListed set.empty) rows → flat_map row_waits rows ≡ []
  none_listed [] listed = refl
  none_listed (row ∷ rows) listed = rw (here (some_waits row) refl) (none_listed rows listed.1)
    where
      here : (b : Bool) → some_waits row ≡ b → row_waits row ≡ []
      here true is = absurd (false≢true (sym (set.contains-empty key_cmp (key_of row.number)) ∙ listed.0 is))
      here false is = none_waits (lookups row) is

  -- what was found of the first number is the first that waits
  pub found_idle : (legs : Legs) (key : Key) (rows : List (Row T)) (idle : Idle) → WaitsFirst legs key → IsRising (map number_of rows) → AllByRecursion (IsListed legs) rows → FindsIdleWith key.number rows (Some idle) → FindsIdle rows (Some idle)
  found_idle legs key rows idle first up listed found = by_item (item_at rows idle.index found.0)
    where
      by_item : (row : Row T) × ((d : Row T) → get_or rows idle.index d ≡ row) → FindsAt rows idle
      by_item at =
          let row = at.0 in
          let own : IsIdle row idle = subst (λ (r : Row T). IsIdle r idle) (at.1 row) (found.1 row).0 in
          record {
            inside = found.0;
            is = λ d. (found.1 d).0;
            firsts = found_first row_waits rows idle.index row found.0 (sym (at.1 row)) (none_before legs key first rows idle.index row up listed found.0 (found.1 row).1) (leg_of idle.number idle.leg_number) own.firsts;
          }

-- without one of them there are fewer
pub fewer_wait : (legs : Legs) (key : Key) → set.contains legs key ≡ true → set.len (set.remove legs key) < set.len legs
fewer_wait legs key there = by_len (set.len legs) refl
  where
    by_len : (n : ℕ) → set.len legs ≡ n → set.len (set.remove legs key) < set.len legs
    by_len zero is = absurd (false≢true (sym (ap (λ (s : Legs). set.contains s key) (set.empty_of_len legs is) ∙ set.contains-empty key_cmp key) ∙ there))
    by_len (suc n) is = let less = set.len-remove key_cmp_total legs key ∙ ap (λ b. cond b (set.len legs - 1) (set.len legs)) there in omega (arith, less, is)
