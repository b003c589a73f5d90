-- How what finds the legs follows a change of the rows.
use Rattle.channel_table.proofs.Base.{◌≡◌, ◌∙◌, ℕ, ◌+◌, ◌<◌, Bool, true, false, List, [], ◌∷◌, ◌++◌, Option, Some, None, refl, ap, sym, subst, map, take, drop, map-append, AllByRecursion, list_any, filter_map, if◌then◌else◌, option_map, option_to_list, Answer, ServerKey, Ticket, each-append, Judged, Legs, fresh_leg, Flying, Flags, after, has_next, last_status, next_row, lookups_behind, Becomes, EndsRow, kept_of, IsListed, IsRising, key_of, some_waits, stays, row_set, begun_row, number_of, waits, BeginsRow, After, Ends, Stays, Row, Concerned, Lookup}
use Rattle.std.proofs.Common.{◌||◌}
use Rattle.std.specs.FinSet as set

-- what holds of each item of two lists in a row holds of those of each
pub each_before : {X : Type 0} (P : X → Type 0) (xs ys : List X) → AllByRecursion P (xs ++ ys) → AllByRecursion P xs
each_before P [] ys each = tt
each_before P (x ∷ xs) ys each = (each.0, each_before P xs ys each.1)

pub each_behind : {X : Type 0} (P : X → Type 0) (xs ys : List X) → AllByRecursion P (xs ++ ys) → AllByRecursion P ys
each_behind P [] ys each = each
each_behind P (x ∷ xs) ys each = each_behind P xs ys each.1

or_right : (b c : Bool) → c ≡ true → (b || c) ≡ true
or_right true c e = refl
or_right false c e = e

-- ---- numbers that rise

rising_more : (ns : List ℕ) (n : ℕ) → IsRising ns → AllByRecursion (λ (m : ℕ). m < n) ns → IsRising (ns ++ n ∷ [])
rising_more [] n up older = (tt, tt)
rising_more (m ∷ ns) n up older = (each-append (λ (k : ℕ). m < k) ns (n ∷ []) up.0 (older.0, tt), rising_more ns n up.1 older.1)

rising_without : (xs ys : List ℕ) (n : ℕ) → IsRising (xs ++ n ∷ ys) → IsRising (xs ++ ys)
rising_without [] ys n up = up.1
rising_without (x ∷ xs) ys n up =
    let all = up.0 in
    (each-append (λ (k : ℕ). x < k) xs ys (each_before (λ (k : ℕ). x < k) xs (n ∷ ys) all) (each_behind (λ (k : ℕ). x < k) xs (n ∷ ys) all).1, rising_without xs ys n up.1)

module _ {T : Type 0} where
  -- a request with the greatest number at the end
  pub rising_push : (rows : List (Row T)) (row : Row T) → IsRising (map number_of rows) → AllByRecursion (λ (m : ℕ). m < row.number) (map number_of rows) → IsRising (map number_of (rows ++ row ∷ []))
  rising_push rows row up older = subst IsRising (sym (map-append number_of rows (row ∷ []))) (rising_more (map number_of rows) row.number up older)

  module _ (before behind : List (Row T)) (row : Row T) (up : IsRising (map number_of (before ++ row ∷ behind))) where
    -- another row of its number in the place of one
    pub rising_same : (new : Row T) → new.number ≡ row.number → IsRising (map number_of (before ++ new ∷ behind))
    rising_same new same =
        subst IsRising (map-append number_of before (row ∷ behind) ∙ ap (λ n. map number_of before ++ n ∷ map number_of behind) (sym same) ∙ sym (map-append number_of before (new ∷ behind))) up

    -- and none
    pub rising_left : IsRising (map number_of (before ++ behind))
    rising_left =
        subst IsRising (sym (map-append number_of before behind)) (rising_without (map number_of before) (map number_of behind) row.number (subst IsRising (map-append number_of before (row ∷ behind)) up))

  -- ---- the end of an attempt

  module _ (flags : Flags) (concerned : Concerned) (judged : Judged) (reply : List ℕ) (most : ℕ) where
    -- the row stays with its number, or is gone
    pub became : (P : List (Row T) → Type 0) (before behind : List (Row T)) (row : Row T) (tickets new_tickets : List (Ticket T)) (new_rows : List (Row T)) (answer : Option Answer)
        → ((new : Row T) → new.number ≡ row.number → stays answer row ≡ true → P (before ++ new ∷ behind)) → P (before ++ behind)
        → Becomes before behind tickets new_rows new_tickets (after flags concerned judged reply most row answer) → P new_rows
    became P before behind row tickets new_tickets new_rows None on off becomes = subst P (sym becomes.0) (on (lookups_behind concerned judged reply most row) refl refl)
    became P before behind row tickets new_tickets new_rows (Some answer) on off becomes = by_test (has_next answer.status row) refl becomes
      where
        by_test : (b : Bool) → has_next answer.status row ≡ b
            → Becomes before behind tickets new_rows new_tickets (if b then Stays (next_row (fresh_leg flags) answer.status row) else Ends (record { token = row.token; call = record answer { status = last_status row.empty answer.status } }))
            → P new_rows
        by_test true is becomes = subst P (sym becomes.0) (on (next_row (fresh_leg flags) answer.status row) refl is)
        by_test false is becomes = subst P (sym becomes.0) off

    module _ (answer : Option Answer) (index : ℕ) (rows : List (Row T)) (tickets : List (Ticket T)) (new_rows : List (Row T)) (new_tickets : List (Ticket T))
        (ends : EndsRow flags concerned judged reply most answer index rows tickets new_rows new_tickets) where
      pub ends_rising : IsRising (map number_of rows) → IsRising (map number_of new_rows)
      ends_rising up =
          let here = subst (λ (rs : List (Row T)). IsRising (map number_of rs)) ends.parts up in
          became (λ rs. IsRising (map number_of rs)) (take index rows) (drop (index + 1) rows) ends.row tickets new_tickets new_rows answer (λ new same stay. rising_same (take index rows) (drop (index + 1) rows) ends.row here new same)
          (rising_left (take index rows) (drop (index + 1) rows) ends.row here) ends.becomes

      pub ends_listed : (legs : Legs) → AllByRecursion (IsListed legs) rows → (stays answer ends.row ≡ true → set.contains legs (key_of ends.row.number) ≡ true) → AllByRecursion (IsListed legs) new_rows
      ends_listed legs listed put =
          let here = subst (λ (rs : List (Row T)). AllByRecursion (IsListed legs) rs) ends.parts listed in
          let before = each_before (IsListed legs) (take index rows) (ends.row ∷ drop (index + 1) rows) here in
          let behind = (each_behind (IsListed legs) (take index rows) (ends.row ∷ drop (index + 1) rows) here).1 in
          became (λ rs. AllByRecursion (IsListed legs) rs) (take index rows) (drop (index + 1) rows) ends.row tickets new_tickets new_rows answer
          (λ new same stay. each-append (IsListed legs) (take index rows) (new ∷ drop (index + 1) rows) before ((λ waiting. subst (λ (n : ℕ). set.contains legs (key_of n) ≡ true) (sym same) (put stay)), behind))
          (each-append (IsListed legs) (take index rows) (drop (index + 1) rows) before behind) ends.becomes

  -- ---- the begin of one

  begun_number : (flying : Flying) (second : Bool) (row : Row T) → (begun_row flying second row).number ≡ row.number
  begun_number flying true row = refl
  begun_number flying false row = refl

  -- a row with an attempt more waits only if it waited
  begun_waits : (flying : Flying) (second : Bool) (row : Row T) → some_waits (begun_row flying second row) ≡ true → some_waits row ≡ true
  begun_waits flying false row e = or_right (waits row.first) (list_any waits (option_to_list row.second)) e
  begun_waits flying true row e = by_second row.second (waits row.first) e
    where
      by_second : (o : Option Lookup) (b : Bool) → (b || list_any waits (option_to_list (option_map (Rattle.channel_table.specs.Lookups.begun_lookup flying) o))) ≡ true → (b || list_any waits (option_to_list o)) ≡ true
      by_second o true e = refl
      by_second None false e = e
      by_second (Some lookup) false e = absurd cc

  module _ (flying : Flying) (index : ℕ) (second : Bool) (rows new_rows : List (Row T)) (begins : BeginsRow flying index second rows new_rows) where
    pub begins_rising : IsRising (map number_of rows) → IsRising (map number_of new_rows)
    begins_rising up =
        let here = subst (λ (rs : List (Row T)). IsRising (map number_of rs)) begins.parts up in
        subst (λ (rs : List (Row T)). IsRising (map number_of rs)) (sym begins.becomes) (rising_same (take index rows) (drop (index + 1) rows) begins.row here (begun_row flying second begins.row) (begun_number flying second begins.row))

    pub begins_listed : (legs : Legs) → AllByRecursion (IsListed legs) rows → AllByRecursion (IsListed legs) new_rows
    begins_listed legs listed =
        let here = subst (λ (rs : List (Row T)). AllByRecursion (IsListed legs) rs) begins.parts listed in
        let before = each_before (IsListed legs) (take index rows) (begins.row ∷ drop (index + 1) rows) here in
        let behind = each_behind (IsListed legs) (take index rows) (begins.row ∷ drop (index + 1) rows) here in
        let own : IsListed legs (begun_row flying second begins.row) = λ waiting. subst (λ (n : ℕ). set.contains legs (key_of n) ≡ true) (sym (begun_number flying second begins.row)) (behind.0 (begun_waits flying second begins.row waiting)) in
        subst (λ (rs : List (Row T)). AllByRecursion (IsListed legs) rs) (sym begins.becomes) (each-append (IsListed legs) (take index rows) (begun_row flying second begins.row ∷ drop (index + 1) rows) before (own, behind.1))

  -- ---- all rows at once

  pub set_numbers : (list : List ServerKey) (rows : List (Row T)) → map number_of (map (row_set list) rows) ≡ map number_of rows
  set_numbers list [] = refl
  set_numbers list (row ∷ rows) = ap (λ ns. row.number ∷ ns) (set_numbers list rows)

  module _ (f : Row T → After T) (same : (row new : Row T) → f row ≡ Stays new → new.number ≡ row.number) where
    kept_above : (n : ℕ) (rows : List (Row T)) → AllByRecursion (λ (m : ℕ). n < m) (map number_of rows) → AllByRecursion (λ (m : ℕ). n < m) (map number_of (filter_map kept_of (map f rows)))
    kept_above n [] all = tt
    kept_above n (row ∷ rows) all = by_after (f row) refl (kept_above n rows all.1)
      where
        by_after : (a : After T) → f row ≡ a → AllByRecursion (λ (m : ℕ). n < m) (map number_of (filter_map kept_of (map f rows))) → AllByRecursion (λ (m : ℕ). n < m) (map number_of (filter_map kept_of (map f (row ∷ rows))))
        by_after (Stays new) is rest = rw is (subst (λ (m : ℕ). n < m) (sym (same row new is)) all.0, rest)
        by_after (Ends ticket) is rest = rw is rest

    -- the rows that stay
    pub kept_rising : (rows : List (Row T)) → IsRising (map number_of rows) → IsRising (map number_of (filter_map kept_of (map f rows)))
    kept_rising [] up = tt
    kept_rising (row ∷ rows) up = by_after (f row) refl (kept_above row.number rows up.0) (kept_rising rows up.1)
      where
        by_after : (a : After T) → f row ≡ a → AllByRecursion (λ (m : ℕ). row.number < m) (map number_of (filter_map kept_of (map f rows))) → IsRising (map number_of (filter_map kept_of (map f rows))) → IsRising (map number_of (filter_map kept_of (map f (row ∷ rows))))
        by_after (Stays new) is all rest = rw is (subst (λ (k : ℕ). AllByRecursion (λ (m : ℕ). k < m) (map number_of (filter_map kept_of (map f rows)))) (sym (same row new is)) all, rest)
        by_after (Ends ticket) is all rest = rw is rest

  -- what the end of its attempt makes of a row that stays has its number
  pub after_number : (flags : Flags) (concerned : Concerned) (judged : Judged) (reply : List ℕ) (most : ℕ) (row new : Row T) (answer : Option Answer) → after flags concerned judged reply most row answer ≡ Stays new → new.number ≡ row.number
  after_number flags concerned judged reply most row new None e = let same : lookups_behind concerned judged reply most row ≡ new = cc in sym (ap number_of same)
  after_number flags concerned judged reply most row new (Some answer) e = by_test (has_next answer.status row) e
    where
      by_test : (b : Bool) → (if b then Stays (next_row (fresh_leg flags) answer.status row) else Ends (record { token = row.token; call = record answer { status = last_status row.empty answer.status } })) ≡ Stays new → new.number ≡ row.number
      by_test true e = let same : next_row (fresh_leg flags) answer.status row ≡ new = cc in sym (ap number_of same)
      by_test false e = absurd cc
