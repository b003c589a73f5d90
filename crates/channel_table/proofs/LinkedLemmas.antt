-- How the counts of the links follow the rows.
use Rattle.channel_table.proofs.Base.{◌≡◌, ◌∙◌, ℕ, ◌+◌, ◌-◌, ◌<◌, ◌^◌, Bool, true, false, cond, List, [], ◌∷◌, ◌++◌, Option, Some, None, refl, ap, ap₂, sym, subst, take, drop, get_or, length, map, MatchOption, arith, eqb-true, eq-eqb, true≢false, drop_more, map-append, take_more, sum_by-append, sum_by-cons, sum_by_push, AllByRecursion, list_any, sum_by, IfSome, IsSomeAnd, count_by, filter_map, flat_map, if◌then◌else◌, is_some, option_map, option_to_list, ◌&&◌, Answer, ServerKey, Ticket, first, Judged, is_link, used, LinkUse, IsWaiting, fresh_leg, Flying, Flags, after, has_next, last_status, next_row, lookups_behind, IsApart, NoneFlies, Becomes, EndsRow, kept_of, concerns_second, left_second, AreLinked, HasOneLink, over_ended, has_left, row_set, all_lookups, begun_row, over_in, row_over, lookup_at, lookups, begun_lookup, flew_over, flying_of, concerns, is_flying, leg_of_lookup, BeginsRow, WaitsAt, link_on, links_on, row_links, After, Ends, Stays, Row, Concerned, Lookup}
use Rattle.std.proofs.Common.{◌==◌}
use Rattle.std.proofs.Common.{◌≢◌, ◌||◌, not}
use Rattle.std.proofs.lemmas.Bool.{ne_eqb}
use Rattle.leg_index.specs.Links.{IsOverTcp, NoneOverTcp}
use Rattle.channel_table.proofs.Faulting.{ends_more, stays_more}
use Rattle.channel_table.proofs.FlownLemmas.{Changes, ChangesSecond, next_idle, second_ends, second_idle, second_sets, lookup_ends, lookup_sets}
use Rattle.channel_table.proofs.FlownRows.{waiting_idle}
use Rattle.channel_table.proofs.LookupLists.{any_lookups, count_lookups, flat_lookups}
use Rattle.channel_table.proofs.TallyLemmas.{removed, replaced, sum_few, two_lookups}
use Rattle.channel_table.specs.Linked.{over_by, over_if, over_of, over_second, over_lookups}

-- how many attempts are over a link of what has become of a row
abbrev pub over_after : {T : Type 0} → ℕ → ℕ → After T → ℕ
over_after server link (Stays row) = over_in server link row
over_after server link (Ends ticket) = 0

module _ (server link : ℕ) where
  none_over : (o : Option Flying) → o ≡ None → over_by server link o ≡ 0
  none_over o none = ap (over_by server link) none

  -- what a lookup has left, and what has ended of it, is what it had
  lookup_counted : (gone : Bool) (lookup other : Lookup) → Changes gone lookup other → over_of server link other + over_if gone server link lookup ≡ over_of server link lookup
  lookup_counted true lookup other changes = omega (arith, none_over (flying_of other) (changes.idle refl))
  lookup_counted false lookup other changes = omega (arith, ap (over_by server link) (changes.same refl).2)

  -- the same of two lookups
  lookups_counted : (first gone : Bool) (one other : Lookup) (second new : Option Lookup) → Changes first one other → ChangesSecond gone second new
      → count_by (flew_over server link) (other ∷ option_to_list new) + (over_if first server link one + over_second gone server link second) ≡ count_by (flew_over server link) (one ∷ option_to_list second)
  lookups_counted first gone one other None None changes more = omega (arith, lookup_counted first one other changes)
  lookups_counted first gone one other None (Some new) changes more = absurd more
  lookups_counted first gone one other (Some lookup) None changes more = absurd more
  lookups_counted first gone one other (Some lookup) (Some new) changes more = omega (arith, lookup_counted first one other changes, lookup_counted gone lookup new more)

  -- two lookups that end have ended
  lookups_gone : (one : Lookup) (second : Option Lookup) → over_if true server link one + over_second true server link second ≡ count_by (flew_over server link) (one ∷ option_to_list second)
  lookups_gone one None = omega arith
  lookups_gone one (Some lookup) = omega arith

  module _ {T : Type 0} (row : Row T) where
    -- a row of which attempts end
    pub after_counted : (flags : Flags) (concerned : Concerned) (judged : Judged) (reply : List ℕ) (most : ℕ) (answer : Option Answer) → over_after server link (after flags concerned judged reply most row answer) + over_ended concerned (is_some answer) server link row ≡ over_in server link row
    after_counted flags concerned judged reply most None =
        let new = lookups_behind concerned judged reply most row in
        lookups_counted (concerns concerned false row.first) (concerns_second concerned row.second) row.first new.first row.second new.second (lookup_ends concerned false judged reply most row.first)
        (second_ends concerned judged (if concerns concerned false row.first then [] else reply) most row.second)
    after_counted flags concerned judged reply most (Some answer) = by_test (has_next answer.status row)
      where
        by_test : (b : Bool) → over_after server link (if b then Stays (next_row (fresh_leg flags) answer.status row) else Ends (record { token = row.token; call = record answer { status = last_status row.empty answer.status } })) + over_lookups true true server link row ≡ over_in server link row
        by_test true =
            let new = next_row (fresh_leg flags) answer.status row in
            lookups_counted true true row.first new.first row.second new.second (next_idle (fresh_leg flags) row.first refl) (second_idle (fresh_leg flags) row.second refl)
        by_test false = omega (arith, lookups_gone row.first row.second)

    -- and behind a new list of servers
    pub set_counted : (list : List ServerKey) → over_in server link (row_set list row) + over_lookups (has_left list row.first) (left_second list row.second) server link row ≡ over_in server link row
    set_counted list =
        let new = row_set list row in
        lookups_counted (has_left list row.first) (left_second list row.second) row.first new.first row.second new.second (lookup_sets list row.first) (second_sets list row.second)

    -- with an attempt begun
    begun_counted : (flying : Flying) (second : Bool) (lookup : Lookup) → lookup_at second row ≡ Some lookup → flying_of lookup ≡ None → over_in server link (begun_row flying second row) ≡ cond (is_link flying.server flying.link server link) 1 0 + over_in server link row
    begun_counted flying false lookup at none = by_second row.second
      where
        same : row.first ≡ lookup
        same = cc

        idle : over_of server link row.first ≡ 0
        idle = none_over (flying_of row.first) (ap flying_of same ∙ none)

        by_second : (o : Option Lookup) → count_by (flew_over server link) (begun_lookup flying row.first ∷ option_to_list o) ≡ cond (is_link flying.server flying.link server link) 1 0 + count_by (flew_over server link) (row.first ∷ option_to_list o)
        by_second None = omega (arith, idle)
        by_second (Some other) = omega (arith, idle)
    begun_counted flying true lookup at none =
        subst (λ (o : Option Lookup). count_by (flew_over server link) (row.first ∷ option_to_list (option_map (begun_lookup flying) o)) ≡ cond (is_link flying.server flying.link server link) 1 0 + count_by (flew_over server link) (row.first ∷ option_to_list o)) (sym at)
        (omega (arith, none_over (flying_of lookup) none))

    -- without an attempt
    none_counted : AllByRecursion (λ (lookup : Lookup). is_flying lookup ≡ false) (lookups row) → over_in server link row ≡ 0
    none_counted idle = by_second row.second idle
      where
        by_flying : (o : Option Flying) → is_some o ≡ false → over_by server link o ≡ 0
        by_flying None e = refl
        by_flying (Some flying) e = absurd cc

        by_second : (o : Option Lookup) → AllByRecursion (λ (lookup : Lookup). is_flying lookup ≡ false) (row.first ∷ option_to_list o) → count_by (flew_over server link) (row.first ∷ option_to_list o) ≡ 0
        by_second None each = omega (arith, by_flying (flying_of row.first) each.0)
        by_second (Some lookup) each = omega (arith, by_flying (flying_of row.first) each.0, by_flying (flying_of lookup) each.1.0)

module _ {T : Type 0} (links : List LinkUse) (rows : List (Row T)) (are : AreLinked links rows) where
  -- with a row more
  pub push_linked : (row : Row T) → AllByRecursion (λ (lookup : Lookup). is_flying lookup ≡ false) (lookups row) → AreLinked links (rows ++ row ∷ [])
  push_linked row idle = λ server link. omega (arith, are server link, sum_by_push (over_in server link) rows row, none_counted server link row idle)

  -- there is room for one more in each count
  pub link_fits : length rows < 2 ^ 63 → (server link : ℕ) → used server link links + 1 < 2 ^ 64
  link_fits short server link = omega (arith, are server link, sum_few (over_in server link) (two_lookups (flew_over server link)) rows, short)

  -- with the attempt of a row begun
  pub begins_linked : (new_links : List LinkUse) (flying : Flying) (index : ℕ) (second : Bool) (new_rows : List (Row T)) (begins : BeginsRow flying index second rows new_rows) → WaitsAt index second rows → IsApart index second rows
      → ((server link : ℕ) → used server link new_links ≡ cond (is_link flying.server flying.link server link) 1 0 + used server link links) → AreLinked new_links new_rows
  begins_linked new_links flying index second new_rows begins waits apart told =
      by_lookup (lookup_at second begins.row) refl (subst (λ (r : Row T). IfSome (lookup_at second r) (λ (lookup : Lookup). IsWaiting lookup.leg.phase)) (begins.is begins.row) (waits begins.row))
      (subst (λ (r : Row T). IsSomeAnd (lookup_at second r) (λ (lookup : Lookup). NoneFlies (leg_of_lookup lookup) (all_lookups rows))) (begins.is begins.row) (apart begins.row))
    where
      new : Row T
      new = begun_row flying second begins.row

      sums : (f : Row T → ℕ) → sum_by f new_rows + f begins.row ≡ sum_by f rows + f new
      sums f = ap (λ rs. sum_by f rs + f begins.row) begins.becomes ∙ replaced f (take index rows) (drop (index + 1) rows) begins.row new ∙ ap (λ rs. sum_by f rs + f new) (sym begins.parts)

      by_lookup : (o : Option Lookup) → lookup_at second begins.row ≡ o → IfSome o (λ (lookup : Lookup). IsWaiting lookup.leg.phase) → IsSomeAnd o (λ (lookup : Lookup). NoneFlies (leg_of_lookup lookup) (all_lookups rows)) → AreLinked new_links new_rows
      by_lookup None at waits none = absurd none
      by_lookup (Some lookup) at waits none = λ server link. omega (arith, told server link, are server link, sums (over_in server link), begun_counted server link begins.row flying second lookup at (waiting_idle lookup.leg.phase waits))

  -- with the attempts of a row ended
  pub ends_linked : (new_links : List LinkUse) (flags : Flags) (concerned : Concerned) (judged : Judged) (reply : List ℕ) (most : ℕ) (answer : Option Answer) (index : ℕ) (tickets : List (Ticket T)) (new_rows : List (Row T)) (new_tickets : List (Ticket T))
      (ends : EndsRow flags concerned judged reply most answer index rows tickets new_rows new_tickets) → ((server link : ℕ) → used server link new_links ≡ used server link links - over_ended concerned (is_some answer) server link ends.row) → AreLinked new_links new_rows
  ends_linked new_links flags concerned judged reply most answer index tickets new_rows new_tickets ends told = λ server link.
      omega (arith, told server link, are server link, by_after server link (after flags concerned judged reply most ends.row answer) ends.becomes, after_counted server link ends.row flags concerned judged reply most answer)
    where
      front : List (Row T)
      front = take index rows

      back : List (Row T)
      back = drop (index + 1) rows

      by_after : (server link : ℕ) (a : After T) → Becomes front back tickets new_rows new_tickets a → sum_by (over_in server link) new_rows + over_in server link ends.row ≡ sum_by (over_in server link) rows + over_after server link a
      by_after server link (Stays row) becomes =
          let f = over_in {T = T} server link in
          ap (λ rs. sum_by f rs + f ends.row) becomes.0 ∙ replaced f front back ends.row row ∙ ap (λ rs. sum_by f rs + f row) (sym ends.parts)
      by_after server link (Ends ticket) becomes =
          let f = over_in {T = T} server link in
          ap (λ rs. sum_by f rs + f ends.row) becomes.0 ∙ removed f front back ends.row ∙ ap (λ rs. sum_by f rs + 0) (sym ends.parts)

-- nothing is in flight over any link
pub none_linked : (T : Type 0) (links : List LinkUse) → links ≡ [] → AreLinked {T = T} links []
none_linked T links none = λ server link. ap (used server link) none

-- ---- one row after the other

module _ {T : Type 0} (links new_links : List LinkUse) (rows : List (Row T)) (i : ℕ) (row : Row T) (inside : i < length rows) (is : row ≡ get_or rows i row) where
  left : drop i rows ≡ row ∷ drop (i + 1) rows
  left = drop_more rows i row inside ∙ ap (λ (r : Row T). r ∷ drop (i + 1) rows) (sym is)

  taken : take (i + 1) rows ≡ take i rows ++ row ∷ []
  taken = take_more rows i row inside ∙ ap (λ (r : Row T). take i rows ++ r ∷ []) (sym is)

  behind : (f : Row T → ℕ) → sum_by f (drop i rows) ≡ f row + sum_by f (drop (i + 1) rows)
  behind f = ap (sum_by f) left ∙ sum_by-cons f row (drop (i + 1) rows)

  pub set_linked : (list : List ServerKey) → AreLinked links (map (row_set list) (take i rows) ++ drop i rows)
      → ((server link : ℕ) → used server link new_links ≡ used server link links - over_lookups (has_left list row.first) (left_second list row.second) server link row) → AreLinked new_links (map (row_set list) (take (i + 1) rows) ++ drop (i + 1) rows)
  set_linked list are told = λ server link.
      let f = over_in {T = T} server link in
      let before = map (row_set list) (take i rows) in
      let more = ap (λ (rs : List (Row T)). sum_by f (map (row_set list) rs)) taken ∙ ap (sum_by f) (map-append (row_set list) (take i rows) (row ∷ [])) ∙ sum_by_push f before (row_set list row) in
      omega (arith, told server link, are server link, sum_by-append f before (drop i rows), behind f, more, sum_by-append f (map (row_set list) (take (i + 1) rows)) (drop (i + 1) rows), set_counted server link row list)

  module _ (flags : Flags) (concerned : Concerned) (judged : Judged) (reply : List ℕ) (most : ℕ) (answer : Row T → Option Answer) where
    -- what becomes of a row
    abbrev pub made : Row T → After T
    made r = after flags concerned judged reply most r (answer r)

    more_after : (f : Row T → ℕ) (f_after : After T → ℕ) → ((r : Row T) → f_after (Stays r) ≡ f r) → ((t : Ticket T) → f_after (Ends t) ≡ 0) → sum_by f (filter_map kept_of (map made (take (i + 1) rows))) ≡ sum_by f (filter_map kept_of (map made (take i rows))) + f_after (made row)
    more_after f f_after stays ends = ap (λ (rs : List (Row T)). sum_by f (filter_map kept_of (map made rs))) taken ∙ by_after (made row) refl
      where
        before : List (Row T)
        before = filter_map kept_of (map made (take i rows))

        by_after : (a : After T) → made row ≡ a → sum_by f (filter_map kept_of (map made (take i rows ++ row ∷ []))) ≡ sum_by f before + f_after a
        by_after (Stays new) e = ap (sum_by f) (stays_more made (take i rows) row new e).0 ∙ sum_by_push f before new ∙ ap (λ n. sum_by f before + n) (sym (stays new))
        by_after (Ends ticket) e = ap (sum_by f) (ends_more made (take i rows) row ticket e).0 ∙ omega (arith, ends ticket)

    pub over_linked : AreLinked links (filter_map kept_of (map made (take i rows)) ++ drop i rows)
        → ((server link : ℕ) → used server link new_links ≡ used server link links - over_ended concerned (is_some (answer row)) server link row) → AreLinked new_links (filter_map kept_of (map made (take (i + 1) rows)) ++ drop (i + 1) rows)
    over_linked are told = λ server link.
        let f = over_in {T = T} server link in
        let before = filter_map kept_of (map made (take i rows)) in
        omega (
          arith,
          told server link,
          are server link,
          sum_by-append f before (drop i rows),
          behind f,
          more_after f (over_after server link) (λ r. refl) (λ t. refl),
          sum_by-append f (filter_map kept_of (map made (take (i + 1) rows))) (drop (i + 1) rows),
          after_counted server link row flags concerned judged reply most (answer row),
        )

-- ---- what the counts tell

module _ (server link : ℕ) where
  more_than_none : (a : Bool) (n : ℕ) → (a || not (n == 0)) ≡ not (cond a 1 0 + n == 0)
  more_than_none true n = sym (ap not (ne_eqb (1 + n) 0 (λ e. omega (arith, e))))
  more_than_none false n = ap (λ m. not (m == 0)) (omega arith)

  pub any_counted : (ss : List Lookup) → list_any (flew_over server link) ss ≡ not (count_by (flew_over server link) ss == 0)
  any_counted [] = refl
  any_counted (lookup ∷ ss) =
      ap (λ b. flew_over server link lookup || b) (any_counted ss) ∙ more_than_none (flew_over server link lookup) (count_by (flew_over server link) ss)
      ∙ ap (λ n. not (n == 0)) (sym (sum_by-cons (λ (s : Lookup). cond (flew_over server link s) 1 0) lookup ss))

  -- a link is busy where a row has an attempt over it
  pub busy_is : {T : Type 0} (links : List LinkUse) (rows : List (Row T)) → AreLinked links rows → not (used server link links == 0) ≡ list_any (row_over server link) rows
  busy_is links rows are = ap (λ n. not (n == 0)) (are server link ∙ count_lookups (flew_over server link) rows) ∙ sym (any_counted (all_lookups rows)) ∙ sym (any_lookups (flew_over server link) rows)

-- where no lookup has an attempt over TCP to the server, none has a link of one
none_on : (server : ℕ) (ss : List Lookup) → ((link : ℕ) → link ≢ 0 → count_by (flew_over server link) ss ≡ 0) → flat_map (links_on server) ss ≡ []
none_on server [] none = refl
none_on server (lookup ∷ ss) none = by_flying (flying_of lookup) each (none_on server ss (λ link tcp. omega (arith, each link tcp)))
  where
    each : (link : ℕ) → link ≢ 0 → over_of server link lookup + count_by (flew_over server link) ss ≡ 0
    each link tcp = sym (sum_by-cons (λ (s : Lookup). cond (flew_over server link s) 1 0) lookup ss) ∙ none link tcp

    by_flying : (o : Option Flying) → ((link : ℕ) → link ≢ 0 → over_by server link o + count_by (flew_over server link) ss ≡ 0) → flat_map (links_on server) ss ≡ [] → option_to_list (link_on server o) ++ flat_map (links_on server) ss ≡ []
    by_flying None counts rest = rest
    by_flying (Some flying) counts rest = by_tests (flying.server == server) (flying.link == 0) refl refl
      where
        by_tests : (a b : Bool) → (flying.server == server) ≡ a → (flying.link == 0) ≡ b → option_to_list (if a && not b then Some flying.link else None) ++ flat_map (links_on server) ss ≡ []
        by_tests true true there udp = rest
        by_tests false b there udp = rest
        by_tests true false there tcp =
            let over : over_by server flying.link (Some flying) ≡ 1 = ap₂ (λ (a b : Bool). cond {A = ℕ} (a && b) 1 0) there (eq-eqb flying.link flying.link refl) in
            absurd (omega (arith, over, counts flying.link (λ zero. true≢false (sym (eq-eqb flying.link 0 zero) ∙ tcp))))

-- the link over TCP that is counted is that of the first such attempt of the rows
pub tcp_is : {T : Type 0} (server : ℕ) (links : List LinkUse) (rows : List (Row T)) → AreLinked links rows → HasOneLink server rows → (o : Option ℕ) → MatchOption o (NoneOverTcp server links) (IsOverTcp server links) → o ≡ first (flat_map (row_links server) rows)
tcp_is server links rows are one None none = sym (ap first (flat_lookups (links_on server) rows ∙ none_on server (all_lookups rows) (λ link tcp. sym (count_lookups (flew_over server link) rows) ∙ sym (are server link) ∙ none link tcp)))
tcp_is server links rows are one (Some link) on = sym (one link on.tcp (sym (busy_is server link links rows are) ∙ busy (used server link links) on.busy))
  where
    busy : (n : ℕ) → n ≢ 0 → not (n == 0) ≡ true
    busy n some = by_test (n == 0) refl
      where
        by_test : (b : Bool) → (n == 0) ≡ b → not b ≡ true
        by_test true e = absurd (some (eqb-true n 0 e))
        by_test false e = refl
