-- How a table follows a Fault.
use Rattle.channel_table.proofs.Base.{◌≡◌, ◌∙◌, ℕ, ◌+◌, ◌<◌, ◌≤◌, ◌^◌, Bool, true, false, List, [], ◌∷◌, ◌++◌, Option, Some, None, refl, ap, sym, subst, map, length, cond, arith, drop, eq-eqb, eqb-true, get_or, true≢false, and_parts, append-nil, map-append, filter_map-append, sum_by-cons, AllByRecursion, cons_option, list_any, sum_by, IfSome, IsFalse, count_by, filter, filter_map, flat_map, if◌then◌else◌, option_map, option_to_list, ◌||◌, ◌≢◌, Fault, Script, ConnRefused, Ticket, Spares, as_many-filter, as_many-length, in_flight-none, listed, Failing, Attempt, closes, flight, in_flight, went_over, Past, IsLawfulPast, LegFacts, Leg, attempts, has_key, servers_at, Setting, Failed, Flying, AreWithinLimits, Options, AreCounted, answer_over, fails_at, kept_of, ticket_made, attempt_of, flown_by, RowStands, TableStands, all_lookups, flown, number_of, over_in, ticket_number, flew_over, flown_lookup, flying_of, flying_over, leg_of_lookup, Over, Lookup, After, Ends, Stays, Row, ◌==◌, ChannelServers, servers_behind, faulted_servers}
use Rattle.channel_model.proofs.Theorems.{fault_spares}
use Rattle.channel_table.proofs.Counting.{counted_kept}
use Rattle.channel_table.proofs.FailureCounts.{counted_changed, counted_there}
use Rattle.channel_table.proofs.Outcomes.{Becomes, Follows, Outcome}
use Rattle.channel_table.proofs.RowAt.{lookup_of_each}
use Rattle.channel_table.proofs.RowEnds.{Closes, Meets, outcome_after, row_after}
use Rattle.channel_table.proofs.RowLookups.{if_second, no_bytes}
use Rattle.channel_table.proofs.LookupLists.{LegOf, all_legs_stand, any_lookups, count_lookups, legs_stand}
use Rattle.channel_table.proofs.TableSteps.{Stands, table_behind}
use Rattle.channel_table.proofs.Telling.{busy_rows, flying_lookups}

module _ {T : Type 0} (options : Options) (server link most : ℕ) where
  outcomes : List (Row T) → List (Outcome (Row T) (Ticket T))
  outcomes [] = []
  outcomes (row ∷ rows) = outcome_after row (fails_at options server link most row) ∷ outcomes rows

  becomes : (rows : List (Row T)) → Becomes (outcomes rows) rows (filter_map kept_of (map (fails_at options server link most) rows)) (filter_map ticket_made (map (fails_at options server link most) rows))
  unfolding outcomes
  becomes [] = record { rows_before = refl; rows_behind = refl; tickets_behind = refl }
  becomes (row ∷ rows) = by_after (fails_at options server link most row) (becomes rows)
    where
      by_after : (o : After T) → Becomes (outcomes rows) rows (filter_map kept_of (map (fails_at options server link most) rows)) (filter_map ticket_made (map (fails_at options server link most) rows))
          → Becomes (outcome_after row o ∷ outcomes rows) (row ∷ rows) (cons_option (kept_of o) (filter_map kept_of (map (fails_at options server link most) rows))) (cons_option (ticket_made o) (filter_map ticket_made (map (fails_at options server link most) rows)))
      by_after (Stays new) rest = record { rows_before = ap (λ rs. row ∷ rs) rest.rows_before; rows_behind = ap (λ rs. new ∷ rs) rest.rows_behind; tickets_behind = rest.tickets_behind }
      by_after (Ends ticket) rest = record { rows_before = ap (λ rs. row ∷ rs) rest.rows_before; rows_behind = rest.rows_behind; tickets_behind = ap (λ ts. ticket ∷ ts) rest.tickets_behind }

module _ (setting : Setting) (past : Past) (server link moment : ℕ) where
  -- a Fault closes the attempt of a lookup that went over the link, and leaves others
  over_meets : (second : Bool) (lookup : Lookup) (bytes : List ℕ) → bytes ≡ [] → LegOf setting past lookup → Meets setting (Fault server link moment) past (Over server link) (Failed ConnRefused) second bytes lookup
  over_meets second lookup bytes none stands = record { hit = λ over. hit_by (flying_of lookup) refl over; missed = λ over. missed_by (flying_of lookup) refl over }
    where
      hit_by : (o : Option Flying) → flying_of lookup ≡ o → flying_over server link o ≡ true → Closes setting (Fault server link moment) past (Over server link) (Failed ConnRefused) lookup bytes
      hit_by None is over = absurd cc
      hit_by (Some flying) is over = record { flying = flying; flies = is; closed = over; means = refl; brings = sym none }

      not_over : (o : Option Flying) → flying_over server link o ≡ false → IfSome (option_map (attempt_of (leg_of_lookup lookup)) o) (λ a. IsFalse (closes setting a (Fault server link moment) past))
      not_over None e = tt
      not_over (Some flying) e = e

      missed_by : (o : Option Flying) → flying_of lookup ≡ o → flying_over server link o ≡ false → Spares setting (Fault server link moment) past (leg_of_lookup lookup)
      missed_by o is over =
          fault_spares setting past (leg_of_lookup lookup) server link moment
          (subst (λ f. IfSome f (λ a. IsFalse (closes setting a (Fault server link moment) past))) (sym (ap (λ (f : LegFacts). f.flies) stands.facts ∙ ap (flown_by (leg_of_lookup lookup)) is)) (not_over o over))

  over_count : (ss : List Lookup) → length (filter (λ a. went_over a server link) (flat_map flown_lookup ss)) ≡ count_by (flew_over server link) ss
  over_count [] = refl
  over_count (lookup ∷ ss) = by_attempt (leg_of_lookup lookup) (flying_of lookup) (over_count ss) ∙ sym (sum_by-cons (λ (s : Lookup). cond (flew_over server link s) 1 0) lookup ss)
    where
      by_test : (a : Attempt) (b : Bool) → length (filter (λ a. went_over a server link) (flat_map flown_lookup ss)) ≡ count_by (flew_over server link) ss
          → length (cond b (a ∷ filter (λ a. went_over a server link) (flat_map flown_lookup ss)) (filter (λ a. went_over a server link) (flat_map flown_lookup ss))) ≡ cond b 1 0 + count_by (flew_over server link) ss
      by_test a true rest = omega (arith, rest)
      by_test a false rest = omega (arith, rest)

      by_attempt : (leg : Leg) (o : Option Flying) → length (filter (λ a. went_over a server link) (flat_map flown_lookup ss)) ≡ count_by (flew_over server link) ss
          → length (filter (λ a. went_over a server link) (option_to_list (flown_by leg o) ++ flat_map flown_lookup ss)) ≡ cond (flying_over server link o) 1 0 + count_by (flew_over server link) ss
      by_attempt leg None rest = omega (arith, rest)
      by_attempt leg (Some flying) rest = by_test (attempt_of leg flying) (flying_over server link (Some flying)) rest

  none_over : (ss : List Lookup) → count_by (flew_over server link) ss ≡ 0 → list_any (flew_over server link) ss ≡ false
  none_over [] none = refl
  none_over (lookup ∷ ss) none = by_test (flew_over server link lookup) (sym (sum_by-cons (λ (s : Lookup). cond (flew_over server link s) 1 0) lookup ss) ∙ none) (none_over ss)
    where
      by_test : (b : Bool) → cond b 1 0 + count_by (flew_over server link) ss ≡ 0 → (count_by (flew_over server link) ss ≡ 0 → list_any (flew_over server link) ss ≡ false) → (b || list_any (flew_over server link) ss) ≡ false
      by_test true none rest = absurd (omega (arith, none))
      by_test false none rest = rest (omega (arith, none))

  -- an attempt in flight that went over the link
  record IsOver : Type 0 where
    attempt : Attempt
    flies : flight setting attempt.leg past ≡ Some attempt
    over : went_over attempt server link ≡ true

  some_over : (ss : List Lookup) → AllByRecursion (LegOf setting past) ss → count_by (flew_over server link) ss ≢ 0 → IsOver
  some_over [] each some = absurd (some refl)
  some_over (lookup ∷ ss) each some = by_test (flew_over server link lookup) refl (λ none. some (sum_by-cons (λ (s : Lookup). cond (flew_over server link s) 1 0) lookup ss ∙ none)) (some_over ss each.1)
    where
      by_flying : (o : Option Flying) → flying_of lookup ≡ o → flying_over server link o ≡ true → IsOver
      by_flying None is e = absurd cc
      by_flying (Some flying) is e = record { attempt = attempt_of (leg_of_lookup lookup) flying; flies = ap (λ (f : LegFacts). f.flies) each.0.facts ∙ ap (flown_by (leg_of_lookup lookup)) is; over = e }

      by_test : (b : Bool) → flew_over server link lookup ≡ b → cond b 1 0 + count_by (flew_over server link) ss ≢ 0 → (count_by (flew_over server link) ss ≢ 0 → IsOver) → IsOver
      by_test true e some rest = by_flying (flying_of lookup) refl e
      by_test false e some rest = rest (λ none. some (omega (arith, none)))

module _ {T : Type 0} (plan : T → Script) (setting : Setting) (past : Past) (server link moment most : ℕ) (may : attempts setting past ≡ most) (few : most ≤ 80) where
  follow : (row : Row T) → RowStands plan setting past row
      → Follows number_of ticket_number flown setting (Fault server link moment) past (outcome_after row (fails_at setting.options server link most row)) × Stands plan setting (Fault server link moment) past (outcome_after row (fails_at setting.options server link most row))
  follow row stands =
      let legs = legs_stand plan setting past row stands in
      row_after plan setting (Fault server link moment) past row (Over server link) (Failed ConnRefused) [] most stands refl refl may few
      (over_meets setting past server link moment false row.first [] refl legs.0)
      (if_second row.second (λ it at. over_meets setting past server link moment true it (if flew_over server link row.first then [] else []) (no_bytes (flew_over server link row.first)) (lookup_of_each (LegOf setting past) row legs true it at)))
      (answer_over setting.options server link most row) refl

  each_follows : (rows : List (Row T)) → AllByRecursion (RowStands plan setting past) rows → AllByRecursion (Follows number_of ticket_number flown setting (Fault server link moment) past) (outcomes setting.options server link most rows) × AllByRecursion (Stands plan setting (Fault server link moment) past) (outcomes setting.options server link most rows)
  unfolding outcomes
  each_follows [] each = (tt, tt)
  each_follows (row ∷ rows) each =
      let one = follow row each.0 in
      let rest = each_follows rows each.1 in
      ((one.0, rest.0), (one.1, rest.1))

  -- the attempts over the link fail
  pub table_failed : (rows : List (Row T)) (tickets : List (Ticket T)) → TableStands plan setting past rows tickets
      → TableStands plan setting (Fault server link moment ∷ past) (filter_map kept_of (map (fails_at setting.options server link most) rows)) (tickets ++ filter_map ticket_made (map (fails_at setting.options server link most) rows))
  table_failed rows tickets table =
      let each = each_follows rows table.each_row in
      table_behind plan setting (Fault server link moment) past (outcomes setting.options server link most rows) rows (filter_map kept_of (map (fails_at setting.options server link most) rows)) tickets (filter_map ticket_made (map (fails_at setting.options server link most) rows))
      refl refl refl (becomes setting.options server link most rows) each.0 each.1 table

  -- and so many there were
  pub failed_count : (rows : List (Row T)) (tickets : List (Ticket T)) → TableStands plan setting past rows tickets → length (filter (λ a. went_over a server link) (in_flight setting past)) ≡ sum_by (over_in server link) rows
  failed_count rows tickets table =
      as_many-length _ _ (as_many-filter (λ a. went_over a server link) (in_flight setting past) (flat_map flown_lookup (all_lookups rows)) (flying_lookups plan setting past rows tickets table))
      ∙ over_count setting past server link moment (all_lookups rows) ∙ sym (count_lookups (flew_over server link) rows)

  -- where there are such attempts, their server has a count
  pub counted_over : (rows : List (Row T)) (tickets : List (Ticket T)) {servers : ChannelServers} → TableStands plan setting past rows tickets → AreCounted setting past servers → AreWithinLimits setting.options → IsLawfulPast setting past
      → sum_by (over_in server link) rows ≢ 0 → list_any (λ (item : Failing). item.server == server) servers.counts ≡ true
  counted_over rows tickets table counted limits lawful some =
      let one = some_over setting past server link moment (all_lookups rows) (all_legs_stand plan setting past rows table.each_row) (λ none. some (count_lookups (flew_over server link) rows ∙ none)) in
      let at : one.attempt.server ≡ server = eqb-true one.attempt.server server (and_parts (one.attempt.server == server) (one.attempt.link == link) one.over).0 in
      let there = (listed setting past lawful limits.some_server one.attempt.leg).flies one.attempt one.flies in
      subst (λ (cs : List Failing). list_any (λ (item : Failing). item.server == server) cs ≡ true) counted.failed
      (counted_there setting past server (servers_at setting past) (subst (λ s. has_key s (servers_at setting past) ≡ true) at there))

  -- the count of the server's failures behind a Fault
  pub counted_faulted : (rows : List (Row T)) (tickets : List (Ticket T)) {servers : ChannelServers} (count : ℕ) → TableStands plan setting past rows tickets → AreCounted setting past servers → length past + 1 < 2 ^ 64
      → count ≡ sum_by (over_in server link) rows → AreCounted setting (Fault server link moment ∷ past) (faulted_servers server count servers)
  counted_faulted rows tickets {servers} count table counted small is = by_test (count == 0) refl
    where
      all : count ≡ count_by (flew_over server link) (all_lookups rows)
      all = is ∙ count_lookups (flew_over server link) rows

      by_test : (b : Bool) → (count == 0) ≡ b → AreCounted setting (Fault server link moment ∷ past) (cond b servers (servers_behind server (Failed ConnRefused) servers))
      by_test true e =
          let none = none_over setting past server link moment (all_lookups rows) (sym all ∙ eqb-true count 0 e) in
          counted_kept setting (Fault server link moment) past counted refl refl
          (λ a flies. in_flight-none setting (λ b. went_over b server link) a.leg past a flies (busy_rows plan setting past server link rows tickets table ∙ any_lookups (flew_over server link) rows ∙ none))
      by_test false e =
          let one = some_over setting past server link moment (all_lookups rows) (all_legs_stand plan setting past rows table.each_row) (λ none. true≢false (sym (eq-eqb count 0 (all ∙ none)) ∙ e)) in
          counted_changed setting (Fault server link moment) past counted refl refl server (Failed ConnRefused) one.attempt small one.flies
          (eqb-true one.attempt.server server (and_parts (one.attempt.server == server) (one.attempt.link == link) one.over).0) one.over
          (λ b flies closed. (eqb-true b.server server (and_parts (b.server == server) (b.link == link) closed).0, refl))

-- what was made of each row begins with what was made of the first
pub answers_left : {X Y : Type 0} (f : X → Y) {answers left : List Y} {rows rest : List X} {x : X} (answer : Y) → answers ≡ answer ∷ left → answers ≡ map f rows → rows ≡ x ∷ rest → (answer ≡ f x) × (left ≡ map f rest)
answers_left f answer taken are steps =
    let all = sym taken ∙ are ∙ ap (map f) steps in
    (ap (λ them. get_or them 0 answer) all, ap (drop 1) all)

-- one more row of those that failed or stayed
module _ {T : Type 0} (f : Row T → After T) (ys : List (Row T)) (x : Row T) where
  pub stays_more : (row : Row T) → f x ≡ Stays row
      → (filter_map kept_of (map f (ys ++ x ∷ [])) ≡ filter_map kept_of (map f ys) ++ row ∷ []) × (filter_map ticket_made (map f (ys ++ x ∷ [])) ≡ filter_map ticket_made (map f ys))
  stays_more row e = (
    ap (filter_map kept_of) (map-append f ys (x ∷ [])) ∙ filter_map-append kept_of (map f ys) (f x ∷ []) ∙ ap (λ o. filter_map kept_of (map f ys) ++ cons_option (kept_of o) []) e,
    ap (filter_map ticket_made) (map-append f ys (x ∷ [])) ∙ filter_map-append ticket_made (map f ys) (f x ∷ []) ∙ ap (λ o. filter_map ticket_made (map f ys) ++ cons_option (ticket_made o) []) e ∙ append-nil (filter_map ticket_made (map f ys)),
  )

  pub ends_more : (ticket : Ticket T) → f x ≡ Ends ticket
      → (filter_map kept_of (map f (ys ++ x ∷ [])) ≡ filter_map kept_of (map f ys)) × (filter_map ticket_made (map f (ys ++ x ∷ [])) ≡ filter_map ticket_made (map f ys) ++ ticket ∷ [])
  ends_more ticket e = (
    ap (filter_map kept_of) (map-append f ys (x ∷ [])) ∙ filter_map-append kept_of (map f ys) (f x ∷ []) ∙ ap (λ o. filter_map kept_of (map f ys) ++ cons_option (kept_of o) []) e ∙ append-nil (filter_map kept_of (map f ys)),
    ap (filter_map ticket_made) (map-append f ys (x ∷ [])) ∙ filter_map-append ticket_made (map f ys) (f x ∷ []) ∙ ap (λ o. filter_map ticket_made (map f ys) ++ cons_option (ticket_made o) []) e,
  )
