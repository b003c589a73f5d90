-- The link of a new attempt, by those that are in flight.
use Rattle.channel_table.proofs.Base.{◌≡◌, ◌∙◌, ℕ, ◌+◌, ◌≤◌, Bool, true, false, List, [], ◌∷◌, ◌++◌, Option, Some, None, refl, ap, ap₂, sym, cond, arith, eqb-true, eq-eqb, true≢false, inl, inr, and_parts, or_parts, AllByRecursion, list_any, IfSome, IsFalse, flat_map, if◌then◌else◌, max, not, option_map, option_to_list, unwrap_or, ◌&&◌, ◌||◌, ◌≢◌, Script, Ticket, as_many-any, greatest_link, link_of, Attempt, begun_by, closes, flight, in_flight, is_of_leg, Past, IsLawfulPast, first, LegFacts, Leg, closings, is_over_tcp, Setting, has_item, Flying, attempt_of, flown_by, TableStands, all_lookups, row_over, flew_over, flown_lookup, flying_of, flying_over, leg_of_lookup, link_on, link_with, links_on, row_links, Lookup, Row, ◌==◌}
use Rattle.std.specs.Prelude.{find, ◌⊎◌}
use Rattle.channel_model.proofs.Theorems.{flight-cases, one_link, tcp_link-is}
use Rattle.channel_model.specs.Choice.{chosen_link, is_on_tcp, tcp_link}
use Rattle.channel_table.proofs.LookupLists.{LegOf, all_legs_stand, any_lookups, flat_lookups}
use Rattle.channel_table.proofs.Telling.{flying_lookups}

-- the link of an attempt in flight is no greater than the greatest
pub link_within : (setting : Setting) (leg : Leg) (past : Past) (a : Attempt) → flight setting leg past ≡ Some a → a.link ≤ greatest_link past
link_within setting leg [] a flies = absurd cc
link_within setting leg (what ∷ past) a flies = by_case (flight-cases setting leg what past a flies) (link_within setting leg past a)
  where
    by_case : ((begun_by what ≡ Some a) × (leg ≡ a.leg)) ⊎ ((flight setting leg past ≡ Some a) × IsFalse (closes setting a what past) × IfSome (begun_by what) (λ c. IsFalse (is_of_leg leg c)))
        → (flight setting leg past ≡ Some a → a.link ≤ greatest_link past) → a.link ≤ max (link_of (begun_by what)) (greatest_link past)
    by_case (inl begun) rest = omega (arith, ap link_of begun.0)
    by_case (inr flies) rest = omega (arith, rest flies.0)

find_none : {X : Type 0} (t : X → Bool) (xs : List X) → list_any t xs ≡ false → find t xs ≡ None
find_none t [] none = refl
find_none t (x ∷ xs) none = let parts = or_parts (t x) (list_any t xs) none in rw (parts.0, find_none t xs parts.1) refl

none_first : {X : Type 0} (xs : List X) → first xs ≡ None → xs ≡ []
none_first [] e = refl
none_first (x ∷ xs) e = absurd cc

no_item : {X : Type 0} (xs : List X) → xs ≡ [] → has_item xs ≡ false
no_item xs e = ap has_item e

module _ (setting : Setting) (past : Past) (server : ℕ) where
  on_same : (ss : List Lookup) → list_any (is_on_tcp setting server) (flat_map flown_lookup ss) ≡ has_item (flat_map (links_on server) ss)
  on_same [] = refl
  on_same (lookup ∷ ss) = by_attempt (leg_of_lookup lookup) (flying_of lookup) (on_same ss)
    where
      one : (b : Bool) (link : ℕ) → list_any (is_on_tcp setting server) (flat_map flown_lookup ss) ≡ has_item (flat_map (links_on server) ss) → (b || list_any (is_on_tcp setting server) (flat_map flown_lookup ss)) ≡ has_item (option_to_list (cond b (Some link) None) ++ flat_map (links_on server) ss)
      one true link rest = refl
      one false link rest = rest

      by_attempt : (leg : Leg) (o : Option Flying) → list_any (is_on_tcp setting server) (flat_map flown_lookup ss) ≡ has_item (flat_map (links_on server) ss)
          → list_any (is_on_tcp setting server) (option_to_list (flown_by leg o) ++ flat_map flown_lookup ss) ≡ has_item (option_to_list (link_on server o) ++ flat_map (links_on server) ss)
      by_attempt leg None rest = rest
      by_attempt leg (Some flying) rest = one ((flying.server == server) && not (flying.link == 0)) flying.link rest

  -- an attempt in flight over TCP to the server, over this link
  pub record IsOn (link : ℕ) : Type 0 where
    pub attempt : Attempt
    pub flies : flight setting attempt.leg past ≡ Some attempt
    pub there : attempt.server ≡ server
    pub over : attempt.link ≡ link
    pub tcp : link ≢ 0

  on_first : (link : ℕ) (ss : List Lookup) → AllByRecursion (LegOf setting past) ss → first (flat_map (links_on server) ss) ≡ Some link → IsOn link
  on_first link [] each e = absurd cc
  on_first link (lookup ∷ ss) each e = by_attempt (flying_of lookup) refl e (on_first link ss each.1)
    where
      by_test : (flying : Flying) → flying_of lookup ≡ Some flying → (b : Bool) → ((flying.server == server) && not (flying.link == 0)) ≡ b → first (option_to_list (cond b (Some flying.link) None) ++ flat_map (links_on server) ss) ≡ Some link
          → (first (flat_map (links_on server) ss) ≡ Some link → IsOn link) → IsOn link
      by_test flying is true fits e rest =
          let parts = and_parts (flying.server == server) (not (flying.link == 0)) fits in
          let same : flying.link ≡ link = cc in
          record {
            attempt = attempt_of (leg_of_lookup lookup) flying;
            flies = ap (λ (f : LegFacts). f.flies) each.0.facts ∙ ap (flown_by (leg_of_lookup lookup)) is;
            there = eqb-true flying.server server parts.0;
            over = same;
            tcp = λ zero. true≢false (sym parts.1 ∙ ap not (eq-eqb flying.link 0 (same ∙ zero)));
          }
      by_test flying is false off e rest = rest e

      by_attempt : (o : Option Flying) → flying_of lookup ≡ o → first (option_to_list (link_on server o) ++ flat_map (links_on server) ss) ≡ Some link → (first (flat_map (links_on server) ss) ≡ Some link → IsOn link) → IsOn link
      by_attempt None is e rest = rest e
      by_attempt (Some flying) is e rest = by_test flying is ((flying.server == server) && not (flying.link == 0)) refl e rest

module _ {T : Type 0} (plan : T → Script) (setting : Setting) (past : Past) (server : ℕ) where
  -- the links of all rows are those of all lookups
  pub links_are : (rows : List (Row T)) → flat_map (row_links server) rows ≡ flat_map (links_on server) (all_lookups rows)
  links_are rows = flat_lookups (links_on server) rows

  link_rows : (rows : List (Row T)) (tickets : List (Ticket T)) → TableStands plan setting past rows tickets → IsLawfulPast setting past → (o : Option ℕ) → first (flat_map (links_on server) (all_lookups rows)) ≡ o → unwrap_or o (greatest_link past + 1) ≡ tcp_link setting server past
  link_rows rows tickets table lawful None e =
      let none = as_many-any (is_on_tcp setting server) (in_flight setting past) (flat_map flown_lookup (all_lookups rows)) (flying_lookups plan setting past rows tickets table) ∙ on_same setting past server (all_lookups rows) ∙ no_item (flat_map (links_on server) (all_lookups rows)) (none_first (flat_map (links_on server) (all_lookups rows)) e) in
      ap (λ (f : Option Attempt). unwrap_or (option_map (λ (a : Attempt). a.link) f) (greatest_link past + 1)) (sym (find_none (is_on_tcp setting server) (in_flight setting past) none))
  link_rows rows tickets table lawful (Some link) e =
      let on = on_first setting past server link (all_lookups rows) (all_legs_stand plan setting past rows table.each_row) e in
      let tcp : on.attempt.link ≢ 0 = λ zero. on.tcp (sym on.over ∙ zero) in
      let told = tcp_link-is setting past on.attempt.leg on.attempt on.flies tcp (λ c flies same over. one_link setting past lawful c.leg on.attempt.leg c on.attempt flies on.flies same over tcp) in
      sym on.over ∙ sym told ∙ ap (λ s. tcp_link setting s past) on.there

-- the link is the one over which the leg's attempt has to go
pub link_is : {T : Type 0} (plan : T → Script) (setting : Setting) (past : Past) (rows : List (Row T)) (tickets : List (Ticket T)) → TableStands plan setting past rows tickets → IsLawfulPast setting past → (leg : Leg) (server : ℕ) (over_tcp : Bool) (greatest : ℕ)
    → is_over_tcp setting (closings setting leg past) ≡ over_tcp → greatest_link past ≡ greatest → link_with rows over_tcp server greatest ≡ chosen_link setting leg server past
link_is plan setting past rows tickets table lawful leg server over_tcp greatest is greatest_is =
    ap₂ (λ (b : Bool) n. if b then n else 0) (sym is) (ap₂ (λ (ls : List ℕ) n. unwrap_or (first ls) (n + 1)) (links_are plan setting past server rows) (sym greatest_is) ∙ link_rows plan setting past server rows tickets table lawful (first (flat_map (links_on server) (all_lookups rows))) refl)

-- and no greater than one more than the greatest
pub link_few : {T : Type 0} (plan : T → Script) (setting : Setting) (past : Past) (rows : List (Row T)) (tickets : List (Ticket T)) → TableStands plan setting past rows tickets → (over_tcp : Bool) (server greatest : ℕ) → greatest_link past ≡ greatest → link_with rows over_tcp server greatest ≤ greatest + 1
link_few plan setting past rows tickets table true server greatest greatest_is = by_first (first (flat_map (row_links server) rows)) refl
  where
    by_first : (o : Option ℕ) → first (flat_map (row_links server) rows) ≡ o → unwrap_or o (greatest + 1) ≤ greatest + 1
    by_first None e = omega arith
    by_first (Some link) e = let on = on_first setting past server link (all_lookups rows) (all_legs_stand plan setting past rows table.each_row) (ap first (sym (links_are plan setting past server rows)) ∙ e) in omega (arith, on.over, link_within setting on.attempt.leg past on.attempt on.flies, greatest_is)
link_few plan setting past rows tickets table false server greatest greatest_is = omega arith

-- each attempt over TCP to a server is over the first one's link
module _ {T : Type 0} (plan : T → Script) (setting : Setting) (past : Past) (rows : List (Row T)) (tickets : List (Ticket T)) (table : TableStands plan setting past rows tickets) (lawful : IsLawfulPast setting past) (server link : ℕ) (tcp : link ≢ 0) where
  some_first : (ss : List Lookup) → AllByRecursion (LegOf setting past) ss → list_any (flew_over server link) ss ≡ true → IsOn setting past server link × (has_item (flat_map (links_on server) ss) ≡ true)
  some_first [] each any = absurd cc
  some_first (lookup ∷ ss) each any = by_flying (flying_of lookup) refl any (some_first ss each.1)
    where
      by_flying : (o : Option Flying) → flying_of lookup ≡ o → (flying_over server link o || list_any (flew_over server link) ss) ≡ true → (list_any (flew_over server link) ss ≡ true → IsOn setting past server link × (has_item (flat_map (links_on server) ss) ≡ true))
          → IsOn setting past server link × (has_item (option_to_list (link_on server o) ++ flat_map (links_on server) ss) ≡ true)
      by_flying None is any rest = rest any
      by_flying (Some flying) is any rest = by_tests (flying.server == server) (flying.link == link) refl refl any
        where
          more : (c : Bool) → has_item (flat_map (links_on server) ss) ≡ true → has_item (option_to_list (if c then Some flying.link else None) ++ flat_map (links_on server) ss) ≡ true
          more true e = refl
          more false e = e

          by_tests : (a b : Bool) → (flying.server == server) ≡ a → (flying.link == link) ≡ b → ((a && b) || list_any (flew_over server link) ss) ≡ true
              → IsOn setting past server link × (has_item (option_to_list (if (flying.server == server) && not (flying.link == 0) then Some flying.link else None) ++ flat_map (links_on server) ss) ≡ true)
          by_tests true true there over any =
              let here : flying.link ≡ link = eqb-true flying.link link over in
              let some : not (flying.link == 0) ≡ true = by_zero (flying.link == 0) refl in (
                record { attempt = attempt_of (leg_of_lookup lookup) flying; flies = ap (λ (f : LegFacts). f.flies) each.0.facts ∙ ap (flown_by (leg_of_lookup lookup)) is; there = eqb-true flying.server server there; over = here; tcp = tcp },
                ap₂ (λ a b. has_item (option_to_list (if a && b then Some flying.link else None) ++ flat_map (links_on server) ss)) there some,
              )
            where
              by_zero : (b : Bool) → (flying.link == 0) ≡ b → not b ≡ true
              by_zero true e = absurd (tcp (sym (eqb-true flying.link link over) ∙ eqb-true flying.link 0 e))
              by_zero false e = refl
          by_tests true false there over any = let found = rest any in (found.0, more ((flying.server == server) && not (flying.link == 0)) found.1)
          by_tests false b there over any = let found = rest any in (found.0, more ((flying.server == server) && not (flying.link == 0)) found.1)

  pub one_first : list_any (row_over server link) rows ≡ true → first (flat_map (row_links server) rows) ≡ Some link
  one_first any = by_first (first (flat_map (links_on server) (all_lookups rows))) refl
    where
      each : AllByRecursion (LegOf setting past) (all_lookups rows)
      each = all_legs_stand plan setting past rows table.each_row

      found : IsOn setting past server link × (has_item (flat_map (links_on server) (all_lookups rows)) ≡ true)
      found = some_first (all_lookups rows) each (sym (any_lookups (flew_over server link) rows) ∙ any)

      by_first : (o : Option ℕ) → first (flat_map (links_on server) (all_lookups rows)) ≡ o → first (flat_map (row_links server) rows) ≡ Some link
      by_first None e = absurd (true≢false (sym found.1 ∙ no_item (flat_map (links_on server) (all_lookups rows)) (none_first (flat_map (links_on server) (all_lookups rows)) e)))
      by_first (Some other) e =
          let on = on_first setting past server other (all_lookups rows) each e in
          let same = one_link setting past lawful on.attempt.leg found.0.attempt.leg on.attempt found.0.attempt on.flies found.0.flies (on.there ∙ sym found.0.there) (λ zero. on.tcp (sym on.over ∙ zero)) (λ zero. tcp (sym found.0.over ∙ zero)) in
          ap first (links_are plan setting past server rows) ∙ e ∙ ap Some (sym on.over ∙ same ∙ found.0.over)
