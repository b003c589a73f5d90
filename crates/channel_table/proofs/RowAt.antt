-- The row at an index of the table that has an attempt in flight.
use Rattle.channel_table.proofs.Base.{◌≡◌, ◌∙◌, ℕ, ◌<◌, zero, suc, Bool, true, false, List, [], ◌∷◌, Option, Some, refl, ap, sym, subst, get_or, length, arith, AllByRecursion, list_any, option_to_list, Script, Ticket, listed, Failing, flight, Past, IsLawfulPast, LegFacts, servers_at, Setting, Flying, AreWithinLimits, AreCounted, attempt_of, flown_by, RowStands, TableStands, lookup_at, lookups, flying_of, leg_of_lookup, Lookup, Row, ◌==◌, ChannelServers}
use Rattle.channel_table.proofs.FailureCounts.{counted_there}
use Rattle.channel_table.proofs.LookupLists.{LegOf, legs_stand}

-- what holds of each item holds of that at an index
each_at : {X : Type 0} (P : X → Type 0) (xs : List X) (i : ℕ) (d : X) → i < length xs → AllByRecursion P xs → P (get_or xs i d)
each_at P [] i d inside each = absurd (omega (arith, inside))
each_at P (x ∷ xs) zero d inside each = each.0
each_at P (x ∷ xs) (suc i) d inside each = each_at P xs i d (omega (arith, inside)) each.1

-- a list has an item at an index inside
pub item_at : {X : Type 0} (xs : List X) (i : ℕ) → i < length xs → (x : X) × ((d : X) → get_or xs i d ≡ x)
item_at [] i inside = absurd (omega (arith, inside))
item_at (x ∷ xs) zero inside = (x, λ d. refl)
item_at (x ∷ xs) (suc i) inside = item_at xs i (omega (arith, inside))

-- what holds of each lookup of a row holds of one of them
pub lookup_of_each : {T : Type 0} (P : Lookup → Type 0) (row : Row T) → AllByRecursion P (lookups row) → (second : Bool) (lookup : Lookup) → lookup_at second row ≡ Some lookup → P lookup
lookup_of_each P row each false lookup at = let same : row.first ≡ lookup = cc in subst P same each.0
lookup_of_each P row each true lookup at = (subst (λ (o : Option Lookup). AllByRecursion P (row.first ∷ option_to_list o)) at each).1.0

module _ {T : Type 0} (plan : T → Script) (setting : Setting) (past : Past) (rows : List (Row T)) (tickets : List (Ticket T)) (table : TableStands plan setting past rows tickets)
    (index : ℕ) (row : Row T) (inside : index < length rows) (is : row ≡ get_or rows index row) where
  -- the row stands
  pub stands_at : RowStands plan setting past row
  stands_at = subst (RowStands plan setting past) (sym is) (each_at (RowStands plan setting past) rows index row inside table.each_row)

  module _ (second : Bool) (lookup : Lookup) (at : lookup_at second row ≡ Some lookup) where
    -- the leg of one of its lookups stands
    pub leg_at : LegOf setting past lookup
    leg_at = lookup_of_each (LegOf setting past) row (legs_stand plan setting past row stands_at) second lookup at

    module _ (flying : Flying) (flies : flying_of lookup ≡ Some flying) where
      -- its attempt is in flight
      pub flight_at : flight setting (leg_of_lookup lookup) past ≡ Some (attempt_of (leg_of_lookup lookup) flying)
      flight_at = ap (λ (f : LegFacts). f.flies) leg_at.facts ∙ ap (flown_by (leg_of_lookup lookup)) flies

      -- its server has a count
      pub counted_at_lookup : {servers : ChannelServers} → AreCounted setting past servers → AreWithinLimits setting.options → IsLawfulPast setting past
          → list_any (λ (item : Failing). item.server == flying.server) servers.counts ≡ true
      counted_at_lookup counted limits lawful =
          let there = (listed setting past lawful limits.some_server (leg_of_lookup lookup)).flies (attempt_of (leg_of_lookup lookup) flying) flight_at in
          subst (λ (cs : List Failing). list_any (λ (item : Failing). item.server == flying.server) cs ≡ true) counted.failed (counted_there setting past flying.server (servers_at setting past) there)
