-- How many attempts are in flight on each link, and how that follows the rows.
use Rattle.std.specs.List.{list_any, sum_by}
use Rattle.std.specs.Prelude.{Bool, List, None, Option, Some, cond, false, flat_map, not, true, ◌+◌, ◌||◌, ◌≡◌, ◌≢◌, ℕ}
use Rattle.chan_types.specs.declared.server_key.ServerKey.{ServerKey}
use Rattle.channel_model.specs.Lawful.{first}
use Rattle.channel_model.specs.Servers.{has_key}
use Rattle.leg_index.specs.Links.{used}
use Rattle.leg_index.specs.declared.links.LinkUse.{LinkUse}
use Rattle.query_machine.specs.declared.leg.Flying.{Flying}
use Rattle.channel_table.specs.Forgotten.{concerns_second, left_second}
use Rattle.channel_table.specs.Leaving.{has_left}
use Rattle.channel_table.specs.Rows.{over_in, row_over}
use Rattle.channel_table.specs.Lookups.{flying_of, flying_over, concerns}
use Rattle.channel_table.specs.Starting.{row_links}
use Rattle.channel_table.specs.declared.row.Row.{Row}
use Rattle.channel_table.specs.declared.concerned.Concerned.{Concerned}
use Rattle.channel_table.specs.declared.lookup.Lookup.{Lookup}

-- as many attempts are in flight on each link as the rows have over it
abbrev pub AreLinked : {T : Type 0} → List LinkUse → List (Row T) → Type 0
AreLinked links rows = (server link : ℕ) → used server link links ≡ sum_by (over_in server link) rows

-- how many attempts went to this server over this link: one, if this one did, or none
abbrev pub over_by : ℕ → ℕ → Option Flying → ℕ
over_by server link flying = cond (flying_over server link flying) 1 0

-- the same of a lookup's attempt
abbrev pub over_of : ℕ → ℕ → Lookup → ℕ
over_of server link lookup = over_by server link (flying_of lookup)

-- the same, if this is so
abbrev pub over_if : Bool → ℕ → ℕ → Lookup → ℕ
over_if so server link lookup = cond so (over_of server link lookup) 0

-- the same of a second lookup, if there is one
abbrev pub over_second : Bool → ℕ → ℕ → Option Lookup → ℕ
over_second so server link None = 0
over_second so server link (Some lookup) = over_if so server link lookup

-- how many went so of the lookups of a row for which this is so
abbrev pub over_lookups : {T : Type 0} → Bool → Bool → ℕ → ℕ → Row T → ℕ
over_lookups first second server link row = over_if first server link row.first + over_second second server link row.second

-- of those that an entry concerns, or of all of them
abbrev pub over_ended : {T : Type 0} → Concerned → Bool → ℕ → ℕ → Row T → ℕ
over_ended concerned all server link row = over_lookups (all || concerns concerned false row.first) (all || concerns_second concerned row.second) server link row

-- of those on servers that aren't in the list
abbrev pub over_left : {T : Type 0} → List ServerKey → ℕ → ℕ → Row T → ℕ
over_left list server link row = over_lookups (has_left list row.first) (left_second list row.second) server link row

-- how many attempts on such servers an item of the links counts on servers that aren't in the list
abbrev pub left_use : List ServerKey → LinkUse → ℕ
left_use list item = cond (not (has_key item.server list)) item.count 0

-- each link over TCP to the server on which an attempt of the rows is in flight is that of the first one
abbrev pub HasOneLink : {T : Type 0} → ℕ → List (Row T) → Type 0
HasOneLink server rows = (link : ℕ) → link ≢ 0 → list_any (row_over server link) rows ≡ true → first (flat_map (row_links server) rows) ≡ Some link
