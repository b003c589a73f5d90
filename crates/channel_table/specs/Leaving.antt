-- What a new list of servers makes of a row.
use Rattle.std.specs.Bool.{then_some}
use Rattle.std.specs.Option.{option_and_then}
use Rattle.std.specs.Prelude.{count_by, drop, get_or, option_map, take, ◌++◌, ◌+◌, ◌∷◌, ◌≡◌, Bool, List, None, Option, Some, false, if◌then◌else◌, not, ℕ}
use Rattle.chan_types.specs.declared.server_key.ServerKey.{ServerKey}
use Rattle.channel_model.specs.Servers.{has_key}
use Rattle.query_machine.specs.Legs.{flying_in}
use Rattle.query_machine.specs.declared.leg.Flying.{Flying}
use Rattle.query_machine.specs.declared.leg.Leg as machine
use Rattle.query_machine.specs.declared.leg.Phase.TheVariants as phases
use Rattle.channel_table.specs.Rows.{lookups}
use Rattle.channel_table.specs.Lookups.{flying_of}
use Rattle.channel_table.specs.declared.lookup.Lookup.{Lookup}
use Rattle.channel_table.specs.declared.row.Row.{Row}

-- the server of an attempt isn't in the list
abbrev pub flying_left : List ServerKey → Option Flying → Bool
flying_left list None = false
flying_left list (Some flying) = not (has_key flying.server list)

-- the server of a lookup's attempt isn't in the list
abbrev pub has_left : List ServerKey → Lookup → Bool
has_left list lookup = flying_left list (flying_of lookup)

-- how many attempts of the row are on such servers
abbrev pub left_in : {T : Type 0} → List ServerKey → Row T → ℕ
left_in list row = count_by (has_left list) (lookups row)

-- the server, if it is in the list
abbrev pub kept_in : List ServerKey → Option ℕ → Option ℕ
kept_in list server = option_and_then (λ key. then_some (has_key key list) key) server

-- the leg behind a new list of servers: an attempt on a server that left it ends and means nothing, and no server is forced that isn't in it
abbrev pub leg_set : List ServerKey → machine.Leg → machine.Leg
leg_set list leg = if flying_left list (flying_in leg.phase) then record leg { phase = phases.Waiting; forced = None } else record leg { forced = kept_in list leg.forced }

-- the lookup behind a new list of servers
abbrev pub lookup_set : List ServerKey → Lookup → Lookup
lookup_set list lookup = record lookup { leg = leg_set list lookup.leg }

-- the row behind a new list of servers
abbrev pub row_set : {T : Type 0} → List ServerKey → Row T → Row T
row_set list row = record row { first = lookup_set list row.first; second = option_map (lookup_set list) row.second }

-- the row at this index is behind a new list, and the others are as they were
pub record SetsRow {T : Type 0} (list : List ServerKey) (index : ℕ) (rows new_rows : List (Row T)) : Type 0 where
  pub row : Row T
  pub is : (d : Row T) → get_or rows index d ≡ row
  pub parts : rows ≡ take index rows ++ row ∷ drop (index + 1) rows
  pub becomes : new_rows ≡ take index rows ++ row_set list row ∷ drop (index + 1) rows
