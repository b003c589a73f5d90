-- What a start looks for among the rows, and what it makes of one.
use Rattle.std.specs.List.{list_any}
use Rattle.std.specs.Prelude.{IfSome, Bool, List, None, Option, Some, [], drop, false, flat_map, get_or, if◌then◌else◌, length, not, option_to_list, take, true, unwrap_or, ℕ, ◌%◌, ◌&&◌, ◌++◌, ◌+◌, ◌<◌, ◌==◌, ◌^◌, ◌∷◌, ◌≡◌}
use Rattle.chan_types.specs.declared.server_key.ServerKey.{ServerKey}
use Rattle.channel_model.specs.Choice.{Failing, least_of}
use Rattle.channel_model.specs.Lawful.{first}
use Rattle.channel_model.specs.Legs.{leg_of}
use Rattle.channel_model.specs.Servers.{from_place}
use Rattle.query_machine.specs.Legs.{IsWaiting}
use Rattle.query_machine.specs.declared.leg.Flying.{Flying}
use Rattle.resolv_options.specs.declared.options.Options.{Options}
use Rattle.channel_table.specs.Rows.{begun_row, row_waits, lookup_at, lookups}
use Rattle.channel_table.specs.Lookups.{flying_of, leg_of_lookup, waits}
use Rattle.channel_table.specs.declared.lookup.Lookup.{Lookup}
use Rattle.channel_table.specs.declared.row.Row.{Row}
use Rattle.channel_table.specs.declared.table.channel_servers.ChannelServers.{ChannelServers}
use Rattle.channel_table.specs.declared.table.starting.Idle.{Idle}

-- an attempt has this identifier
abbrev pub flying_id : ℕ → Option Flying → Bool
flying_id id None = false
flying_id id (Some flying) = flying.id == id

-- the attempt of a lookup has this identifier
abbrev pub has_id : ℕ → Lookup → Bool
has_id id lookup = flying_id id (flying_of lookup)

-- an attempt of a row has this identifier
abbrev pub row_has_id : {T : Type 0} → ℕ → Row T → Bool
row_has_id id row = list_any (has_id id) (lookups row)

-- the link of an attempt, where it went to this server over TCP
abbrev pub link_on : ℕ → Option Flying → Option ℕ
link_on server None = None
link_on server (Some flying) = if (flying.server == server) && not (flying.link == 0) then Some flying.link else None

-- the link of a lookup's attempt, where it went to this server over TCP
abbrev pub links_on : ℕ → Lookup → List ℕ
links_on server lookup = option_to_list (link_on server (flying_of lookup))

-- the links of a row's attempts that went to this server over TCP
abbrev pub row_links : {T : Type 0} → ℕ → Row T → List ℕ
row_links server row = flat_map (links_on server) (lookups row)

-- the link of an attempt to this server: 0 over UDP; over TCP that of an attempt in flight, or else a new one
abbrev pub link_with : {T : Type 0} → List (Row T) → Bool → ℕ → ℕ → ℕ
link_with rows over_tcp server greatest = if over_tcp then unwrap_or (first (flat_map (row_links server) rows)) (greatest + 1) else 0

-- the servers in use
abbrev pub used_of : Options → List ServerKey → List ServerKey
used_of options list = if options.flags.primary then take 1 list else list

-- the place at which the order of ties begins, where so many legs have had an attempt and so many servers are in use
abbrev pub first_place : Options → ℕ → ℕ → ℕ
first_place options starts used = if options.rotate then starts % used else 0

-- the server of an attempt: the forced one, or else the first with the fewest failures
abbrev pub server_with : Option ℕ → ℕ → ℕ → List Failing → ℕ
server_with forced used place counts = unwrap_or forced (least_of (from_place place (take used counts)))

-- the same, where these are the servers of the table
abbrev pub server_for : Options → ChannelServers → Option ℕ → ℕ
server_for options servers forced =
    let used : ℕ = length (used_of options servers.list) in
    server_with forced used (first_place options servers.started used) servers.counts

-- a lookup of the row at this index that waits
abbrev pub idle_of : ℕ → Bool → Lookup → Idle
idle_of index second lookup = record { index = index; is_second = second; number = lookup.number; leg_number = lookup.leg_number; leg = lookup.leg; begun = lookup.begun }

-- a lookup of the row waits, and has this number, leg, state and mark
pub record IsIdle {T : Type 0} (row : Row T) (idle : Idle) : Type 0 where
  pub lookup : Lookup
  pub at : lookup_at idle.is_second row ≡ Some lookup
  pub own : leg_of_lookup lookup ≡ leg_of idle.number idle.leg_number
  pub leg : lookup.leg ≡ idle.leg
  pub begun : lookup.begun ≡ idle.begun
  pub waiting : waits lookup ≡ true
  pub firsts : first (row_waits row) ≡ Some (leg_of idle.number idle.leg_number)

-- it is the first lookup of the row at this index that waits, or none does
abbrev pub FindsIdleLookup : {T : Type 0} → ℕ → Row T → Option Idle → Type 0
FindsIdleLookup index row None = row_waits row ≡ []
FindsIdleLookup index row (Some idle) = (idle.index ≡ index) × IsIdle row idle

-- the row at an index has the first lookup that waits
pub record FindsAt {T : Type 0} (rows : List (Row T)) (idle : Idle) : Type 0 where
  pub inside : idle.index < length rows
  pub is : (d : Row T) → IsIdle (get_or rows idle.index d) idle
  pub firsts : first (flat_map row_waits rows) ≡ Some (leg_of idle.number idle.leg_number)

-- it is the first that waits, or none does
abbrev pub FindsIdle : {T : Type 0} → List (Row T) → Option Idle → Type 0
FindsIdle rows None = flat_map row_waits rows ≡ []
FindsIdle rows (Some idle) = FindsAt rows idle

-- the identifier is the first from the word upwards that no row has, or the rows have all
abbrev pub IsFree : {T : Type 0} → List (Row T) → ℕ → Option ℕ → Type 0
IsFree rows word None = (id : ℕ) → id < 2 ^ 16 → list_any (row_has_id id) rows ≡ true
IsFree rows word (Some id) =
    (steps : ℕ) × (steps < 2 ^ 16) × (id ≡ (word + steps) % 2 ^ 16) × (list_any (row_has_id id) rows ≡ false) × ((step : ℕ) → step < steps → list_any (row_has_id ((word + step) % 2 ^ 16)) rows ≡ true)

-- the leg of this lookup of the row at this index waits
abbrev pub WaitsAt : {T : Type 0} → ℕ → Bool → List (Row T) → Type 0
WaitsAt index second rows = (d : Row _) → IfSome (lookup_at second (get_or rows index d)) (λ (lookup : Lookup). IsWaiting lookup.leg.phase)

-- the attempt of this lookup of the row at this index has begun
pub record BeginsRow {T : Type 0} (flying : Flying) (index : ℕ) (second : Bool) (rows new_rows : List (Row T)) : Type 0 where
  pub row : Row T
  pub is : (d : Row T) → get_or rows index d ≡ row
  pub parts : rows ≡ take index rows ++ row ∷ drop (index + 1) rows
  pub becomes : new_rows ≡ take index rows ++ begun_row flying second row ∷ drop (index + 1) rows
