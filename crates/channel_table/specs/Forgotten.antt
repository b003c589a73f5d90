-- What finds the attempts in flight, behind a Start and behind the end of attempts.
use Rattle.std.specs.FinMap as map
use Rattle.std.specs.Prelude.{Bool, List, None, Option, Some, false, if◌then◌else◌, true, ◌||◌, ℕ}
use Rattle.chan_types.specs.declared.server_key.ServerKey.{ServerKey}
use Rattle.query_machine.specs.declared.leg.Flying.{Flying}
use Rattle.timeout_queue.specs.declared.key.Key.{Key}
use Rattle.channel_table.specs.Flown.{key_of_lookup}
use Rattle.channel_table.specs.Leaving.{has_left}
use Rattle.channel_table.specs.Lookups.{flying_of, concerns}
use Rattle.channel_table.specs.declared.row.Row.{Row}
use Rattle.channel_table.specs.declared.concerned.Concerned.{Concerned}
use Rattle.channel_table.specs.declared.lookup.Lookup.{Lookup}
use Rattle.channel_table.specs.declared.table.flown.Flown.{Flown}

-- with the attempt of a leg
abbrev pub begun_flown : Key → ℕ → ℕ → Flown → Flown
begun_flown leg id due flown = record { flights = map.insert flown.flights id leg; deadlines = map.insert flown.deadlines leg due }

-- without this attempt of a leg
abbrev pub without_flying : Key → Option Flying → Flown → Flown
without_flying leg None flown = flown
without_flying leg (Some flying) flown = record { flights = map.remove flown.flights flying.id; deadlines = map.remove flown.deadlines leg }

-- without that of a lookup
abbrev pub forgotten : Lookup → Flown → Flown
forgotten lookup flown = without_flying (key_of_lookup lookup) (flying_of lookup) flown

-- the same, if this is so
abbrev pub forgotten_if : Bool → Lookup → Flown → Flown
forgotten_if so lookup flown = if so then forgotten lookup flown else flown

-- without that of the second lookup of a row, if there is one and this is so
abbrev pub left_of_second : Bool → Option Lookup → Flown → Flown
left_of_second so None flown = flown
left_of_second so (Some lookup) flown = forgotten_if so lookup flown

-- without those of the lookups of a row for which this is so
abbrev pub left_of : {T : Type 0} → Bool → Bool → Row T → Flown → Flown
left_of first second row flown = left_of_second second row.second (forgotten_if first row.first flown)

-- an entry concerns the second lookup of a row, if there is one
abbrev pub concerns_second : Concerned → Option Lookup → Bool
concerns_second concerned None = false
concerns_second concerned (Some lookup) = concerns concerned true lookup

-- without those of the row that an entry concerns, or all of them
abbrev pub ended_of : {T : Type 0} → Concerned → Bool → Row T → Flown → Flown
ended_of concerned all row flown = left_of (all || concerns concerned false row.first) (all || concerns_second concerned row.second) row flown

-- the attempt of the second lookup of a row, if there is one, is on a server that isn't in the list
abbrev pub left_second : List ServerKey → Option Lookup → Bool
left_second list None = false
left_second list (Some lookup) = has_left list lookup
