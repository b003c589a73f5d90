-- Which lookups of the rows are counted.
use Rattle.std.specs.Prelude.{Bool, count_by, ℕ}
use Rattle.channel_table.specs.Rows.{lookups}
use Rattle.channel_table.specs.Lookups.{flew_over, is_flying, is_forced, waits}
use Rattle.channel_table.specs.declared.row.Row.{Row}
use Rattle.channel_table.specs.declared.lookup.Lookup.{Lookup}
use Rattle.channel_table.specs.declared.table.counting.Sought.{Sought}
use Rattle.channel_table.specs.declared.table.counting.Sought.TheVariants.{Flying, Forced, Over, Waiting}

-- the lookup is counted
abbrev pub is_sought : Sought → Lookup → Bool
is_sought Waiting lookup = waits lookup
is_sought Flying lookup = is_flying lookup
is_sought Forced lookup = is_forced lookup
is_sought (Over server link) lookup = flew_over server link lookup

-- how many lookups of the row are counted
abbrev pub sought_in : {T : Type 0} → Sought → Row T → ℕ
sought_in sought row = count_by (is_sought sought) (lookups row)
