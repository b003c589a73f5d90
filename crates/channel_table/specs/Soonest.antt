-- The attempt that is due first among the rows.
use Rattle.std.specs.Option.{option_and_then}
use Rattle.std.specs.Prelude.{false, true, Bool, List, None, Option, Some, [], filter_map, get_or, if◌then◌else◌, length, option_map, ℕ, ◌<◌, ◌≡◌}
use Rattle.channel_model.specs.Lawful.{Due, is_before, least}
use Rattle.channel_model.specs.Legs.{leg_of}
use Rattle.query_machine.specs.declared.leg.Flying.{Flying}
use Rattle.channel_table.specs.Rows.{all_lookups, lookup_at}
use Rattle.channel_table.specs.Lookups.{flying_of, leg_of_lookup}
use Rattle.channel_table.specs.declared.lookup.Lookup.{Lookup}
use Rattle.channel_table.specs.declared.row.Row.{Row}
use Rattle.channel_table.specs.declared.table.seeking.Soonest.{Soonest}

-- when the attempt of a lookup is due
abbrev pub due_of_lookup : Lookup → Option Due
due_of_lookup lookup = option_map (λ (flying : Flying). record { at = flying.due; leg = leg_of_lookup lookup }) (flying_of lookup)

-- when the attempts of the rows are due
abbrev pub dues : {T : Type 0} → List (Row T) → List Due
dues rows = filter_map due_of_lookup (all_lookups rows)

-- the attempt as it is due
abbrev pub due_of_soonest : Soonest → Due
due_of_soonest found = record { at = found.at; leg = leg_of found.number found.leg_number }

-- the one is due before the other
abbrev pub is_sooner : Soonest → Soonest → Bool
is_sooner next first = is_before (due_of_soonest next) (due_of_soonest first)

-- the sooner of two
abbrev pub sooner_of : Soonest → Option Soonest → Option Soonest
sooner_of next None = Some next
sooner_of next (Some first) = if is_sooner next first then Some next else Some first

-- the sooner of the best so far and the attempt of a lookup of the row at an index, if there is one
abbrev pub sooner_with : Option Soonest → ℕ → Bool → ℕ → ℕ → Option Flying → Option Soonest
sooner_with best index second number leg_number None = best
sooner_with best index second number leg_number (Some flying) = sooner_of (record { index = index; is_second = second; at = flying.due; number = number; leg_number = leg_number }) best

-- the sooner of the best so far and the attempt of a lookup
abbrev pub sooner : Option Soonest → ℕ → Bool → Lookup → Option Soonest
sooner best index second lookup = sooner_with best index second lookup.number lookup.leg_number (flying_of lookup)

-- the sooner of the best so far and the attempt of a lookup, if there is that lookup
abbrev pub sooner_if : Option Soonest → ℕ → Option Lookup → Option Soonest
sooner_if best index None = best
sooner_if best index (Some lookup) = sooner best index true lookup

-- the sooner of the best so far and the attempts of a row
abbrev pub sooner_row : {T : Type 0} → Option Soonest → ℕ → Row T → Option Soonest
sooner_row best index row = sooner_if (sooner best index false row.first) index row.second

-- the attempt that was found is that of its lookup
pub record IsOfRow {T : Type 0} (rows : List (Row T)) (found : Soonest) : Type 0 where
  pub inside : found.index < length rows
  pub is_due : (d : Row T) → option_and_then due_of_lookup (lookup_at found.is_second (get_or rows found.index d)) ≡ Some (due_of_soonest found)

-- it is the one of the rows that is due first
abbrev pub IsSoonest : {T : Type 0} → List (Row T) → Option Soonest → Type 0
IsSoonest rows None = dues rows ≡ []
IsSoonest rows (Some found) = IsOfRow rows found × (least (dues rows) ≡ Some (due_of_soonest found))
