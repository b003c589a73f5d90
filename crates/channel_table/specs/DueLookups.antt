-- Which lookup of a row is a leg whose attempt is due at a moment.
use Rattle.std.specs.Option.{option_and_then}
use Rattle.std.specs.Prelude.{Bool, None, Option, Some, false, ◌&&◌, ◌==◌, ◌≡◌, ℕ}
use Rattle.query_machine.specs.declared.leg.Flying.{Flying}
use Rattle.timeout_queue.specs.declared.key.Key.{Key}
use Rattle.channel_table.specs.Rows.{lookup_at}
use Rattle.channel_table.specs.Lookups.{flying_of}
use Rattle.channel_table.specs.Soonest.{due_of_lookup, due_of_soonest}
use Rattle.channel_table.specs.declared.row.Row.{Row}
use Rattle.channel_table.specs.declared.lookup.Lookup.{Lookup}
use Rattle.channel_table.specs.declared.table.seeking.Soonest.{Soonest}

-- an attempt is due at this moment
abbrev pub flies_until : ℕ → Option Flying → Bool
flies_until due None = false
flies_until due (Some flying) = flying.due == due

-- the lookup's leg is this one, and its attempt is due at this moment
abbrev pub is_due : Key → ℕ → Lookup → Bool
is_due leg due lookup = (lookup.number == leg.number) && (lookup.leg_number == leg.leg) && flies_until due (flying_of lookup)

-- this leg's attempt, which is due at this moment
abbrev pub due_lookup : ℕ → Bool → Key → ℕ → Soonest
due_lookup index second leg due = record { index = index; is_second = second; at = due; number = leg.number; leg_number = leg.leg }

-- it is that of a lookup of the row at this index
pub record IsDueOf {T : Type 0} (index : ℕ) (row : Row T) (leg : Key) (due : ℕ) (found : Soonest) : Type 0 where
  pub at_index : found.index ≡ index
  pub is : due_of_soonest found ≡ due_of_soonest (due_lookup index found.is_second leg due)
  pub is_due : option_and_then due_of_lookup (lookup_at found.is_second row) ≡ Some (due_of_soonest found)
