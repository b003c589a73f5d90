-- How many legs of the rows wait, how many attempts of theirs are in flight, and how many legs have a server that their next attempt has to go to, in three numbers.
use Rattle.std.specs.List.{sum_by}
use Rattle.std.specs.Prelude.{List, get_or, length, ℕ, ◌+◌, ◌<◌, ◌^◌, ◌≡◌, ◌≢◌, ◌≤◌}
use Rattle.channel_table.specs.Rows.{flying_in, forced_in, waiting_in}
use Rattle.channel_table.specs.declared.row.Row.{Row}
use Rattle.channel_table.specs.declared.table.counting.Tally.{Tally}

-- those of no row
abbrev pub no_tally : Tally
no_tally = record { waiting = 0; flying = 0; forced = 0 }

-- those of a leg that waits, and of one whose attempt is in flight, but for whether it is forced
abbrev pub one_waiting : Tally
one_waiting = record { waiting = 1; flying = 0; forced = 0 }

abbrev pub one_flying : Tally
one_flying = record { waiting = 0; flying = 1; forced = 0 }

-- those of a row
abbrev pub tally_of : {T : Type 0} → Row T → Tally
tally_of row = record { waiting = waiting_in row; flying = flying_in row; forced = forced_in row }

-- they are those of all rows
pub record IsTally {T : Type 0} (rows : List (Row T)) (tally : Tally) : Type 0 where
  pub waiting : tally.waiting ≡ sum_by waiting_in rows
  pub flying : tally.flying ≡ sum_by flying_in rows
  pub forced : tally.forced ≡ sum_by forced_in rows

-- they are those of the row at the index, where there are so many rows, else those of none
abbrev pub IsTallyLeft : {T : Type 0} → ℕ → ℕ → List (Row T) → Tally → Type 0
IsTallyLeft index len rows tally = (length rows ≡ len → (d : Row _) → tally ≡ tally_of (get_or rows index d)) × (length rows ≢ len → tally ≡ no_tally)

-- a count is a new one where a part of it has changed, from the one to the other, as long as it has 64 bits
abbrev pub Moves : ℕ → ℕ → ℕ → ℕ → Type 0
Moves count before behind new = before ≤ count → count + behind < 2 ^ 64 + before → new + before ≡ count + behind

-- each of the three is a new one so
pub record HasMoved (tally before behind new : Tally) : Type 0 where
  pub waiting : Moves tally.waiting before.waiting behind.waiting new.waiting
  pub flying : Moves tally.flying before.flying behind.flying new.flying
  pub forced : Moves tally.forced before.forced behind.forced new.forced
