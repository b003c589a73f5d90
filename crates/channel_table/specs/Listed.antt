-- How requests are found by their numbers, and which are among those that wait.
use Rattle.std.specs.FinSet as set
use Rattle.std.specs.List.{AllByRecursion, list_any}
use Rattle.std.specs.Prelude.{Bool, List, None, Option, Some, [], false, get_or, length, true, ℕ, ◌<◌, ◌∷◌, ◌≡◌, ◌≢◌, ⊤}
use Rattle.leg_index.specs.Waiting.{Legs}
use Rattle.timeout_queue.specs.declared.key.Key.{Key}
use Rattle.chan_types.specs.declared.answer.Answer.{Answer}
use Rattle.channel_table.specs.After.{has_next}
use Rattle.channel_table.specs.Rows.{row_over, lookups}
use Rattle.channel_table.specs.Lookups.{waits}
use Rattle.channel_table.specs.Starting.{IsIdle}
use Rattle.channel_table.specs.declared.row.Row.{Row}
use Rattle.channel_table.specs.declared.table.starting.Idle.{Idle}

-- the numbers rise
abbrev pub IsRising : List ℕ → Type 0
IsRising [] = ⊤
IsRising (n ∷ ns) = AllByRecursion (λ m. n < m) ns × IsRising ns

-- the row at the index has the number, or none has
abbrev pub FindsNumber : {T : Type 0} → ℕ → List (Row T) → Option ℕ → Type 0
FindsNumber number rows None = AllByRecursion (λ row. row.number ≢ number) rows
FindsNumber number rows (Some index) = (index < length rows) × ((d : Row _) → (get_or rows index d).number ≡ number)

-- the key under which a request waits
abbrev pub key_of : ℕ → Key
key_of number = record { number = number; leg = 0 }

-- a leg of the row waits
abbrev pub some_waits : {T : Type 0} → Row T → Bool
some_waits row = list_any waits (lookups row)

-- a row of the number waits, with this lookup as its first, or none does
abbrev pub FindsIdleWith : {T : Type 0} → ℕ → List (Row T) → Option Idle → Type 0
FindsIdleWith number rows None = AllByRecursion (λ row. row.number ≡ number → some_waits row ≡ false) rows
FindsIdleWith number rows (Some idle) = (idle.index < length rows) × ((d : Row _) → IsIdle (get_or rows idle.index d) idle × ((get_or rows idle.index d).number ≡ number))

-- the row stays, where its current candidate has this answer, if it has one
abbrev pub stays : {T : Type 0} → Option Answer → Row T → Bool
stays None row = true
stays (Some answer) row = has_next answer.status row

-- requests that wait by the ones do so by the others
abbrev pub Keeps : Legs → Legs → Type 0
Keeps old new = (number : ℕ) → set.contains old (key_of number) ≡ true → set.contains new (key_of number) ≡ true

-- the row is among those that wait, if a leg of it does
abbrev pub IsListed : {T : Type 0} → Legs → Row T → Type 0
IsListed legs row = some_waits row ≡ true → set.contains legs (key_of row.number) ≡ true

-- the row is among those that wait, if an attempt of it went to this server over this link
abbrev pub IsListedOver : {T : Type 0} → ℕ → ℕ → Legs → Row T → Type 0
IsListedOver server link legs row = row_over server link row ≡ true → set.contains legs (key_of row.number) ≡ true
