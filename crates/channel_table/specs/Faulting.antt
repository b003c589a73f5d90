-- What a Fault makes of a row.
use Rattle.std.specs.List.{AllByRecursion}
use Rattle.std.specs.Prelude.{List, None, Option, Some, [], false, filter_map, length, map, ℕ, ◌++◌, ◌∷◌, ◌≡◌}
use Rattle.chan_types.specs.declared.answer.Answer.{Answer}
use Rattle.chan_types.specs.declared.status.Status.TheVariants.{ConnRefused}
use Rattle.chan_types.specs.declared.ticket.Ticket.{Ticket}
use Rattle.channel_model.specs.declared.judged.Judged.TheVariants.{Failed}
use Rattle.resolv_options.specs.declared.options.Options.{Options}
use Rattle.channel_table.specs.After.{after, answer_behind}
use Rattle.channel_table.specs.Rows.{answer_of_row, row_over}
use Rattle.channel_table.specs.declared.row.After.{After}
use Rattle.channel_table.specs.declared.row.After.TheVariants.{Ends, Stays}
use Rattle.channel_table.specs.declared.row.Row.{Row}
use Rattle.channel_table.specs.declared.table.marking.Mark.{Mark}
use Rattle.channel_table.specs.declared.concerned.Concerned.TheVariants.{Over}

-- the answer that the current candidate of a row has behind a Fault of this server's link, if it has one
abbrev pub answer_over : {T : Type 0} → Options → ℕ → ℕ → ℕ → Row T → Option Answer
answer_over options server link most row = answer_behind options (Over server link) (Failed ConnRefused) [] most row

-- what the Fault makes of a row
abbrev pub fails_at : {T : Type 0} → Options → ℕ → ℕ → ℕ → Row T → After T
fails_at options server link most row = after options.flags (Over server link) (Failed ConnRefused) [] most row (answer_over options server link most row)

-- the row that stays
abbrev pub kept_of : {T : Type 0} → After T → Option (Row T)
kept_of (Stays row) = Some row
kept_of (Ends ticket) = None

-- the ticket that is made
abbrev pub ticket_made : {T : Type 0} → After T → Option (Ticket T)
ticket_made (Stays row) = None
ticket_made (Ends ticket) = Some ticket

-- what the Fault makes of rows and tickets: the rows that go on are kept in order, and the others become tickets
pub record FailsOver {T : Type 0} (options : Options) (server link most : ℕ) (rows : List (Row T)) (tickets : List (Ticket T)) (new_rows : List (Row T)) (new_tickets : List (Ticket T)) : Type 0 where
  pub kept : new_rows ≡ filter_map kept_of (map (fails_at options server link most) rows)
  pub made : new_tickets ≡ tickets ++ filter_map ticket_made (map (fails_at options server link most) rows)

-- the current candidate of the row has no answer
abbrev pub IsUnanswered : {T : Type 0} → Options → Row T → Type 0
IsUnanswered options row = answer_of_row options row ≡ None

-- no attempt of the row went to this server over this link
abbrev pub IsSpared : {T : Type 0} → ℕ → ℕ → Row T → Type 0
IsSpared server link row = row_over server link row ≡ false

-- the rows of which attempts went there, with the answers that they then have, stand so far apart among the rows, and behind the last of them are such rows
abbrev pub AreMarkedTo : {T : Type 0} → (List (Row T) → Type 0) → Options → ℕ → ℕ → ℕ → List Mark → List (Row T) → Type 0
AreMarkedTo last options server link most [] rows = last rows
AreMarkedTo last options server link most (mark ∷ marks) rows =
    (between : List (Row _)) × (row : Row _) × (rest : List (Row _)) × (rows ≡ between ++ row ∷ rest) × (length between ≡ mark.gap) × AllByRecursion (IsSpared server link) between × (mark.answer ≡ answer_over options server link most row) × AreMarkedTo last options server link most marks rest

-- all such rows are marked
abbrev pub AreMarked : {T : Type 0} → Options → ℕ → ℕ → ℕ → List Mark → List (Row T) → Type 0
AreMarked options server link most marks rows = AreMarkedTo (AllByRecursion (IsSpared server link)) options server link most marks rows
