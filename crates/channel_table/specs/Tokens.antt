-- What contracts see of a table: its setting, its journal, and the tokens of its requests by their numbers.
use Rattle.std.specs.Coded.{Coded, coded_ℕ}
use Rattle.std.specs.FinMap as finite
use Rattle.std.specs.Ordering.{nat_cmp}
use Rattle.std.specs.Prelude.{Err, List, None, Ok, Option, Result, Some, map, ℕ, ◌++◌, ◌≡◌}
use Rattle.chan_types.specs.declared.journal.Entry.{Entry}
use Rattle.chan_types.specs.declared.ticket.Ticket.{Ticket}
use Rattle.channel_model.specs.Seen.{Seen}
use Rattle.channel_model.specs.Setting.{Setting}
use Rattle.channel_model.specs.declared.answers.Refused.{Refused}
use Rattle.channel_table.specs.declared.row.Row.{Row}

-- tokens by the numbers of their requests
abbrev pub Tokens : Type 0 → Type 0
Tokens T = finite.FinMap nat_cmp T

-- how the logic stores them
pub tokens_code : {T : Type 0} → Coded T → Coded (finite.FinMap nat_cmp T)
tokens_code token = finite.code coded_ℕ token

-- a channel: its setting, its journal, and the tokens of the requests that aren't taken, pending and ready ones
pub record Shown (T : Type 0) : Type 0 where
  pub setting : Setting
  pub journal : List Entry
  pub tokens : Tokens T

-- the same without the tokens
abbrev pub seen : {T : Type 0} → Shown T → Seen
seen table = record { setting = table.setting; journal = table.journal }

-- a request's number with its token, of a row and of a ticket
abbrev pub row_entry : {T : Type 0} → Row T → ℕ × T
row_entry row = (row.number, row.token)

abbrev pub ticket_entry : {T : Type 0} → Ticket T → ℕ × T
ticket_entry ticket = (ticket.call.number, ticket.token)

-- those of rows and tickets
abbrev pub entries_of : {T : Type 0} → List (Row T) → List (Ticket T) → List (ℕ × T)
entries_of rows tickets = map row_entry rows ++ map ticket_entry tickets

-- the tokens of pending and ready requests
abbrev pub tokens_of : {T : Type 0} → List (Row T) → List (Ticket T) → Tokens T
tokens_of rows tickets = finite.from_entries (entries_of rows tickets)

-- an accepted request's token is there from now on, by the request's number; one that is refused leaves none
abbrev pub KeepsToken : {T : Type 0} → T → Result ℕ (Refused T) → Tokens T → Tokens T → Type 0
KeepsToken token (Ok number) old new = new ≡ finite.insert old number token
KeepsToken token (Err refused) old new = new ≡ old

-- a ticket has the token that was kept for its request, which is there no more; where there is no ticket all stay
abbrev pub GivesToken : {T : Type 0} → Option (Ticket T) → Tokens T → Tokens T → Type 0
GivesToken None old new = new ≡ old
GivesToken (Some ticket) old new = (finite.get old ticket.call.number ≡ Some ticket.token) × (new ≡ finite.remove old ticket.call.number)
