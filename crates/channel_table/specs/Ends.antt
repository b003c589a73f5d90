-- How rows and tickets follow the end of one row's attempt.
use Rattle.std.specs.Prelude.{Bool, List, None, Option, Some, [], drop, get_or, if◌then◌else◌, length, take, ℕ, ◌*◌, ◌++◌, ◌+◌, ◌∷◌, ◌≡◌, ◌≤◌}
use Rattle.chan_types.specs.declared.answer.Answer.{Answer}
use Rattle.chan_types.specs.declared.server_key.ServerKey.{ServerKey}
use Rattle.chan_types.specs.declared.ticket.Ticket.{Ticket}
use Rattle.channel_model.specs.declared.judged.Judged.{Judged}
use Rattle.query_machine.specs.Legs.{flying_in}
use Rattle.query_machine.specs.declared.leg.Flying.{Flying}
use Rattle.query_machine.specs.declared.leg.Leg as machine
use Rattle.resolv_options.specs.declared.flags.Flags.{Flags}
use Rattle.resolv_options.specs.declared.options.Options.{Options}
use Rattle.channel_table.specs.After.{after, answer_behind}
use Rattle.channel_table.specs.Lookups.{concerned_at}
use Rattle.channel_table.specs.declared.row.After.{After}
use Rattle.channel_table.specs.declared.row.After.TheVariants.{Ends, Stays}
use Rattle.channel_table.specs.declared.row.Row.{Row}
use Rattle.channel_table.specs.declared.concerned.Concerned.{Concerned}

-- the server of an attempt, or 0 where there is none
abbrev pub server_in : Option Flying → ℕ
server_in None = 0
server_in (Some flying) = flying.server

-- the server of a leg's attempt
abbrev pub server_of : machine.Leg → ℕ
server_of leg = server_in (flying_in leg.phase)

-- how many attempts a leg may spend, where this is the list of servers
abbrev pub attempts_with : Options → List ServerKey → ℕ
attempts_with options list = length (if options.flags.primary then take 1 list else list) * options.tries

-- between these rows one has become this
abbrev pub Becomes : {T : Type 0} → List (Row T) → List (Row T) → List (Ticket T) → List (Row T) → List (Ticket T) → After T → Type 0
Becomes before behind tickets new_rows new_tickets (Stays row) = (new_rows ≡ before ++ row ∷ behind) × (new_tickets ≡ tickets)
Becomes before behind tickets new_rows new_tickets (Ends ticket) = (new_rows ≡ before ++ behind) × (new_tickets ≡ tickets ++ ticket ∷ [])

-- the attempts of the row at this index that an entry concerns have come to their end, which meant this and came with this reply, and with which its current candidate has this answer, if it has one
pub record EndsRow {T : Type 0} (flags : Flags) (concerned : Concerned) (judged : Judged) (reply : List ℕ) (most : ℕ) (answer : Option Answer) (index : ℕ) (rows : List (Row T)) (tickets : List (Ticket T)) (new_rows : List (Row T)) (new_tickets : List (Ticket T)) : Type 0 where
  pub row : Row T
  pub is : (d : Row T) → get_or rows index d ≡ row
  pub parts : rows ≡ take index rows ++ row ∷ drop (index + 1) rows
  pub becomes : Becomes (take index rows) (drop (index + 1) rows) tickets new_rows new_tickets (after flags concerned judged reply most row answer)

-- the attempt of this lookup of the row at this index has come to its end so, where a leg may spend so many, and the row's current candidate has the answer that it has behind that
pub record EndsAttempt {T : Type 0} (options : Options) (most : ℕ) (second : Bool) (judged : Judged) (bytes : List ℕ) (index : ℕ) (rows : List (Row T)) (tickets : List (Ticket T)) (new_rows : List (Row T)) (new_tickets : List (Ticket T)) : Type 0 where
  pub few : most ≤ 80
  pub answer : Option Answer
  pub ends : EndsRow options.flags (concerned_at second) judged bytes most answer index rows tickets new_rows new_tickets
  pub answers : answer ≡ answer_behind options (concerned_at second) judged bytes most ends.row
