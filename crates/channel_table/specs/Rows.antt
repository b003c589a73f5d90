-- What a row of the table means: what the past says of its request and its leg.
use Rattle.std.specs.List.{AllByRecursion, list_any}
use Rattle.std.specs.Option.{option_and_then}
use Rattle.std.specs.Prelude.{count_by, option_map, ◌*◌, ◌+◌, Bool, List, None, Option, Some, [], false, flat_map, if◌then◌else◌, length, map, option_to_list, true, ℕ, ◌++◌, ◌∷◌, ◌≡◌, ◌≤◌}
use Rattle.chan_types.specs.declared.answer.Answer.{Answer}
use Rattle.chan_types.specs.declared.script.Script.{Script}
use Rattle.chan_types.specs.declared.spec.Spec.{Spec}
use Rattle.chan_types.specs.declared.status.Status.{Status}
use Rattle.chan_types.specs.declared.ticket.Ticket.{Ticket}
use Rattle.channel_model.specs.AsMany.{HaveAsMany}
use Rattle.channel_model.specs.Completion.{fate, pending, ready}
use Rattle.channel_model.specs.Flight.{Attempt, has_leg, in_flight, started}
use Rattle.channel_model.specs.Journal.{Past, request_of, script_of}
use Rattle.channel_model.specs.Legs.{Leg, leg_of, legs_of}
use Rattle.channel_model.specs.Merge.{bare}
use Rattle.channel_model.specs.Questions.{candidates_of, question_for}
use Rattle.channel_model.specs.Search.{any_empty}
use Rattle.channel_model.specs.Setting.{Setting}
use Rattle.dns_message.specs.declared.name.Name.{Name}
use Rattle.resolv_options.specs.declared.options.Options.{Options}
use Rattle.query_machine.specs.declared.leg.Flying.{Flying}
use Rattle.channel_table.specs.Wants.{wanted_by, answer_of_ends}
use Rattle.channel_table.specs.Legs.{LegStands}
use Rattle.channel_table.specs.Searching.{are_passed}
use Rattle.channel_table.specs.Lookups.{begun_lookup, end_of_lookup, flew_over, flown_lookup, is_flying, is_forced, leg_of_lookup, number_of_leg, waits, waits_of}
use Rattle.channel_table.specs.declared.row.Row.{Row}
use Rattle.channel_table.specs.declared.lookup.Lookup.{Lookup}

-- the number of a row's request
abbrev pub number_of : {T : Type 0} → Row T → ℕ
number_of row = row.number

-- the lookups of a row, in order
abbrev pub lookups : {T : Type 0} → Row T → List Lookup
lookups row = row.first ∷ option_to_list row.second

-- one of them
abbrev pub lookup_at : {T : Type 0} → Bool → Row T → Option Lookup
lookup_at second row = if second then row.second else Some row.first

-- the lookups of all rows
abbrev pub all_lookups : {T : Type 0} → List (Row T) → List Lookup
all_lookups rows = flat_map lookups rows

-- the attempts of a row that are in flight
abbrev pub flown : {T : Type 0} → Row T → List Attempt
flown row = flat_map flown_lookup (lookups row)

-- an attempt of the row went to this server over this link
abbrev pub row_over : {T : Type 0} → ℕ → ℕ → Row T → Bool
row_over server link row = list_any (flew_over server link) (lookups row)

-- how many did
abbrev pub over_in : {T : Type 0} → ℕ → ℕ → Row T → ℕ
over_in server link row = count_by (flew_over server link) (lookups row)

-- how many attempts of the row are in flight
abbrev pub flying_in : {T : Type 0} → Row T → ℕ
flying_in row = count_by is_flying (lookups row)

-- how many legs of the row wait
abbrev pub waiting_in : {T : Type 0} → Row T → ℕ
waiting_in row = count_by waits (lookups row)

-- how many legs of the row have a server that their next attempt has to go to
abbrev pub forced_in : {T : Type 0} → Row T → ℕ
forced_in row = count_by is_forced (lookups row)

-- the legs of the row that wait
abbrev pub row_waits : {T : Type 0} → Row T → List Leg
row_waits row = flat_map waits_of (lookups row)

-- the answer of the current candidate, if its legs have ended that it needs
abbrev pub answer_of_row : {T : Type 0} → Options → Row T → Option Answer
answer_of_row options row = answer_of_ends options row.number row.wanted row.first.question.name (end_of_lookup row.first) (option_and_then end_of_lookup row.second)

-- the row with this attempt of one of its lookups in flight
abbrev pub begun_row : {T : Type 0} → Flying → Bool → Row T → Row T
begun_row flying second row = if second then record row { second = option_map (begun_lookup flying) row.second } else record row { first = begun_lookup flying row.first }

-- the number of a ticket's request
abbrev pub ticket_number : {T : Type 0} → Ticket T → ℕ
ticket_number ticket = ticket.call.number

-- the past says of a lookup what it has: it is of this request, asks this candidate, behind which these stand, and its leg stands so
pub record LookupStands (setting : Setting) (past : Past) (number : ℕ) (spec : Spec) (name : Name) (rest : List Name) (lookup : Lookup) : Type 0 where
  pub numbered : lookup.number ≡ number
  pub current : lookup.question.name ≡ name
  pub behind : lookup.names ≡ rest
  pub asks : question_for spec lookup.leg_number name ≡ lookup.question
  pub leg : LegStands setting past (leg_of_lookup lookup) lookup.leg lookup.reply
  pub begun : has_leg (leg_of_lookup lookup) (started past) ≡ lookup.begun

-- the past says of a row's request what the row has: it was accepted for this token, its search has passed some candidates and come to this one, with these behind it, whose legs are those of the row's lookups; it has no answer yet, and no later leg has had an attempt
pub record RowStands {T : Type 0} (plan : T → Script) (setting : Setting) (past : Past) (row : Row T) : Type 0 where
  pub spec : Spec
  pub wants : wanted_by spec ≡ row.wanted
  pub passed : List Name
  pub name : Name
  pub rest : List Name
  pub candidates : candidates_of setting spec ≡ passed ++ name ∷ rest
  pub few : length (candidates_of setting spec) ≤ 9
  pub legged : legs_of spec (length passed) ≡ map number_of_leg (lookups row)
  pub came : are_passed setting row.number spec past 0 passed ≡ true
  pub emptied : any_empty setting row.number spec past 0 passed ≡ row.empty
  pub accepts : request_of row.number past ≡ Some (record { number = row.number; spec = spec; script = plan row.token })
  pub undecided : fate setting row.number past ≡ None
  pub each_lookup : AllByRecursion (LookupStands setting past row.number spec name rest) (lookups row)
  pub unanswered : answer_of_row setting.options row ≡ None
  pub later : (k : ℕ) → 2 * length passed + 2 ≤ k → has_leg (leg_of row.number k) (started past) ≡ false

-- the past says of a ticket's request that it has completed with the ticket's answer, and was accepted for a token of this script
pub record TicketStands {T : Type 0} (plan : T → Script) (setting : Setting) (past : Past) (ticket : Ticket T) : Type 0 where
  pub completes : fate setting ticket.call.number past ≡ Some ticket.call
  pub accepts : script_of ticket.call.number past ≡ Some (plan ticket.token)

-- the ticket of a row that ended with this status, without a reply
abbrev pub ended_with : {T : Type 0} → Status → Row T → Ticket T
ended_with status row = record { token = row.token; call = bare row.number status [] }

-- rows and tickets stand for a past: the rows are the pending requests and the tickets the ready ones, each in order, and the rows' attempts are those in flight, in whatever order
pub record StandFor {R K : Type 0} (number : R → ℕ) (ticket_number : K → ℕ) (flown : R → List Attempt) (setting : Setting) (past : Past) (rows : List R) (tickets : List K) : Type 0 where
  pub pending_are : pending setting past ≡ map number rows
  pub ready_are : ready setting past ≡ map ticket_number tickets
  pub flying_are : HaveAsMany (in_flight setting past) (flat_map flown rows)

-- a table of these rows and tickets stands for a past
pub record TableStands {T : Type 0} (plan : T → Script) (setting : Setting) (past : Past) (rows : List (Row T)) (tickets : List (Ticket T)) : Type 0 where
  pub stand : StandFor number_of ticket_number flown setting past rows tickets
  pub each_row : AllByRecursion (RowStands plan setting past) rows
  pub each_ticket : AllByRecursion (TicketStands plan setting past) tickets
