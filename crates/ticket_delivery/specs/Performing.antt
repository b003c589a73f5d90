-- How the commands of a callback are performed through a desk.
use Rattle.std.specs.List.{AllByRecursion}
use Rattle.std.specs.Prelude.{List, [], count_by, length, min, ℕ, ◌++◌, ◌-◌, ◌==◌, ◌^◌, ◌≡◌, ◌≤◌}
use Rattle.chan_types.specs.Plans.{Plan}
use Rattle.chan_types.specs.declared.command.Command.{Command}
use Rattle.chan_types.specs.declared.journal.Entry.{Entry}
use Rattle.channel_model.specs.Commands.{AllBecame, Outcome, is_lost, positions_from, positions_left}
use Rattle.channel_model.specs.Journal.{own_entries}
use Rattle.channel_model.specs.Known.{Known}
use Rattle.channel_model.specs.Lawful.{IsLawful}
use Rattle.channel_model.specs.Names.{NamesStay}
use Rattle.channel_table.specs.Commanded.{IsOfCommand}
use Rattle.completion_ticket.specs.States.{CallbackState}
use Rattle.ticket_delivery.specs.Weight.{commands_size, scripts_size}

-- the script of a callback
abbrev pub plan_of : CallbackState → Plan
plan_of callback = callback.plan

-- the entry was made on the command of this request's callback
abbrev pub IsBy : ℕ → Entry → Type 0
IsBy by entry = (entry.by ≡ by) × IsOfCommand entry.what

-- commands were performed through a desk, one after the other, on a request's command: each behind all that the desk had seen; and so many requests were lost
pub record Performs (commands : List Command) (by : ℕ) (old new : Known) (count : ℕ) : Type 0 where
  -- this became of each, at a position of the journal that the desk then has seen
  pub outcomes : List Outcome
  pub became : AllBecame old.setting new.seen (length old.seen) commands outcomes
  -- of what came to the journal since, the desk made the entries that they left, and no other
  pub since : List Entry
  pub seen : new.seen ≡ old.seen ++ since
  pub entries_are : positions_from (λ entry. entry.seat == old.seat) (length old.seen) since ≡ positions_left outcomes
  pub own : new.own ≡ old.own ++ own_entries old.seat since
  pub commanded : AllByRecursion (IsBy by) (own_entries old.seat since)
  -- requests were accepted with no more script than the commands hand on
  pub handed_on : scripts_size (own_entries old.seat since) ≤ commands_size commands
  -- each request that left none where the channel wasn't destroyed is counted, as far as a count goes
  pub lost : count ≡ min (count_by is_lost outcomes) (2 ^ 64 - 1)
  pub lawful : IsLawful old.setting old.seen → IsLawful new.setting new.seen
  -- the tokens of requests that weren't accepted by that have the names that they had, where the desk knows them
  pub names : NamesStay since old.names new.names
  pub setting : new.setting ≡ old.setting
  pub seat : new.seat ≡ old.seat
  -- where there was no command, no turn was taken: the desk has seen nothing more
  pub nothing : commands ≡ [] → since ≡ []
