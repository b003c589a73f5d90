-- What the end of its attempt makes of a row.
use Rattle.std.specs.Prelude.{Bool, List, None, Option, Some, [], false, if◌then◌else◌, option_map, true, ℕ, ◌&&◌, ◌||◌}
use Rattle.chan_types.specs.declared.answer.Answer.{Answer}
use Rattle.chan_types.specs.declared.status.Status.{Status}
use Rattle.chan_types.specs.declared.status.Status.TheVariants.{NoData}
use Rattle.channel_model.specs.Merge.{same_status}
use Rattle.channel_model.specs.Search.{goes_on}
use Rattle.channel_model.specs.Verdict.{has_item}
use Rattle.channel_model.specs.declared.judged.Judged.{Judged}
use Rattle.query_machine.specs.Legs.{fresh_leg}
use Rattle.query_machine.specs.declared.leg.Leg as machine
use Rattle.resolv_options.specs.declared.flags.Flags.{Flags}
use Rattle.resolv_options.specs.declared.options.Options.{Options}
use Rattle.channel_table.specs.Rows.{answer_of_row}
use Rattle.channel_table.specs.Lookups.{concerns, next_lookup, lookup_behind}
use Rattle.channel_table.specs.declared.row.After.{After}
use Rattle.channel_table.specs.declared.row.After.TheVariants.{Ends, Stays}
use Rattle.channel_table.specs.declared.row.Row.{Row}
use Rattle.channel_table.specs.declared.concerned.Concerned.{Concerned}

-- the next candidate is asked, where the current one has ended with this status: the status is one that goes on, and there is a next one
abbrev pub has_next : {T : Type 0} → Status → Row T → Bool
has_next status row = goes_on status && has_item row.first.names

-- the row asks its next candidate by these legs, where the current one has ended with this status
abbrev pub next_row : {T : Type 0} → machine.Leg → Status → Row T → Row T
next_row leg status row = record row {
  first = next_lookup leg row.first;
  second = option_map (next_lookup leg) row.second;
  empty = row.empty || same_status status NoData;
}

-- the row behind the end of the attempts that an entry concerns, which meant this and came with this reply, where a leg may spend so many
abbrev pub lookups_behind : {T : Type 0} → Concerned → Judged → List ℕ → ℕ → Row T → Row T
lookups_behind concerned judged reply most row = record row {
  first = lookup_behind concerned false judged reply most row.first;
  second = option_map (lookup_behind concerned true judged (if concerns concerned false row.first then [] else reply) most) row.second;
}

-- the status of a request whose last candidate ended with this one: NoData in the place of one that would have gone on, where a candidate before ended without data
abbrev pub last_status : Bool → Status → Status
last_status empty status = if goes_on status && empty then NoData else status

-- the row with this answer of its current candidate: it asks the next one, or it ends
abbrev pub after_answer : {T : Type 0} → Flags → Answer → Row T → After T
after_answer flags answer row =
    if has_next answer.status row then Stays (next_row (fresh_leg flags) answer.status row) else
    Ends (record { token = row.token; call = record answer { status = last_status row.empty answer.status } })

-- the row behind the end of the attempts that an entry concerns, where this is then the answer of its current candidate, if it has one
abbrev pub after : {T : Type 0} → Flags → Concerned → Judged → List ℕ → ℕ → Row T → Option Answer → After T
after flags concerned judged reply most row None = Stays (lookups_behind concerned judged reply most row)
after flags concerned judged reply most row (Some answer) = after_answer flags answer row

-- the answer that its current candidate then has, if it has one
abbrev pub answer_behind : {T : Type 0} → Options → Concerned → Judged → List ℕ → ℕ → Row T → Option Answer
answer_behind options concerned judged reply most row = answer_of_row options (lookups_behind concerned judged reply most row)
