-- How a channel is closed: it is destroyed, and the request that has no answer yet is called for.
use Rattle.std.specs.Prelude.{Bool, Err, List, None, Ok, Option, Result, Some, [], if◌then◌else◌, option_map, option_to_list, ℕ, ◌++◌, ◌∷◌, ◌≡◌}
use Rattle.chan_types.specs.declared.answer.Answer.{Answer}
use Rattle.chan_types.specs.declared.journal.Entry.{Entry}
use Rattle.chan_types.specs.declared.journal.What.TheVariants.{Destroy, Take}
use Rattle.channel_model.specs.Completion.{fate, pending, ready}
use Rattle.channel_model.specs.Journal.{past_of}
use Rattle.channel_model.specs.Lawful.{IsLawful}
use Rattle.channel_table.specs.Calling.{Owned}
use Rattle.item_list.specs.declared.no_memory.NoMemory.{NoMemory}
use Rattle.run_end.specs.declared.loop_end.LoopEnd.{LoopEnd}
use Rattle.run_end.specs.declared.loop_end.LoopEnd.TheVariants.{Completed, Stalled, WaitFault}
use Rattle.tool_line.specs.declared.ending.Exit.{Exit}
use Rattle.tool_line.specs.declared.ending.Exit.TheVariants.{Failure, OutOfMemory, Stalled as HasStalled, Success, WaitFault as FailedWait}

-- the entry that ends the channel
abbrev pub closing : Entry
closing = record { seat = 0; by = 0; what = Destroy }

-- the entry by which a request is taken
abbrev pub take_entry : ℕ → Entry
take_entry number = record { seat = 0; by = 0; what = Take number }

-- the request was taken with its fate; or none was ready
abbrev pub Fated : Option Answer → Owned → Type 0
Fated None channel = ready channel.setting (past_of channel.seen) ≡ []
Fated (Some answer) channel = fate channel.setting answer.number (past_of channel.seen) ≡ Some answer

-- the channel was destroyed, and the first request that was ready then was taken and called for with its fate, if one was
pub record Closes (old new : Owned) (calls_old calls_new : List Answer) : Type 0 where
  pub answer : Option Answer
  pub setting : new.setting ≡ old.setting
  pub seen : new.seen ≡ old.seen ++ closing ∷ option_to_list (option_map (λ a. take_entry a.number) answer)
  pub calls : calls_new ≡ calls_old ++ option_to_list answer
  pub lawful : IsLawful new.setting new.seen
  pub fated : Fated answer new
  pub none_pending : pending old.setting (past_of (old.seen ++ closing ∷ [])) ≡ []

-- how a run came to its end whose names were brought so far: all of them, with good answers alone or not
abbrev pub end_by : Result LoopEnd NoMemory → Bool → Exit
end_by (Ok Completed) good = if good then Success else Failure
end_by (Ok WaitFault) good = FailedWait
end_by (Ok Stalled) good = HasStalled
end_by (Err fault) good = OutOfMemory
