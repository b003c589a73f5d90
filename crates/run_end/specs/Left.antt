-- What is left of a channel behind the turns of a run, by how they came to their end.
use Rattle.std.specs.Prelude.{Err, List, Ok, Result, [], ℕ, ⊤, ◌≡◌, ◌≢◌}
use Rattle.item_list.specs.declared.no_memory.NoMemory.{NoMemory}
use Rattle.channel_model.specs.Completion.{pending, ready}
use Rattle.channel_model.specs.Journal.{Past}
use Rattle.channel_model.specs.Setting.{Setting}
use Rattle.run_end.specs.declared.loop_end.LoopEnd.{LoopEnd}
use Rattle.run_end.specs.declared.loop_end.LoopEnd.TheVariants.{Completed, Stalled, WaitFault}

-- what is left to be done, by how the turns came to their end: nothing, or a request is pending
abbrev pub IsLeft : LoopEnd → List ℕ → Type 0
IsLeft Completed requests = requests ≡ []
IsLeft WaitFault requests = requests ≢ []
IsLeft Stalled requests = requests ≢ []

-- nothing is ready any more, and this is pending; where memory was wanting anything may be left
abbrev pub LeavesPending : Setting → Result LoopEnd NoMemory → Past → Type 0
LeavesPending setting (Ok end) past = (ready setting past ≡ []) × IsLeft end (pending setting past)
LeavesPending setting (Err fault) past = ⊤

-- nothing is pending and nothing ready behind this past
abbrev pub IsOver : Setting → Past → Type 0
IsOver setting past = (pending setting past ≡ []) × (ready setting past ≡ [])
