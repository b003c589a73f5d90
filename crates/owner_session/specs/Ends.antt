-- How a run comes to its end, by how its turns ended, by what was lost, and by the answers that were called for.
use Rattle.std.specs.Prelude.{List, Result, zero, suc, ℕ, ◌≡◌}
use Rattle.chan_types.specs.declared.answer.Answer.{Answer}
use Rattle.item_list.specs.declared.no_memory.NoMemory.{NoMemory}
use Rattle.tool_line.specs.declared.ending.Exit.{Exit}
use Rattle.tool_line.specs.declared.ending.Exit.TheVariants.{OutOfMemory}
use Rattle.run_end.specs.Ends.{IsEndOf as IsTurnsEnd}
use Rattle.run_end.specs.declared.loop_end.LoopEnd.{LoopEnd}

-- as its turns ended and its answers are, unless so many requests were lost: then memory was wanting
abbrev pub IsEndOf : Result LoopEnd NoMemory → ℕ → List Answer → Exit → Type 0
IsEndOf loop_end zero calls end = IsTurnsEnd loop_end calls end
IsEndOf loop_end (suc lost) calls end = end ≡ OutOfMemory
