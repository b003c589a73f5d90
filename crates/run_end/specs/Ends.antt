-- How a run comes to its end, by how its turns ended and by the answers that were called for.
use Rattle.std.specs.Prelude.{All, Err, List, Ok, Result, ◌≡◌, ◌⊎◌}
use Rattle.chan_types.specs.declared.answer.Answer.{Answer}
use Rattle.chan_types.specs.declared.status.Status.TheVariants.{Success as WentWell}
use Rattle.item_list.specs.declared.no_memory.NoMemory.{NoMemory}
use Rattle.tool_line.specs.declared.ending.Exit.{Exit}
use Rattle.tool_line.specs.declared.ending.Exit.TheVariants.{Failure, OutOfMemory, Stalled as HasStalled, Success, WaitFault as FailedWait}
use Rattle.run_end.specs.declared.loop_end.LoopEnd.{LoopEnd}
use Rattle.run_end.specs.declared.loop_end.LoopEnd.TheVariants.{Completed, Stalled, WaitFault}

-- each of these answers is a good one
abbrev pub AreGood : List Answer → Type 0
AreGood answers = All (λ answer. answer.status ≡ WentWell) answers

-- it is a good end where all answers are good, and else a bad one
abbrev pub IsPageEndOf : List Answer → Exit → Type 0
IsPageEndOf calls end = ((end ≡ Success) × AreGood calls) ⊎ ((end ≡ Failure) × ¬ AreGood calls)

-- how a run comes to its end whose turns ended so
abbrev pub IsEndOf : Result LoopEnd NoMemory → List Answer → Exit → Type 0
IsEndOf (Ok Completed) calls end = IsPageEndOf calls end
IsEndOf (Ok WaitFault) calls end = end ≡ FailedWait
IsEndOf (Ok Stalled) calls end = end ≡ HasStalled
IsEndOf (Err fault) calls end = end ≡ OutOfMemory

-- at this end each request has its answer, and the text is the page
abbrev pub IsPageEnd : Exit → Type 0
IsPageEnd end = (end ≡ Success) ⊎ (end ≡ Failure)

-- the ends to which a run comes whose words are understood and whose files could be read
abbrev pub IsRunEnd : Exit → Type 0
IsRunEnd end = IsPageEnd end ⊎ (end ≡ FailedWait) ⊎ (end ≡ HasStalled) ⊎ (end ≡ OutOfMemory)
