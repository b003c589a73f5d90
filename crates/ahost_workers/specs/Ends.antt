-- How a run with workers comes to its end, by how its session did.
use Rattle.std.specs.Prelude.{Err, Ok, Result, ⊤, ◌≡◌}
use Rattle.item_list.specs.declared.no_memory.NoMemory.{NoMemory}
use Rattle.run_end.specs.declared.loop_end.LoopEnd.{LoopEnd}
use Rattle.run_end.specs.declared.loop_end.LoopEnd.TheVariants.{Completed as HasCompleted, Stalled as HasStalled, WaitFault as HasFailed}
use Rattle.shared_session.specs.declared.task.SessionEnd.{SessionEnd}
use Rattle.shared_session.specs.declared.task.SessionEnd.TheVariants.{Completed, OutOfMemory, Stalled, WaitFault}
use Rattle.tool_line.specs.declared.ending.Exit.{Exit}
use Rattle.tool_line.specs.declared.ending.Exit.TheVariants.{Failure, FileFault, OutOfMemory as WantedMemory, SinkFault, Stalled as Stalls, Success, Usage, WaitFault as FailedWait}
use Rattle.worker_session.specs.declared.coming.Coming.{Coming}
use Rattle.worker_session.specs.declared.coming.Coming.TheVariants.{Stalled as AllMade, UnderWay, WaitFault as WaitFailed}

-- how the turns of a session ended that came to this end
abbrev pub IsTurnsEnd : SessionEnd → Result LoopEnd NoMemory → Type 0
IsTurnsEnd Completed result = result ≡ Ok HasCompleted
IsTurnsEnd WaitFault result = result ≡ Ok HasFailed
IsTurnsEnd Stalled result = result ≡ Ok HasStalled
IsTurnsEnd OutOfMemory result = (fault : NoMemory) × (result ≡ Err fault)

-- how far the turns of a run came that ended so: where it has its report, more might have been made; where memory was wanting, anything may be
abbrev pub ComesAs : Exit → Coming → Type 0
ComesAs Success coming = coming ≡ UnderWay
ComesAs Failure coming = coming ≡ UnderWay
ComesAs Usage coming = ⊤
ComesAs FileFault coming = ⊤
ComesAs SinkFault coming = ⊤
ComesAs WantedMemory coming = ⊤
ComesAs FailedWait coming = coming ≡ WaitFailed
ComesAs Stalls coming = coming ≡ AllMade
