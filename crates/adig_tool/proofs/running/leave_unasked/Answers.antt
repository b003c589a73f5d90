use Rattle.adig_tool.proofs.running.leave_unasked.Goals as goal

pub returns : goal.returns
returns g c = λ log wait_faults. (rw c.plain.ensures.end (c.leave.ensures log wait_faults), c.plain.ensures.outer)
