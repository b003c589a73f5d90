use Rattle.worker_session.proofs.WayLemmas.{steps_none}
use Rattle.worker_session.proofs.turner.Turner.has_ended.Goals as goal

pub returns-in-WaitFault-clause-steps : goal.returns-in-WaitFault-clause-steps
returns-in-WaitFault-clause-steps g c = steps_none _

pub returns-in-Stalled-clause-steps : goal.returns-in-Stalled-clause-steps
returns-in-Stalled-clause-steps g c = steps_none _

pub returns-in-OutOfMemory-clause-steps : goal.returns-in-OutOfMemory-clause-steps
returns-in-OutOfMemory-clause-steps g c = steps_none _
