use Rattle.std.proofs.Common.{ap, inl}
use Rattle.worker_session.specs.Stepping.{may_go_on}
use Rattle.worker_session.proofs.WayLemmas.{steps_none}
use Rattle.worker_session.proofs.turner.Turner.go_on.Goals as goal

pub returns-in-WaitFault-clause-steps : goal.returns-in-WaitFault-clause-steps
returns-in-WaitFault-clause-steps g c = steps_none _

pub returns-in-Stalled-clause-steps : goal.returns-in-Stalled-clause-steps
returns-in-Stalled-clause-steps g c = steps_none _

pub returns-in-OutOfMemory-clause-steps : goal.returns-in-OutOfMemory-clause-steps
returns-in-OutOfMemory-clause-steps g c = steps_none _

pub returns-in-WaitFault-clause-answer : goal.returns-in-WaitFault-clause-answer
returns-in-WaitFault-clause-answer g c = inl (ap may_go_on c.in-WaitFault.is)

pub returns-in-Stalled-clause-answer : goal.returns-in-Stalled-clause-answer
returns-in-Stalled-clause-answer g c = inl (ap may_go_on c.in-Stalled.is)

pub returns-in-OutOfMemory-clause-answer : goal.returns-in-OutOfMemory-clause-answer
returns-in-OutOfMemory-clause-answer g c = inl (ap may_go_on c.in-OutOfMemory.is)
