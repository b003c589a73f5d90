use Rattle.std.proofs.Common.{inl, inr, refl}
use Rattle.std.proofs.Common.{Ok, ap}
use Rattle.worker_session.proofs.StepLemmas.{steps_faulted, steps_skipped, steps_unpaused, steps_woken}
use Rattle.worker_session.proofs.turner.Turner.rest.Goals as goal

pub returns-in-Ok-Skipped-clause-steps : goal.returns-in-Ok-Skipped-clause-steps
returns-in-Ok-Skipped-clause-steps g c = steps_skipped _ _ _ _ _ c.requires.under_way c.requires.behind_turn c.requires.none_left c.requires.none_ready c.in-Ok-Skipped.ensures.waits c.in-Ok-Skipped.field-0 c.in-Ok-Skipped.ensures.pauses _ c.in-Ok-Skipped.ensures.kept c.in-Ok-Skipped.field-0-is

pub returns-in-Ok-Woken-clause-steps : goal.returns-in-Ok-Woken-clause-steps
returns-in-Ok-Woken-clause-steps g c = steps_woken _ _ _ _ _ c.requires.under_way c.requires.behind_turn c.requires.none_left c.requires.none_ready c.in-Ok-Woken.ensures.waits c.in-Ok-Woken.field-0 c.in-Ok-Woken.ensures.pauses _ c.in-Ok-Woken.ensures.kept c.in-Ok-Woken.field-0-is

pub returns-in-Ok-WaitFault-clause-steps : goal.returns-in-Ok-WaitFault-clause-steps
returns-in-Ok-WaitFault-clause-steps g c = steps_faulted _ _ _ _ _ c.requires.under_way c.requires.behind_turn c.requires.none_left c.requires.none_ready c.in-Ok-WaitFault.ensures.waits c.in-Ok-WaitFault.field-0 c.in-Ok-WaitFault.ensures.pauses _ c.in-Ok-WaitFault.ensures.kept c.in-Ok-WaitFault.field-0-is (c.in-Ok-WaitFault.ensures.wait_fault (ap Ok c.in-Ok-WaitFault.field-0-is))

pub returns-in-Err-clause-steps : goal.returns-in-Err-clause-steps
returns-in-Err-clause-steps g c = steps_unpaused _ _ _ _ _ c.requires.under_way c.requires.behind_turn c.requires.none_left c.requires.none_ready c.in-Err.ensures.waits c.in-Err.ensures.pauses.0 c.in-Err.ensures.pauses.1

pub returns-in-Ok-Skipped-clause-answer : goal.returns-in-Ok-Skipped-clause-answer
returns-in-Ok-Skipped-clause-answer g c = inr (inl (c.requires.behind_turn, refl))

pub returns-in-Ok-Woken-clause-answer : goal.returns-in-Ok-Woken-clause-answer
returns-in-Ok-Woken-clause-answer g c = inr (inl (c.requires.behind_turn, refl))

pub returns-in-Ok-WaitFault-clause-answer : goal.returns-in-Ok-WaitFault-clause-answer
returns-in-Ok-WaitFault-clause-answer g c = inl refl

pub returns-in-Err-clause-answer : goal.returns-in-Err-clause-answer
returns-in-Err-clause-answer g c = inl refl
