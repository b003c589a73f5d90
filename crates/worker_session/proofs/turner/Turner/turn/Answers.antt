use Rattle.std.proofs.Common.{arith}
use Rattle.worker_session.proofs.StepLemmas.{steps_cut, steps_stalled, steps_turned}
use Rattle.worker_session.proofs.turner.Turner.turn.Goals as goal

pub returns-then-self-eq0-clause-steps : goal.returns-then-self-eq0-clause-steps
returns-then-self-eq0-clause-steps g c = steps_stalled _ c.requires.under_way c.requires.rested c.requires.some_pending c.if-self-eq0.true

pub returns-in-Ok-clause-steps : goal.returns-in-Ok-clause-steps
returns-in-Ok-clause-steps g c = steps_turned _ _ _ _ _ _ c.requires.under_way c.requires.rested c.requires.some_pending (omega (arith, c.if-self-eq0.false)) c.in-Ok.ensures.waits c.in-Ok.field-0 c.in-Ok.ensures.goes c.in-Ok.ensures.reading

pub returns-in-Err-clause-steps : goal.returns-in-Err-clause-steps
returns-in-Err-clause-steps g c = steps_cut _ _ _ _ _ _ c.requires.under_way c.requires.rested c.requires.some_pending (omega (arith, c.if-self-eq0.false)) c.in-Err.ensures.waits c.in-Err.ensures.goes

pub returns-in-Ok-clause-turned : goal.returns-in-Ok-clause-turned
returns-in-Ok-clause-turned g c = λ any. (c.requires.under_way, omega (arith, c.if-self-eq0.false))
