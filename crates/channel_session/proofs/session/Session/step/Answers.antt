use Rattle.std.proofs.Common.{arith, refl}
use Rattle.channel_session.proofs.StepLemmas.{cut_more, disturbed_ready, nothing_here, rests_on, steps_err}
use Rattle.channel_session.proofs.session.Session.step.Goals as goal

pub returns-in_err-paused-clause-steps : goal.returns-in_err-paused-clause-steps
returns-in_err-paused-clause-steps g c = steps_err _ _ c.from_residual.result c.from_residual.ensures.0 _ _ (cut_more 0 1 _ _ (omega arith) c.in_err-paused.ensures.rests)

pub returns-in-WaitFault-clause-steps : goal.returns-in-WaitFault-clause-steps
returns-in-WaitFault-clause-steps g c =
    let rests = rw c.in-WaitFault.is at c.in_ok-paused.ensures.rests in
    (rests.0, rests.1, c.in_ok-paused.ensures.wait_fault (rw c.in-WaitFault.is refl))

pub returns-in_err-turn-in-Pending-clause-steps : goal.returns-in_err-turn-in-Pending-clause-steps
returns-in_err-turn-in-Pending-clause-steps g c =
    steps_err _ _ c.from_residual-in_err-turn-in-Pending.result c.from_residual-in_err-turn-in-Pending.ensures.0 _ _
    (c.in_err-turn-in-Pending.ensures.turns _ (rests_on 0 0 _ _ _ _ _ c.left_on.ensures.looked c.in_ok-paused.paused c.in_ok-paused.ensures.rests))

pub returns-in_ok-turn-in-Pending-clause-steps : goal.returns-in_ok-turn-in-Pending-clause-steps
returns-in_ok-turn-in-Pending-clause-steps g c =
    c.in_ok-turn-in-Pending.ensures.turns _ (rests_on 0 0 _ _ _ _ _ c.left_on.ensures.looked c.in_ok-paused.paused c.in_ok-paused.ensures.rests)

pub returns-in-Ready-clause-steps : goal.returns-in-Ready-clause-steps
returns-in-Ready-clause-steps g c =
    disturbed_ready 0 0 _ _ _ _ _ c.left_on.ensures.looked c.in_ok-paused.paused c.in_default.not-WaitFault c.in_ok-paused.ensures.rests c.requires.none_ready
    (rw c.in-Ready.is at c.left_on.ensures.is_left)

pub returns-in-Nothing-clause-steps : goal.returns-in-Nothing-clause-steps
returns-in-Nothing-clause-steps g c =
    nothing_here _ _ _ _ _ _ _ c.left_on.ensures.looked c.in_ok-paused.paused c.in_default.not-WaitFault c.nothing_left.result c.nothing_left.ensures c.in_ok-paused.ensures.rests
    (rw c.in-Nothing.is at c.left_on.ensures.is_left)
