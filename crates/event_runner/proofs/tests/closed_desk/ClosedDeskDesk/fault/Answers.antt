use Rattle.event_runner.proofs.Base.{sym}
use Rattle.event_runner.proofs.ClosedLemmas.{faults, faults_not, stays_closed}
use Rattle.event_runner.proofs.tests.closed_desk.ClosedDeskDesk.fault.Goals as goal

pub returns-in_err-push : goal.returns-in_err-push
returns-in_err-push c = record { done = faults_not _ _ _ (sym c.self.view_is) c.self.invariant c.in_err-push.ensures.items _ _ _ _ c.from_residual.ensures.0 }

pub invariant_of-self-2 : goal.invariant_of-self-2
invariant_of-self-2 c = stays_closed _ _ _ c.in_ok-push.ensures.items c.self.invariant

pub returns : goal.returns
returns c = record { done = faults _ _ _ (sym c.self.view_is) c.self.invariant _ _ _ c.in_ok-push.ensures.items }
