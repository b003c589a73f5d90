use Rattle.event_runner.proofs.Base.{sym}
use Rattle.event_runner.proofs.ClosedLemmas.{arrives, arrives_not, stays_closed}
use Rattle.event_runner.proofs.tests.closed_desk.ClosedDeskDesk.arrive.Goals as goal

pub returns-in_err-bytes : goal.returns-in_err-bytes
returns-in_err-bytes c = record { done = arrives_not _ _ _ (sym c.self.view_is) c.self.invariant (sym c.self.view_is) _ _ _ _ c.from_residual.ensures.0 }

pub returns-in_err-push : goal.returns-in_err-push
returns-in_err-push c = record { done = arrives_not _ _ _ (sym c.self.view_is) c.self.invariant c.in_err-push.ensures.items _ _ _ _ c.from_residual-in_err-push.ensures.0 }

pub invariant_of-self-2 : goal.invariant_of-self-2
invariant_of-self-2 c = stays_closed _ _ _ c.in_ok-push.ensures.items c.self.invariant

pub returns : goal.returns
returns c = record { done = arrives _ _ _ (sym c.self.view_is) c.self.invariant _ _ _ _ c.in_ok-bytes.ensures c.in_ok-push.ensures.items }
