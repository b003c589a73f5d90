use Rattle.event_runner.proofs.Base.{[]}
use Rattle.event_runner.proofs.DeliverLemmas.{delivers_err, handed_all, handed_cut, handed_more, handed_none}
use Rattle.event_runner.proofs.inbound.deliver.Goals as goal

pub loop-end-init : goal.loop-end-init
loop-end-init g c = handed_none _ _ _ _

pub returns-in_err-arrive-clause-delivers : goal.returns-in_err-arrive-clause-delivers
returns-in_err-arrive-clause-delivers g c =
    delivers_err _ _ _ _ _ _ c.from_residual.ensures.0 (handed_cut _ _ _ _ [] _ _ _ _ c.loop-end.invariant c.in_err-arrive.ensures.done)

pub loop-end-preserved : goal.loop-end-preserved
loop-end-preserved g c =
    rw c.skip.ensures
    (handed_more _ _ _ _ _ _ _ _ _ c.loop-end.invariant (rw c.as_slice.ensures at c.in-Some.ensures) (rw c.as_slice-in-Some.ensures at c.in_ok-arrive.ensures.done))

pub returns-clause-delivers : goal.returns-clause-delivers
returns-clause-delivers g c = handed_all _ _ _ _ _ _ c.loop-end.invariant (rw c.as_slice.ensures at c.in_default.ensures)
