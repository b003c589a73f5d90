use Rattle.event_runner.proofs.Base.{arith, refl, ◌∙◌}
use Rattle.event_runner.proofs.GoesLemmas.{ends_err}
use Rattle.event_runner.proofs.HearLemmas.{hears_all, hears_more, hears_most, hears_so_far, hears_stop}
use Rattle.event_runner.proofs.receiving.receive_all.Goals as goal

pub loop-received-init : goal.loop-received-init
loop-received-init g c = record { goes = hears_so_far _ _; waits = refl; faults = omega arith; origin = refl }

pub returns-in_err-receive_one-clause-goes : goal.returns-in_err-receive_one-clause-goes
returns-in_err-receive_one-clause-goes g c =
    ends_err _ _ _ c.from_residual.ensures.0 _ _ (hears_stop _ _ (omega arith) _ _ _ c.loop-received.invariant.goes c.in_err-receive_one.ensures.goes)

pub returns-then-not-branch-clause-goes : goal.returns-then-not-branch-clause-goes
returns-then-not-branch-clause-goes g c =
    hears_all _ _ (omega arith) _ _ _ c.loop-received.invariant.goes (rw c.if-not-branch.true at c.in_ok-receive_one.ensures.goes)

pub loop-received-preserved : goal.loop-received-preserved
loop-received-preserved g c = record {
  goes = hears_more _ _ _ _ _ c.loop-received.invariant.goes (rw c.if-not-branch.false at c.in_ok-receive_one.ensures.goes);
  waits = c.in_ok-receive_one.ensures.waits ∙ c.loop-received.invariant.waits;
  faults = omega (arith, c.in_ok-receive_one.ensures.faults, c.loop-received.invariant.faults);
  origin = c.in_ok-receive_one.ensures.origin ∙ c.loop-received.invariant.origin;
}

pub returns-clause-goes : goal.returns-clause-goes
returns-clause-goes g c = hears_most _ _ (omega arith) _ _ c.loop-received.invariant.goes
