use Rattle.event_runner.proofs.Base.{arith, refl, ◌∙◌}
use Rattle.event_runner.proofs.GoesLemmas.{ends_err}
use Rattle.event_runner.proofs.StartLemmas.{begins_all, begins_more, begins_most, begins_so_far, begins_stop}
use Rattle.event_runner.proofs.starting.start_all.Goals as goal

pub loop-started-init : goal.loop-started-init
loop-started-init g c = record { goes = begins_so_far _ _; waits = refl; faults = omega arith; origin = refl }

pub returns-in_err-start_one-clause-goes : goal.returns-in_err-start_one-clause-goes
returns-in_err-start_one-clause-goes g c =
    ends_err _ _ _ c.from_residual.ensures.0 _ _ (begins_stop _ _ (omega arith) _ _ _ c.loop-started.invariant.goes c.in_err-start_one.ensures.goes)

pub returns-then-not-branch-clause-goes : goal.returns-then-not-branch-clause-goes
returns-then-not-branch-clause-goes g c = begins_all _ _ (omega arith) _ _ _ c.loop-started.invariant.goes (rw c.if-not-branch.true at c.in_ok-start_one.ensures.goes)

pub loop-started-preserved : goal.loop-started-preserved
loop-started-preserved g c = record {
  goes = begins_more _ _ _ _ _ c.loop-started.invariant.goes (rw c.if-not-branch.false at c.in_ok-start_one.ensures.goes);
  waits = c.in_ok-start_one.ensures.waits ∙ c.loop-started.invariant.waits;
  faults = omega (arith, c.in_ok-start_one.ensures.faults, c.loop-started.invariant.faults);
  origin = c.in_ok-start_one.ensures.origin ∙ c.loop-started.invariant.origin;
}

pub returns-clause-goes : goal.returns-clause-goes
returns-clause-goes g c = begins_most _ _ (omega arith) _ _ c.loop-started.invariant.goes
