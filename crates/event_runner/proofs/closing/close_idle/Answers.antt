use Rattle.event_runner.proofs.Base.{arith, refl, ◌∙◌, ◌+◌, ◌≡◌, vec_len}
use Rattle.event_runner.proofs.CloseLemmas.{closes_all, closes_less, closes_more, closes_none, closes_stop}
use Rattle.event_runner.proofs.GoesLemmas.{ends_err}
use Rattle.event_runner.proofs.closing.close_idle.Goals as goal

pub loop-index-init : goal.loop-index-init
loop-index-init g c = record { goes = λ reading. closes_none reading _; within = omega arith; waits = refl; faults = omega arith; origin = refl }

pub returns-in_err-look_at-clause-goes : goal.returns-in_err-look_at-clause-goes
returns-in_err-look_at-clause-goes g c = λ reading. ends_err _ _ _ c.from_residual.ensures.0 _ _ (closes_stop reading _ _ _ _ (c.loop-index.invariant.goes reading) (c.in_err-look_at.ensures.goes reading))

pub loop-index-preserved-then-branch : goal.loop-index-preserved-then-branch
loop-index-preserved-then-branch g c =
    let left : vec_len c.look_at.new.kept.links ≡ vec_len c.loop-index.kept.links = rw c.if-branch.true at c.in_ok-look_at.ensures.left in
    let goes = rw c.if-branch.true at c.in_ok-look_at.ensures.goes in
    record {
      goes = λ reading. closes_more reading _ _ _ _ (c.loop-index.invariant.goes reading) (goes reading);
      within = omega (arith, c.loop-index-test.true, c.len.ensures);
      waits = c.in_ok-look_at.ensures.waits ∙ c.loop-index.invariant.waits;
      faults = omega (arith, c.in_ok-look_at.ensures.faults, c.loop-index.invariant.faults);
      origin = c.in_ok-look_at.ensures.origin ∙ c.loop-index.invariant.origin;
    }

pub loop-index-preserved : goal.loop-index-preserved
loop-index-preserved g c =
    let left : vec_len c.look_at.new.kept.links + 1 ≡ vec_len c.loop-index.kept.links = rw c.if-branch.false at c.in_ok-look_at.ensures.left in
    let goes = rw c.if-branch.false at c.in_ok-look_at.ensures.goes in
    record {
      goes = λ reading. closes_less reading _ _ _ _ (c.loop-index.invariant.goes reading) (goes reading);
      within = omega (arith, c.loop-index-test.true, c.len.ensures);
      waits = c.in_ok-look_at.ensures.waits ∙ c.loop-index.invariant.waits;
      faults = omega (arith, c.in_ok-look_at.ensures.faults, c.loop-index.invariant.faults);
      origin = c.in_ok-look_at.ensures.origin ∙ c.loop-index.invariant.origin;
    }

pub returns-clause-goes : goal.returns-clause-goes
returns-clause-goes g c = λ reading. closes_all reading _ _ _ (omega (arith, c.loop-index-test.false, c.len.ensures, c.loop-index.kept.links.ok.0)) (c.loop-index.invariant.goes reading)
