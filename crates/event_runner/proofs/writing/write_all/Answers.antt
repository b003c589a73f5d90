use Rattle.event_runner.proofs.Base.{arith, refl, ◌∙◌, ◌+◌, ◌≡◌, vec_len}
use Rattle.event_runner.proofs.FlushLemmas.{upto_all, upto_gone, upto_none, upto_stays, upto_stop}
use Rattle.event_runner.proofs.GoesLemmas.{ends_err}
use Rattle.event_runner.proofs.writing.write_all.Goals as goal

pub loop-index-init : goal.loop-index-init
loop-index-init g c = record { goes = upto_none _ _; within = omega arith; waits = refl; faults = omega arith; origin = refl }

pub returns-in_err-write_one-clause-goes : goal.returns-in_err-write_one-clause-goes
returns-in_err-write_one-clause-goes g c = ends_err _ _ _ c.from_residual.ensures.0 _ _ (upto_stop _ _ _ _ _ c.loop-index.invariant.goes c.in_err-write_one.ensures.goes)

pub loop-index-preserved-then-branch : goal.loop-index-preserved-then-branch
loop-index-preserved-then-branch g c =
    let left : vec_len c.write_one.new.kept.links ≡ vec_len c.loop-index.kept.links = rw c.if-branch.true at c.in_ok-write_one.ensures.left in
    record {
      goes = upto_stays _ _ _ _ _ c.loop-index.invariant.goes (rw c.if-branch.true at c.in_ok-write_one.ensures.goes);
      within = omega (arith, c.loop-index-test.true, c.len.ensures);
      waits = c.in_ok-write_one.ensures.waits ∙ c.loop-index.invariant.waits;
      faults = omega (arith, c.in_ok-write_one.ensures.faults, c.loop-index.invariant.faults);
      origin = c.in_ok-write_one.ensures.origin ∙ c.loop-index.invariant.origin;
    }

pub loop-index-preserved : goal.loop-index-preserved
loop-index-preserved g c =
    let left : vec_len c.write_one.new.kept.links + 1 ≡ vec_len c.loop-index.kept.links = rw c.if-branch.false at c.in_ok-write_one.ensures.left in
    record {
      goes = upto_gone _ _ _ _ _ c.loop-index.invariant.goes (rw c.if-branch.false at c.in_ok-write_one.ensures.goes);
      within = omega (arith, c.loop-index-test.true, c.len.ensures);
      waits = c.in_ok-write_one.ensures.waits ∙ c.loop-index.invariant.waits;
      faults = omega (arith, c.in_ok-write_one.ensures.faults, c.loop-index.invariant.faults);
      origin = c.in_ok-write_one.ensures.origin ∙ c.loop-index.invariant.origin;
    }

pub returns-clause-goes : goal.returns-clause-goes
returns-clause-goes g c = upto_all _ _ _ _ (omega (arith, c.loop-index-test.false, c.len.ensures, c.loop-index.kept.links.ok.0)) c.loop-index.invariant.goes
