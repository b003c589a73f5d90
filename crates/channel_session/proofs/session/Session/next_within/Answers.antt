use Rattle.std.proofs.Common.{[], arith, refl, ◌+◌, ◌∙◌}
use Rattle.channel_session.proofs.AdvanceLemmas.{advances_none, advances_then, cut_then}
use Rattle.channel_session.proofs.LeftLemmas.{none_ready}
use Rattle.channel_session.proofs.PartLemmas.{took, took_none}
use Rattle.channel_session.proofs.StepLemmas.{come_then, comes_err, completed_then, disturbed_then, fault_then, over_then, same_turns}
use Rattle.channel_session.proofs.session.Session.next_within.Goals as goal

pub loop-init : goal.loop-init
loop-init g c = record { advances = advances_none _; left = omega arith; waits = omega arith; origin = refl }

pub returns-in-Some-clause-comes_by : goal.returns-in-Some-clause-comes_by
returns-in-Some-clause-comes_by g c =
    let taken = rw c.in-Some.is at c.take.ensures.done in
    completed_then g.D.Token.Token.plan g.D.Token.Token.name 0 0 0 (omega arith) (omega arith) c.loop.counter _ _ _ c.loop.invariant.advances _ _ c.in-Some.ticket (omega (arith, c.loop.invariant.left))
    (took g.D.Token.Token.plan c.in-Some.ticket _ _ _ _ taken) taken (rw c.in-Some.is at c.take.ensures.named)

pub step-requires : goal.step-requires
step-requires g c = record { none_ready = none_ready g.D.Token.Token.plan _ _ (rw c.in-None.is at c.take.ensures.done) }

pub returns-in_err-step-in-None-clause-comes_by : goal.returns-in_err-step-in-None-clause-comes_by
returns-in_err-step-in-None-clause-comes_by g c =
    let looked = advances_then c.loop.counter 0 [] _ _ _ c.loop.invariant.advances (took_none g.D.Token.Token.plan _ _ _ _ (rw c.in-None.is at c.take.ensures.done)) in
    comes_err g.D.Token.Token.plan g.D.Token.Token.name _ _ _ _ c.from_residual.result c.from_residual.ensures.0 _ _ (cut_then (c.loop.counter + 0) 1 _ _ _ _ (omega (arith, c.loop-test.true)) looked c.in_err-step-in-None.ensures.steps)

pub returns-in-Over-clause-comes_by : goal.returns-in-Over-clause-comes_by
returns-in-Over-clause-comes_by g c =
    let looked = advances_then c.loop.counter 0 [] _ _ _ c.loop.invariant.advances (took_none g.D.Token.Token.plan _ _ _ _ (rw c.in-None.is at c.take.ensures.done)) in
    over_then g.D.Token.Token.plan g.D.Token.Token.name 0 0 0 (omega arith) (omega arith) (c.loop.counter + 0) _ _ _ looked _ _ (omega (arith, c.loop.invariant.left)) (rw c.in-Over.is at c.in_ok-step-in-None.ensures.steps)

pub returns-in-WaitFault-clause-comes_by : goal.returns-in-WaitFault-clause-comes_by
returns-in-WaitFault-clause-comes_by g c =
    let looked = advances_then c.loop.counter 0 [] _ _ _ c.loop.invariant.advances (took_none g.D.Token.Token.plan _ _ _ _ (rw c.in-None.is at c.take.ensures.done)) in
    fault_then g.D.Token.Token.plan g.D.Token.Token.name _ _ _ c.loop.invariant.waits c.step.ensures.waits (c.loop.counter + 0) _ _ _ looked _ _ (omega (arith, c.loop.invariant.left)) (rw c.in-WaitFault.is at c.in_ok-step-in-None.ensures.steps)

pub returns-in-Disturbed-clause-comes_by : goal.returns-in-Disturbed-clause-comes_by
returns-in-Disturbed-clause-comes_by g c =
    let looked = advances_then c.loop.counter 0 [] _ _ _ c.loop.invariant.advances (took_none g.D.Token.Token.plan _ _ _ _ (rw c.in-None.is at c.take.ensures.done)) in
    disturbed_then g.D.Token.Token.plan g.D.Token.Token.name 0 0 0 (omega arith) (omega arith) (c.loop.counter + 0) _ _ _ looked _ _ (omega (arith, c.loop.invariant.left)) (rw c.in-Disturbed.is at c.in_ok-step-in-None.ensures.steps)

pub loop-preserved : goal.loop-preserved
loop-preserved g c =
    let looked = advances_then c.loop.counter 0 [] _ _ _ c.loop.invariant.advances (took_none g.D.Token.Token.plan _ _ _ _ (rw c.in-None.is at c.take.ensures.done)) in
    record {
      advances = same_turns (c.loop.counter + 0 + 1) (c.loop.counter + 1) [] _ _ (omega arith)
          (advances_then (c.loop.counter + 0) 1 [] _ _ _ looked (rw c.in-Turned.is at c.in_ok-step-in-None.ensures.steps));
      left = omega (arith, c.loop.invariant.left, c.loop-test.true);
      waits = omega (arith, c.loop.invariant.waits, c.step.ensures.waits);
      origin = c.step.ensures.origin ∙ c.loop.invariant.origin;
    }

pub returns-clause-comes_by : goal.returns-clause-comes_by
returns-clause-comes_by g c =
    come_then g.D.Token.Token.plan g.D.Token.Token.name _ _ _ c.loop.invariant.waits (omega arith) c.loop.counter _ _ _ c.loop.invariant.advances _ _ c.settle.result
    (omega (arith, c.loop.invariant.left)) (omega (arith, c.loop.invariant.left, c.loop-test.false, c.loop.auto.counter-end)) (c.settle.ensures _ _ _)
