-- one step more is as deep as that step and those before it
use Rattle.std.proofs.Common.{sym}
use Rattle.chan_types.proofs.MovesLemmas.{depth_more}
use Rattle.chan_types.proofs.script.depth_of.Goals as goal

pub loop-step-preserved : goal.loop-step-preserved
loop-step-preserved c =
    rw (c.larger-deep.ensures, c.loop-step.invariant, c.reach_of.ensures.reach) (sym (depth_more c.args.steps.now c.loop-step.step-index c.step-item.result c.loop-step-test.true c.step-item.is))
