use Rattle.std.proofs.Common.{arith, ap, map, refl, ◌∙◌}
use Rattle.query_machine.specs.Servers.{failing_of, one_more}
use Rattle.query_machine.proofs.ServerLemmas.{again, again_more, again_whole}
use Rattle.query_machine.proofs.servers.count_failure.Goals as goal

pub loop-index-init : goal.loop-index-init
loop-index-init c = refl

pub loop-index-preserved : goal.loop-index-preserved
loop-index-preserved c =
    again_more c.args.server one_more c.args.counts.now c.loop-index.counts c.loop-index.index _ c.with_failure.result c.loop-index-test.true (omega (arith, c.loop-index-test.true, c.loop-index.auto.counts)) c.loop-index.invariant c.with_failure.ensures

pub returns : goal.returns
returns c =
    ap (map failing_of) (again_whole c.args.server one_more c.args.counts.now c.loop-index.counts c.loop-index.index c.loop-index-test.false c.loop-index.invariant)
    ∙ again c.args.server one_more c.args.counts.now
