use Rattle.std.proofs.Common.{arith, ap, map, refl, ◌∙◌}
use Rattle.query_machine.specs.Servers.{failing_of}
use Rattle.query_machine.proofs.ServerLemmas.{again, again_more, again_whole}
use Rattle.query_machine.proofs.servers.forgive.Goals as goal

pub loop-index-init : goal.loop-index-init
loop-index-init c = refl

pub loop-index-preserved : goal.loop-index-preserved
loop-index-preserved c =
    again_more c.args.server (λ count. 0) c.args.counts.now c.loop-index.counts c.loop-index.index _ c.forgiven.result c.loop-index-test.true (omega (arith, c.loop-index-test.true, c.loop-index.auto.counts)) c.loop-index.invariant c.forgiven.ensures

pub returns : goal.returns
returns c =
    ap (map failing_of) (again_whole c.args.server (λ count. 0) c.args.counts.now c.loop-index.counts c.loop-index.index c.loop-index-test.false c.loop-index.invariant)
    ∙ again c.args.server (λ count. 0) c.args.counts.now
