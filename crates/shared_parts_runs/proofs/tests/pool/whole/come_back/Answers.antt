use Rattle.shared_parts_runs.proofs.PassLemmas.{back_more}
use Rattle.shared_parts_runs.proofs.tests.pool.whole.come_back.Goals as goal

pub loop-worker-preserved : goal.loop-worker-preserved
loop-worker-preserved g c =
    back_more c.args.pool.now.queue c.args.crew.items c.loop-worker.crew.items c.pop.new.self.items c.in-Some.worker c.loop-worker.passes.items c.push.new.self.items c.in-Some.ensures.items c.in_ok-push.ensures.items c.loop-worker.invariant
