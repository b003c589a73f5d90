use Rattle.std.proofs.Common.{arith}
use Rattle.shared_parts_runs.proofs.PassLemmas.{others_receive, passes_len, shares_apart}
use Rattle.shared_parts_runs.proofs.tests.pool.whole.made.Goals as goal

pub returns-clause-others : goal.returns-clause-others
returns-clause-others g c = others_receive c.in_ok-pool.pool.queue c.args.workers c.in_ok-pool.passes.items c.in_ok-pool.ensures.queue_is.passes_are c.remove-first.new.self.items c.remove-first.ensures.items

pub returns-clause-shares : goal.returns-clause-shares
returns-clause-shares g c =
    shares_apart c.in_ok-pool.pool.queue c.args.workers c.in_ok-pool.passes.items c.in_ok-pool.ensures.queue_is.passes_are c.requires.few.1 c.remove-first.result c.remove-first.new.self.items c.remove-first.ensures.value c.remove-first.ensures.items

pub returns-clause-len : goal.returns-clause-len
returns-clause-len g c =
    omega (arith, c.remove-first.ensures.len, c.in_ok-pool.passes.ok.0, passes_len c.in_ok-pool.pool.queue c.args.workers c.in_ok-pool.passes.items c.in_ok-pool.ensures.queue_is.passes_are)
