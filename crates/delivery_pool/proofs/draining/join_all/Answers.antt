use Rattle.std.proofs.Common.{rules}
use Rattle.delivery_pool.proofs.JoiningLemmas.{begins, goes_on, next_at}
use Rattle.delivery_pool.proofs.draining.join_all.Goals as goal

pub loop-next-init : goal.loop-next-init
loop-next-init g c = begins c.args.queue.now c.args.passes.items c.pop.new.self.items c.unwrap-all.result (search rules) c.requires.each

pub join-all-requires-clause-left : goal.join-all-requires-clause-left
join-all-requires-clause-left g c = next_at c.args.queue.now c.loop-next.passes.items c.pop-in-loop-next.new.self.items c.in-Some.next c.in-Some.ensures.items c.loop-next.invariant.each

pub loop-next-preserved : goal.loop-next-preserved
loop-next-preserved g c =
    goes_on c.args.queue.now c.args.passes.items c.loop-next.passes.items c.pop-in-loop-next.new.self.items c.in-Some.next c.loop-next.all c.join-all.result c.in-Some.ensures.items c.loop-next.invariant c.join-all.ensures
