use Rattle.std.proofs.Common.{rules}
use Rattle.shared_channel.proofs.JoinLemmas.{joins_begin, joins_go_on, next_at}
use Rattle.shared_channel.proofs.finishing.join_all.Goals as goal

pub loop-next-init : goal.loop-next-init
loop-next-init g c =
    joins_begin c.args.lock.now c.args.passes.items c.pop.new.self.items c.unwrap-all.result (search rules) c.look_at.ensures.few c.look_at.ensures.own c.requires.lock

pub join-all-requires-clause-left : goal.join-all-requires-clause-left
join-all-requires-clause-left g c =
    next_at c.args.lock.now c.loop-next.passes.items c.pop-in-loop-next.new.self.items c.in-Some.next c.in-Some.ensures.items c.loop-next.invariant.alone

pub loop-next-preserved : goal.loop-next-preserved
loop-next-preserved g c =
    joins_go_on c.args.lock.now c.args.passes.items c.loop-next.passes.items c.pop-in-loop-next.new.self.items c.in-Some.next c.loop-next.all c.join-all.result c.in-Some.ensures.items c.loop-next.invariant c.join-all.ensures.own c.join-all.ensures.joins
