use Rattle.std.proofs.Common.{length}
use Rattle.delivery_pool.proofs.JoiningLemmas.{HasJoined}
use Rattle.delivery_pool.proofs.draining.join_all.Given as goal

abbrev pub invariant-loop-next : goal.invariant-loop-next
invariant-loop-next g l = HasJoined l.queue l.fn.passes.items l.passes.items l.all

abbrev pub decreases-loop-next : goal.decreases-loop-next
decreases-loop-next g l = length l.passes.items
