use Rattle.std.proofs.Common.{length}
use Rattle.shared_channel.proofs.JoinLemmas.{HasJoined}
use Rattle.shared_channel.proofs.finishing.join_all.Given as goal

-- the passes that aren't left are joined
abbrev pub invariant-loop-next : goal.invariant-loop-next
invariant-loop-next g l = HasJoined l.lock l.fn.passes.items l.passes.items l.all

abbrev pub decreases-loop-next : goal.decreases-loop-next
decreases-loop-next g l = length l.passes.items
