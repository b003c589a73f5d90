use Rattle.std.proofs.Common.{length}
use Rattle.shared_channel_bench.proofs.alone.clear.Given as goal

abbrev pub decreases-loop-command : goal.decreases-loop-command
decreases-loop-command l = length l.hand.commands
