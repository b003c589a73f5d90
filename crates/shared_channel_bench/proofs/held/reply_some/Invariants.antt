use Rattle.shared_channel.specs.Staying.{StaysSettled}
use Rattle.shared_channel_bench.proofs.held.reply_some.Given as goal

abbrev pub invariant-loop-replied : goal.invariant-loop-replied
invariant-loop-replied g l = StaysSettled l.fn.held l.held
