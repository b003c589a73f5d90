use Rattle.shared_channel.specs.Staying.{StaysSettled}
use Rattle.shared_channel_bench.proofs.held.reply_all_held.Given as goal

abbrev pub invariant-loop : goal.invariant-loop
invariant-loop g l = StaysSettled l.fn.place l.place
