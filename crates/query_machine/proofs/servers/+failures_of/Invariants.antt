use Rattle.std.proofs.Common.{length}
use Rattle.query_machine.proofs.servers.+failures_of.Given as goal

-- what is left to look at
abbrev pub decreases-failures_of : goal.decreases-failures_of
decreases-failures_of l = length l.counts.now
