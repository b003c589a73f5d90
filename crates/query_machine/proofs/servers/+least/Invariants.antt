use Rattle.std.proofs.Common.{length}
use Rattle.query_machine.proofs.servers.+least.Given as goal

-- what is left to look at
abbrev pub decreases-least : goal.decreases-least
decreases-least l = length l.counts.now
