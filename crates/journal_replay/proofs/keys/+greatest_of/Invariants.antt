use Rattle.std.proofs.Common.{length}
use Rattle.journal_replay.proofs.keys.+greatest_of.Given as goal

abbrev pub decreases-greatest_of : goal.decreases-greatest_of
decreases-greatest_of l = length l.servers.now
