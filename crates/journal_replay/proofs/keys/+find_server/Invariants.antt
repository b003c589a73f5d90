use Rattle.std.proofs.Common.{length}
use Rattle.journal_replay.proofs.keys.+find_server.Given as goal

abbrev pub decreases-find_server : goal.decreases-find_server
decreases-find_server l = length l.servers.now
