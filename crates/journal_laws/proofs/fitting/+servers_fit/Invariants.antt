use Rattle.std.proofs.Common.{length}
use Rattle.journal_laws.proofs.fitting.+servers_fit.Given as goal

abbrev pub decreases-servers_fit : goal.decreases-servers_fit
decreases-servers_fit l = length l.servers.now
