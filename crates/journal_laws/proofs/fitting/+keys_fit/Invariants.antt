use Rattle.std.proofs.Common.{length}
use Rattle.journal_laws.proofs.fitting.+keys_fit.Given as goal

abbrev pub decreases-keys_fit : goal.decreases-keys_fit
decreases-keys_fit l = length l.list.now
