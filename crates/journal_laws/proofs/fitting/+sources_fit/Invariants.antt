use Rattle.std.proofs.Common.{length}
use Rattle.journal_laws.proofs.fitting.+sources_fit.Given as goal

abbrev pub decreases-sources_fit : goal.decreases-sources_fit
decreases-sources_fit l = length l.sources.now
