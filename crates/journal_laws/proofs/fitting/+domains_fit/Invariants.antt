use Rattle.std.proofs.Common.{length}
use Rattle.journal_laws.proofs.fitting.+domains_fit.Given as goal

abbrev pub decreases-domains_fit : goal.decreases-domains_fit
decreases-domains_fit l = length l.domains.now
