use Rattle.status_laws.proofs.LegLemmas.{ended_by, ended_since}
use Rattle.status_laws.proofs.laws.each_leg_ends_by_an_entry.Goals as goal

pub returns-clause-comes : goal.returns-clause-comes
returns-clause-comes c = ended_by

pub returns-clause-stays : goal.returns-clause-stays
returns-clause-stays c = ended_since
