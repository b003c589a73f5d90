use Rattle.status_laws.proofs.CauseLemmas.{has_number}
use Rattle.status_laws.proofs.EntryLemmas.{completed, completed_once, completed_since}
use Rattle.status_laws.proofs.laws.each_answer_has_one_entry.Goals as goal

pub returns-clause-comes : goal.returns-clause-comes
returns-clause-comes c = completed

pub returns-clause-stays : goal.returns-clause-stays
returns-clause-stays c = completed_since

pub returns-clause-once : goal.returns-clause-once
returns-clause-once c = completed_once

pub returns-clause-number : goal.returns-clause-number
returns-clause-number c = has_number
