use Rattle.dns_message.proofs.FirstFaultLemmas.{reading_ends, nothing_is_a_fault}
use Rattle.dns_message.proofs.grammar_laws.reading_ends_at_the_first_fault.Goals as goal

pub returns-clause-fault : goal.returns-clause-fault
returns-clause-fault c = reading_ends

pub returns-clause-some : goal.returns-clause-some
returns-clause-some c = nothing_is_a_fault
