use Rattle.dns_message.proofs.TextFaultLemmas.{text_ends, labels_end}
use Rattle.dns_message.proofs.fault_laws.names_end_at_the_first_fault.Goals as goal

pub returns-clause-text : goal.returns-clause-text
returns-clause-text c = text_ends

pub returns-clause-labels : goal.returns-clause-labels
returns-clause-labels c = labels_end
