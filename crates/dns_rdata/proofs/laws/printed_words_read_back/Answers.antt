use Rattle.dns_rdata.proofs.WordLemmas.{kind_printed, class_printed}
use Rattle.dns_rdata.proofs.laws.printed_words_read_back.Goals as goal

pub returns-clause-kind : goal.returns-clause-kind
returns-clause-kind c = kind_printed

pub returns-clause-class : goal.returns-clause-class
returns-clause-class c = class_printed
