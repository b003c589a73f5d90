use Rattle.dns_rdata.proofs.SpellingLemmas.{name_spelled, name_is, strings_spelled, strings_are}
use Rattle.dns_rdata.proofs.laws.parts_are_as_spelled.Goals as goal

pub returns-clause-name : goal.returns-clause-name
returns-clause-name c = name_spelled

pub returns-clause-name_alone : goal.returns-clause-name_alone
returns-clause-name_alone c = name_is

pub returns-clause-strings : goal.returns-clause-strings
returns-clause-strings c = strings_spelled

pub returns-clause-strings_alone : goal.returns-clause-strings_alone
returns-clause-strings_alone c = strings_are
