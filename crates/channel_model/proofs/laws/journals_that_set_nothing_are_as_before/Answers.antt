use Rattle.channel_model.proofs.OpeningServersLemmas.{plain_starts}
use Rattle.channel_model.proofs.laws.journals_that_set_nothing_are_as_before.Goals as goal

pub returns-clause-mix : goal.returns-clause-mix
returns-clause-mix c = plain_starts
