use Rattle.channel_model.proofs.JournalLemmas.{lawful_prefix, lawful_push}
use Rattle.channel_model.proofs.laws.lawful_goes_on.Goals as goal

pub returns-clause-before : goal.returns-clause-before
returns-clause-before c = lawful_prefix

pub returns-clause-more : goal.returns-clause-more
returns-clause-more c = lawful_push
