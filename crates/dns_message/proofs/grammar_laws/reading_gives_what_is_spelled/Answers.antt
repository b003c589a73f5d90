use Rattle.dns_message.proofs.GrammarLemmas.{reading_spells}
use Rattle.dns_message.proofs.grammar_laws.reading_gives_what_is_spelled.Goals as goal

pub returns : goal.returns
returns c = reading_spells
