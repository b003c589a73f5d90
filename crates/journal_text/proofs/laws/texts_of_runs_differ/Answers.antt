use Rattle.journal_text.proofs.TextLemmas.{texts_once}
use Rattle.journal_text.proofs.laws.texts_of_runs_differ.Goals as goal

pub returns : goal.returns
returns c = texts_once
