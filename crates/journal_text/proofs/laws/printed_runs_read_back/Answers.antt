use Rattle.journal_text.proofs.TextLemmas.{read_back}
use Rattle.journal_text.proofs.laws.printed_runs_read_back.Goals as goal

pub returns : goal.returns
returns c = read_back
