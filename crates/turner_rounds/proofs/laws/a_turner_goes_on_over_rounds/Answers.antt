use Rattle.turner_rounds.proofs.PumpLemmas.{turned_over}
use Rattle.turner_rounds.proofs.laws.a_turner_goes_on_over_rounds.Goals as goal

pub returns : goal.returns
returns g c = turned_over
