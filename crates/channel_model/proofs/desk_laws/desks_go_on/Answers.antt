use Rattle.channel_model.proofs.DeskLemmas.{adds_goes_on}
use Rattle.channel_model.proofs.desk_laws.desks_go_on.Goals as goal

pub returns-clause-call : goal.returns-clause-call
returns-clause-call c = adds_goes_on
