use Rattle.channel_model.proofs.LawfulLemmas.{waiting_is_idle}
use Rattle.channel_model.proofs.laws.ended_legs_rest.Goals as goal

pub returns-clause-waits : goal.returns-clause-waits
returns-clause-waits c = waiting_is_idle
