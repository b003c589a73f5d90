use Rattle.channel_model.proofs.OrderLemmas.{receives_first}
use Rattle.channel_model.proofs.traffic_laws.a_turn_receives_first.Goals as goal

pub returns : goal.returns
returns c = receives_first
