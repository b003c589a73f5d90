use Rattle.channel_model.proofs.LawfulLemmas.{position_of_flight}
use Rattle.channel_model.proofs.laws.flight_is_by_position.Goals as goal

pub returns-clause-only : goal.returns-clause-only
returns-clause-only c = position_of_flight
