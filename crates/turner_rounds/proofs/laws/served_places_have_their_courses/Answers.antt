use Rattle.turner_rounds.proofs.ServedLemmas.{are_served}
use Rattle.turner_rounds.proofs.laws.served_places_have_their_courses.Goals as goal

pub returns : goal.returns
returns g c = are_served
