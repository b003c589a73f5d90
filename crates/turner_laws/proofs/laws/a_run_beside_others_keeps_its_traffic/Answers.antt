use Rattle.turner_laws.proofs.TrafficLemmas.{traffic_kept}
use Rattle.turner_laws.proofs.laws.a_run_beside_others_keeps_its_traffic.Goals as goal

pub returns : goal.returns
returns c = traffic_kept
