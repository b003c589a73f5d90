use Rattle.std.proofs.Common.{Some, ap, ◌∙◌}
use Rattle.leg_index.proofs.FlightLemmas.{leg_found}
use Rattle.leg_index.proofs.fresh.find_fresh.Goals as goal

pub returns-in-Some : goal.returns-in-Some
returns-in-Some c = ap (λ f. Some f.leg) c.index.ensures ∙ leg_found c.args.id c.args.fresh.now.items c.in-Some.index c.in-Some.ensures c.index.result.now
