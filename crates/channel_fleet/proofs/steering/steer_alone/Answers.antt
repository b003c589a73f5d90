use Rattle.std.proofs.Common.{◌∙◌, sym}
use Rattle.channel_fleet.proofs.StandLemmas.{serves_alone}
use Rattle.channel_fleet.proofs.steering.steer_alone.Goals as goal

pub returns-clause-serves : goal.returns-clause-serves
returns-clause-serves g c =
    let parts = c.into_parts-helm.ensures in
    serves_alone g.W.World.log g.W.World.wait_faults c.args.turns c.new.result c.steer_first-stand.result c.args.helm c.into_parts-helm.result.0 c.args.world c.into_parts-helm.result.1 c.in-Some.end c.new.ensures.helm c.new.ensures.world parts.0 parts.1 (sym parts.2 ∙ c.in-Some.is) c.steer_first-stand.ensures.serves
