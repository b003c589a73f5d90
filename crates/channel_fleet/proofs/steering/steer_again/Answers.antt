use Rattle.channel_fleet.proofs.StandLemmas.{steered_again}
use Rattle.channel_fleet.proofs.steering.steer_again.Goals as goal

pub returns-in-Some-clause-serves : goal.returns-in-Some-clause-serves
returns-in-Some-clause-serves g c =
    steered_again g.W.World.log g.W.World.wait_faults c.args.stand c.steer_with.result _ c.in-Some.runner c.helm.view_is c.requires.done (search c.in-Some.ensures.value) c.steer_with.ensures.steers
