use Rattle.std.proofs.Common.{refl}
use Rattle.channel_fleet.specs.Steering.{turning_on}
use Rattle.channel_fleet.proofs.SteerLemmas.{goes_one}
use Rattle.channel_fleet.proofs.steersman.Steersman.turn_on.Goals as goal

pub returns-clause-goes : goal.returns-clause-goes
returns-clause-goes g c = goes_one _ _ turning_on _ _ (c.go_on.ensures.steps, refl)
