use Rattle.std.proofs.Common.{refl}
use Rattle.channel_fleet.proofs.SteerLemmas.{goes_deliver}
use Rattle.channel_fleet.proofs.steersman.Steersman.deliver_first.Goals as goal

pub returns-clause-goes : goal.returns-clause-goes
returns-clause-goes g c = goes_deliver _ _ c.deliver_one.result _ _ c.deliver_one.ensures refl
