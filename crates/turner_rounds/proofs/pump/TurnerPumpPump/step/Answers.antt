use Rattle.std.proofs.Common.{refl}
use Rattle.turner_rounds.proofs.PumpLemmas.{pumps_still}
use Rattle.turner_rounds.proofs.pump.TurnerPumpPump.step.Goals as goal

pub returns-clause-goes : goal.returns-clause-goes
returns-clause-goes g c = pumps_still _

pub returns-clause-steps : goal.returns-clause-steps
returns-clause-steps g c = (record { turner = c.go_on.ensures.steps; owner = refl }, c.go_on.ensures.origin)
