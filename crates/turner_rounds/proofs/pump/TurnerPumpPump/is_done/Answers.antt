use Rattle.std.proofs.Common.{refl}
use Rattle.turner_rounds.proofs.PumpLemmas.{pumps_still}
use Rattle.turner_rounds.proofs.pump.TurnerPumpPump.is_done.Goals as goal

pub returns-clause-goes : goal.returns-clause-goes
returns-clause-goes g c = pumps_still _

pub returns-clause-steps : goal.returns-clause-steps
returns-clause-steps g c = (record { turner = c.has_ended.ensures.steps; owner = refl }, c.has_ended.ensures.origin)

pub returns-clause-ends : goal.returns-clause-ends
returns-clause-ends g c = c.has_ended.ensures.ended
