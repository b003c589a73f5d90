use Rattle.std.proofs.Common.{refl}
use Rattle.worker_rounds.proofs.GoingLemmas.{still_freely}
use Rattle.worker_rounds.proofs.pump.IdlePump.step.Goals as goal

pub returns-clause-goes : goal.returns-clause-goes
returns-clause-goes g c = still_freely (g.D.Desk.known c.args._desk.now) (g.D.Desk.known c.args._desk.now) refl
