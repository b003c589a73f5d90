use Rattle.event_runner.proofs.Base.{refl}
use Rattle.event_runner.proofs.PauseLemmas.{looked_none}
use Rattle.event_runner.proofs.runner.Runner.pause.Goals as goal

pub returns-then-self-clause-pauses : goal.returns-then-self-clause-pauses
returns-then-self-clause-pauses g c = (looked_none _, refl)
