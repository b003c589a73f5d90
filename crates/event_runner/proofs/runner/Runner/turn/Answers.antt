use Rattle.event_runner.proofs.Base.{refl}
use Rattle.event_runner.proofs.TurnLemmas.{unread}
use Rattle.event_runner.proofs.runner.Runner.turn.Goals as goal

pub returns-then-self-clause-goes : goal.returns-then-self-clause-goes
returns-then-self-clause-goes g c = unread _ _ refl refl
