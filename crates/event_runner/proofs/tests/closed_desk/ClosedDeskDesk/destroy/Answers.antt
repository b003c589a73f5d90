use Rattle.event_runner.proofs.ClosedLemmas.{destroys}
use Rattle.event_runner.proofs.tests.closed_desk.ClosedDeskDesk.destroy.Goals as goal

pub returns : goal.returns
returns c = record { done = destroys c.args.self.now c.is_closed.ensures }
