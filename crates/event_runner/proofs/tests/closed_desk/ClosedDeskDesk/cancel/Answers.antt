use Rattle.event_runner.proofs.ClosedLemmas.{cancels}
use Rattle.event_runner.proofs.tests.closed_desk.ClosedDeskDesk.cancel.Goals as goal

pub returns : goal.returns
returns c = record { done = cancels c.args.self.now c.is_closed.ensures }
