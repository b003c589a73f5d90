use Rattle.event_runner.proofs.ClosedLemmas.{tells_due}
use Rattle.event_runner.proofs.tests.closed_desk.ClosedDeskDesk.next_due.Goals as goal

pub returns : goal.returns
returns c = record { done = tells_due c.args.self.now c.is_closed.ensures }
