use Rattle.event_runner.proofs.ClosedLemmas.{tells_busy}
use Rattle.event_runner.proofs.tests.closed_desk.ClosedDeskDesk.link_busy.Goals as goal

pub returns : goal.returns
returns c = record { done = tells_busy c.args.self.now c.is_closed.ensures _ _ }
