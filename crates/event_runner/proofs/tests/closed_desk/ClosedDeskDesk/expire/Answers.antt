use Rattle.event_runner.proofs.ClosedLemmas.{expires}
use Rattle.event_runner.proofs.tests.closed_desk.ClosedDeskDesk.expire.Goals as goal

pub returns : goal.returns
returns c = record { done = expires c.args.self.now c.is_closed.ensures _ }
