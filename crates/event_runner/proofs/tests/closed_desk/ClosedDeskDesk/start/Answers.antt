use Rattle.event_runner.proofs.ClosedLemmas.{idles}
use Rattle.event_runner.proofs.tests.closed_desk.ClosedDeskDesk.start.Goals as goal

pub returns : goal.returns
returns c = record { done = idles c.args.self.now c.is_closed.ensures c.args.arg2 c.args.arg3 c.args.arg4 }
