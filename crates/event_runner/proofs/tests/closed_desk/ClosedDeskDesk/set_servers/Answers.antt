use Rattle.event_runner.proofs.ClosedLemmas.{sets}
use Rattle.event_runner.proofs.tests.closed_desk.ClosedDeskDesk.set_servers.Goals as goal

pub returns : goal.returns
returns c = record { done = sets c.args.self.now c.is_closed.ensures c.args.arg2.now }
