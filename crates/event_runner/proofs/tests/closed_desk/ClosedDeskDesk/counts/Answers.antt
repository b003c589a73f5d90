use Rattle.event_runner.proofs.ClosedLemmas.{tells_counts}
use Rattle.event_runner.proofs.tests.closed_desk.ClosedDeskDesk.counts.Goals as goal

pub returns : goal.returns
returns c = record { done = tells_counts c.args.self.now c.is_closed.ensures }
