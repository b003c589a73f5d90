use Rattle.event_runner.proofs.Base.{blank}
use Rattle.event_runner.proofs.ClosedLemmas.{takes}
use Rattle.event_runner.proofs.tests.closed_desk.ClosedDeskDesk.take.Goals as goal

pub returns : goal.returns
returns c = record { done = takes c.args.self.now c.is_closed.ensures (λ (quiet : Unit {0}). blank 0); named = tt }
