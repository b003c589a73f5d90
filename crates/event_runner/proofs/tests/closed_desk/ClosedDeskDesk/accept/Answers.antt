use Rattle.event_runner.proofs.Base.{blank}
use Rattle.event_runner.proofs.ClosedLemmas.{refuses}
use Rattle.event_runner.proofs.tests.closed_desk.ClosedDeskDesk.accept.Goals as goal

pub returns : goal.returns
returns c = record { done = refuses c.args.self.now c.is_closed.ensures (λ (quiet : Unit {0}). blank 0) c.args.spec c.args.token; named = tt }
