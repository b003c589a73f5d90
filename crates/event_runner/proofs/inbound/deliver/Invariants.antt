use Rattle.event_runner.proofs.Base.{length}
use Rattle.event_runner.proofs.DeliverLemmas.{HasHanded}
use Rattle.event_runner.proofs.inbound.deliver.Given as goal

abbrev pub invariant-loop-end : goal.invariant-loop-end
invariant-loop-end g l = HasHanded l.server l.link l.initial.bytes l.bytes (g.D.Desk.known l.initial.desk) (g.D.Desk.known l.desk)

abbrev pub decreases-loop-end : goal.decreases-loop-end
decreases-loop-end g l = length l.bytes
