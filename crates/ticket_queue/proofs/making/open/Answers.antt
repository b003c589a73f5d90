use Rattle.ticket_queue.proofs.BalanceLemmas.{begins}
use Rattle.ticket_queue.proofs.making.open.Goals as goal

pub bounded_with-requires-clause-rule : goal.bounded_with-requires-clause-rule
bounded_with-requires-clause-rule g c = begins
