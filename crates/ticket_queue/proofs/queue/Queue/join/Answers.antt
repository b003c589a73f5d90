use Rattle.ticket_queue.proofs.BalanceLemmas.{merges}
use Rattle.ticket_queue.proofs.queue.Queue.join.Goals as goal

pub absorb-requires-clause-rule : goal.absorb-requires-clause-rule
absorb-requires-clause-rule g c = merges _ _ _ _
