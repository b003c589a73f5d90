use Rattle.std.proofs.Common.{rules}
use Rattle.ticket_queue.proofs.BalanceLemmas.{receives, totals}
use Rattle.ticket_queue.proofs.queue.Queue.receive_rest.Goals as goal

pub try_recv_as-requires-clause-rule : goal.try_recv_as-requires-clause-rule
try_recv_as-requires-clause-rule g c = (receives _ _ (search rules), totals _ _ (search rules))
