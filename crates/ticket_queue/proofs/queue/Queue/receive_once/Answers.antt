use Rattle.std.proofs.Common.{rules}
use Rattle.ticket_queue.proofs.BalanceLemmas.{receives}
use Rattle.ticket_queue.proofs.queue.Queue.receive_once.Goals as goal

pub recv_as-requires-clause-rule : goal.recv_as-requires-clause-rule
recv_as-requires-clause-rule g c = (receives _ _ (search rules), λ messages views held at. tt)
