use Rattle.std.proofs.Common.{rules}
use Rattle.ticket_queue.proofs.BalanceLemmas.{sends, unread}
use Rattle.ticket_queue.proofs.queue.Queue.try_send.Goals as goal

pub try_send_as-requires-clause-rule : goal.try_send_as-requires-clause-rule
try_send_as-requires-clause-rule g c = (sends _ _ _ _ (search rules), unread _ _ (search rules))
