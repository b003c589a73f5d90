use Rattle.std.proofs.Common.{rules}
use Rattle.ticket_queue.proofs.BalanceLemmas.{sends, unread}
use Rattle.ticket_queue.proofs.queue.Queue.send.Goals as goal

pub send_as-requires-clause-rule : goal.send_as-requires-clause-rule
send_as-requires-clause-rule g c = (sends _ _ _ _ (search rules), unread _ _ (search rules))
