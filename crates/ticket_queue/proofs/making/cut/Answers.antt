use Rattle.std.proofs.Common.{rules}
use Rattle.ticket_queue.proofs.BalanceLemmas.{forks}
use Rattle.ticket_queue.proofs.making.cut.Goals as goal

pub another-token-requires-clause-rule : goal.another-token-requires-clause-rule
another-token-requires-clause-rule g c = forks _ _ (search rules)
