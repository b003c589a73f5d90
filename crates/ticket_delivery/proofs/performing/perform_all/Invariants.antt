use Rattle.std.proofs.Common.{◌≡◌, length}
use Rattle.ticket_delivery.proofs.PerformLemmas.{HasPerformed}
use Rattle.ticket_delivery.proofs.performing.perform_all.Given as goal

-- the commands so far were performed, and the orders are as they were
abbrev pub invariant-loop-command : goal.invariant-loop-command
invariant-loop-command g l =
    (l.hand.orders ≡ l.fn.hand.orders) × HasPerformed l.fn.hand.commands l.hand.commands l.by (g.D.CommandDesk.known l.fn.desk) (g.D.CommandDesk.known l.desk) l.lost

abbrev pub decreases-loop-command : goal.decreases-loop-command
decreases-loop-command g l = length l.hand.commands
