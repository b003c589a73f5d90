use Rattle.std.proofs.Common.{length}
use Rattle.ticket_queue.specs.Passes.{IsAt, MaySend}
use Rattle.delivery_pool.proofs.OfferingLemmas.{HasOffered}
use Rattle.delivery_pool.proofs.offering.offer_all.Given as goal

abbrev pub invariant-loop-ticket : goal.invariant-loop-ticket
invariant-loop-ticket g l =
    IsAt l.pool.queue l.pass × MaySend l.pass
    × HasOffered g.S.Spender.spends l.pool.queue l.fn.tickets.items l.tickets.items l.fn.pass (g.S.Spender.state l.fn.spender) l.pass (g.S.Spender.state l.spender)

abbrev pub decreases-loop-ticket : goal.decreases-loop-ticket
decreases-loop-ticket g l = length l.tickets.items
