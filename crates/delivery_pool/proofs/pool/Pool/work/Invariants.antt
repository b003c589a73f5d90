use Rattle.ticket_queue.specs.Passes.{IsAt, MayReceive}
use Rattle.delivery_pool.proofs.SpendingLemmas.{HasWorked}
use Rattle.delivery_pool.proofs.pool.Pool.work.Given as goal

abbrev pub invariant-loop : goal.invariant-loop
invariant-loop g l =
    IsAt l.self.queue l.pass × MayReceive l.pass
    × HasWorked g.S.Spender.spends l.count l.fn.pass (g.S.Spender.state l.fn.spender) l.pass (g.S.Spender.state l.spender)
