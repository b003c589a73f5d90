use Rattle.ticket_queue.specs.Passes.{HasAllShares, IsAt}
use Rattle.delivery_pool.proofs.SpendingLemmas.{HasSpentRest}
use Rattle.delivery_pool.proofs.draining.spend_rest.Given as goal

abbrev pub invariant-loop : goal.invariant-loop
invariant-loop g l =
    IsAt l.queue l.all × HasAllShares l.all
    × HasSpentRest g.S.Spender.spends l.count l.fn.all (g.S.Spender.state l.fn.spender) l.all (g.S.Spender.state l.spender)
