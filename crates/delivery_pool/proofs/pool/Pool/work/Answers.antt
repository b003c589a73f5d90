use Rattle.std.proofs.Common.{◌∙◌, ◌<◌, ap, subst, sym}
use Rattle.ticket_queue.specs.Passes.{PassState}
use Rattle.delivery_pool.specs.declared.message.Message.{Message}
use Rattle.delivery_pool.proofs.SpendingLemmas.{works_more}
use Rattle.delivery_pool.proofs.pool.Pool.work.Goals as goal

pub loop-preserved : goal.loop-preserved
loop-preserved g c =
    let i = c.loop.invariant in
    let received = c.in-Ticket.ensures in (
      (ap (λ (p : PassState (Message g.row.T.Denot)). p.table) received ∙ i.0.0, ap (λ (p : PassState (Message g.row.T.Denot)). p.key) received ∙ i.0.1),
      subst (λ n. 0 < n) (sym (ap (λ (p : PassState (Message g.row.T.Denot)). p.share) received)) i.1,
      works_more g.S.Spender.spends c.loop.count c.spend_ticket-count.result c.in-Ticket.ticket c.args.pass.now c.loop.pass c.receive.new.pass (g.S.Spender.state c.args.spender.now) (g.S.Spender.state c.loop.spender)
          (g.S.Spender.state c.spend_ticket-count.new.spender) i.2 received c.spend_ticket-count.ensures,
    )
