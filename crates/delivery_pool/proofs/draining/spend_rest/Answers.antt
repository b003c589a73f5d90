use Rattle.std.proofs.Common.{◌∙◌, ap}
use Rattle.ticket_queue.specs.Passes.{PassState}
use Rattle.delivery_pool.specs.declared.message.Message.{Message}
use Rattle.delivery_pool.proofs.SpendingLemmas.{rest_ends, rest_more}
use Rattle.delivery_pool.proofs.draining.spend_rest.Goals as goal

pub returns-in_default : goal.returns-in_default
returns-in_default g c =
    rest_ends g.S.Spender.spends c.loop.count c.args.all.now c.loop.all (g.S.Spender.state c.args.spender.now) (g.S.Spender.state c.loop.spender) c.loop.invariant.2 c.in_default.ensures.empty.1

pub loop-preserved : goal.loop-preserved
loop-preserved g c =
    let i = c.loop.invariant in
    let received = c.in-Some-receive_rest.ensures.received in (
      (ap (λ (p : PassState (Message g.row.T.Denot)). p.table) received ∙ i.0.0, ap (λ (p : PassState (Message g.row.T.Denot)). p.key) received ∙ i.0.1),
      ap (λ (p : PassState (Message g.row.T.Denot)). p.share) received ∙ i.1,
      rest_more g.S.Spender.spends c.in-Some-receive_rest.message c.loop.count c.spend_message-count.result c.args.all.now c.loop.all c.receive_rest.new.pass (g.S.Spender.state c.args.spender.now) (g.S.Spender.state c.loop.spender)
          (g.S.Spender.state c.spend_message-count.new.spender) i.2 received c.spend_message-count.ensures,
    )
