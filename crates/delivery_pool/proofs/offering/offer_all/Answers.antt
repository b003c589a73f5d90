use Rattle.delivery_pool.proofs.OfferingLemmas.{offered_more}
use Rattle.delivery_pool.proofs.offering.offer_all.Goals as goal

pub loop-ticket-preserved : goal.loop-ticket-preserved
loop-ticket-preserved g c = (
  c.offer_one.ensures.at.0,
  c.offer_one.ensures.at.1,
  offered_more g.S.Spender.spends c.args.pool.now.queue c.args.tickets.now.items c.loop-ticket.tickets.items c.pop_front.new.self.items c.in-Some.ticket c.args.pass.now c.loop-ticket.pass c.offer_one.new.pass (g.S.Spender.state c.args.spender.now) (g.S.Spender.state c.loop-ticket.spender)
      (g.S.Spender.state c.offer_one.new.spender) c.in-Some.ensures.items c.loop-ticket.invariant.2 c.offer_one.ensures.offers,
)
