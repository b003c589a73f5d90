use Rattle.worker_rounds.proofs.FeedingLemmas.{fed_more}
use Rattle.worker_rounds.proofs.feeding.feed.Goals as goal

pub loop-preserved : goal.loop-preserved
loop-preserved g c = (
  c.offer_or_spend.ensures.at.0,
  c.offer_or_spend.ensures.at.1,
  fed_more g.S.Source.draws g.S.Source.spends c.args.pool.now.queue c.in-Some-draw.ticket c.args.source.now c.loop.source c.draw.new.self c.offer_or_spend.new.source c.args.pass.now c.loop.pass c.offer_or_spend.new.pass c.loop.invariant.2 c.in-Some-draw.ensures c.offer_or_spend.ensures.feeds,
)
