use Rattle.pooled_places.proofs.DeliveryLemmas.{works_at}
use Rattle.pooled_places.proofs.pool.ChannelPool.work.Goals as goal

pub returns : goal.returns
returns g c = works_at c.work.result c.args.pass.now (c.args.deliverer.now.orders, c.args.deliverer.now.place) c.work.new.pass (c.work.new.spender.orders, c.work.new.spender.place) c.work.ensures
