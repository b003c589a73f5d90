use Rattle.pooled_places.proofs.DeliveryLemmas.{drains_at}
use Rattle.pooled_places.proofs.pool.ChannelPool.drain.Goals as goal

pub returns : goal.returns
returns g c = drains_at c.args.passes.items c.drain.result (c.args.deliverer.now.orders, c.args.deliverer.now.place) (c.drain.new.spender.orders, c.drain.new.spender.place) c.drain.ensures
