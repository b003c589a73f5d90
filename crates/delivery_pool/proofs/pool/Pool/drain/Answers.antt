use Rattle.delivery_pool.proofs.SpendingLemmas.{drains}
use Rattle.delivery_pool.proofs.pool.Pool.drain.Goals as goal

pub returns : goal.returns
returns g c = drains g.S.Spender.spends c.args.passes.items c.join_all-all.result c.spend_rest.result (g.S.Spender.state c.args.spender.now) (g.S.Spender.state c.spend_rest.new.spender) c.join_all-all.ensures.joined c.spend_rest.ensures
