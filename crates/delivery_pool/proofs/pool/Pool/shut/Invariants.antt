use Rattle.std.proofs.Common.{◌≡◌}
use Rattle.delivery_pool.specs.Pools.{after_stops}
use Rattle.delivery_pool.proofs.pool.Pool.shut.Given as goal

abbrev pub invariant-loop : goal.invariant-loop
invariant-loop g l = l.pass ≡ after_stops l.counter l.fn.pass
