use Rattle.std.proofs.Common.{◌≡◌}
use Rattle.worker_rounds.specs.Rounds.{HasRun}
use Rattle.worker_rounds.proofs.rounds.run_rounds.Given as goal

-- so far these rounds went, with the orders that there were
abbrev pub invariant-loop : goal.invariant-loop
invariant-loop g l =
    (l.feeder.source.deliverer.orders ≡ l.fn.feeder.source.deliverer.orders)
    × (l.feeder.pool.now ≡ l.fn.feeder.pool.now)
    × HasRun g.P.Pump.steps (λ its. its.place) (λ its. its.orders) l.fn.feeder.source.deliverer.orders (l.fn.feeder.source.deliverer.place, l.fn.feeder.source.pump) l.fn.feeder.pass l.fn.crew.items (l.feeder.source.deliverer.place, l.feeder.source.pump) l.feeder.pass l.crew.items
