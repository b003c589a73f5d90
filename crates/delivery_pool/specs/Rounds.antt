-- What each thread of a round does.
use Rattle.std.specs.Prelude.{[], ◌≡◌}
use Rattle.delivery_pool.specs.declared.offering.Sender.{Sender}
use Rattle.delivery_pool.specs.declared.working.Worker.{Worker}
use Rattle.delivery_pool.specs.Spending.{OffersAll, Works}

module _ {T S State : Type 0} (spends : State → T → State → Type 0) (state : S → State) where
  -- a worker spent tickets until a stop came
  abbrev pub WorkersPart : Worker T S → Worker T S → Type 0
  WorkersPart old new = Works spends new.count old.pass (state old.spender) new.pass (state new.spender)

  -- the sender offered all of its tickets, and told the workers to stop
  abbrev pub SendersPart : Sender T S → Sender T S → Type 0
  SendersPart old new = (new.tickets.items ≡ []) × OffersAll spends old.pool.now old.tickets.items old.pass (state old.spender) new.pass (state new.spender)
