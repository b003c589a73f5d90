use Rattle.adig_tool.proofs.PromiseLemmas.{promise_early, promise_of}
use Rattle.adig_tool.proofs.resolving.resolve.Goals as goal

-- the channel was made
pub returns-in-Ok-bring_to_end-clause-promise : goal.returns-in-Ok-bring_to_end-clause-promise
returns-in-Ok-bring_to_end-clause-promise g c =
    promise_of _ _ _ _ c.in-Ok-bring_to_end.ended _ _
    (rw (c.in-Ok.ensures.specs, c.in-Ok.ensures.bodies, c.in-Ok.ensures.orders, c.in-Ok.ensures.later, c.empty.ensures) at c.in-Ok-bring_to_end.ensures.promise)
    _ _ _ c.in-Ok-bring_to_end.ensures.options c.new.ensures c.tell-status.ensures

-- memory was wanting for it
pub returns-clause-promise : goal.returns-clause-promise
returns-clause-promise g c = rw (c.early-in-Err.ensures, c.number-in-Err.ensures, c.in-Err.ensures.unmade.1) (promise_early _ _ _ _ _)

pub returns-in_default-clause-promise : goal.returns-in_default-clause-promise
returns-in_default-clause-promise g c = rw (c.early.ensures, c.number.ensures) (promise_early _ _ _ _ _)
