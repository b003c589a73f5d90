use Rattle.std.proofs.Common.{ap}
use Rattle.ahost_tool.proofs.PromiseLemmas.{promise_early, promise_ended, promise_of}
use Rattle.owner_session.proofs.Theorems.{none_back}
use Rattle.ahost_tool.proofs.resolving.resolve.Goals as goal

-- the channel was made
pub returns-in-Ok-clause-promise : goal.returns-in-Ok-clause-promise
returns-in-Ok-clause-promise g c =
    promise_ended _ _ _ c.tell.result _ _ _ _ c.tell.ensures.journal c.tell.ensures.calls
    (promise_of _ _ _ c.in-Ok.ended _ _ _ c.in-Ok.ensures.promise (rw c.in-Ok.ensures.options at c.tell.ensures.put))

pub returns-in-Ok-clause-bodies : goal.returns-in-Ok-clause-bodies
returns-in-Ok-clause-bodies g c = rw c.tell.ensures.journal c.in-Ok.ensures.bodies

-- memory was wanting for it
pub returns-in-Err : goal.returns-in-Err
returns-in-Err g c = record {
  promise = rw (c.early.ensures, c.number.ensures, c.in-Err.ensures.unmade.1) (promise_early _ _ _ _);
  bodies = rw c.in-Err.ensures.unmade.0 (none_back g.B.Done.name g.B.Done.told g.B.Done.refusal _ _ (ap (λ ended. ended.journal) c.early.ensures));
  origin = ap g.W.World.origin c.in-Err.ensures.unmade.1;
}
