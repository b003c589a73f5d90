use Rattle.std.proofs.Common.{ap, ◌∙◌}
use Rattle.shared_session.specs.Asking.{askings}
use Rattle.ahost_workers.proofs.PromiseLemmas.{promise_early, promise_of, promise_unmade, some_of}
use Rattle.ahost_workers.proofs.RequestLemmas.{asks_the_same}
use Rattle.ahost_workers.proofs.resolving.resolve_with.Goals as goal

-- memory was wanting for the requests
pub returns-in_default-clause-promise : goal.returns-in_default-clause-promise
returns-in_default-clause-promise g c = rw (c.early.ensures, c.number.ensures) (promise_early _ _ _ _ _)

-- or for a channel
pub returns-in_default-session-clause-promise : goal.returns-in_default-session-clause-promise
returns-in_default-session-clause-promise g c =
    rw (c.early-in_default-session.ensures, c.number-in_default-session.ensures) (promise_unmade _ _ _ _ _ _ _ _ _ (c.run_shared-session.ensures.unmade c.in_default-session.is))

-- the channel was made
pub returns-clause-promise : goal.returns-clause-promise
returns-clause-promise g c =
    let asked = ap askings c.in-Ok.ensures.1 ∙ asks_the_same g.B.Done.plan g.B.Done.name c.args.work.specs c.args.work.bodies.items in
    let session = some_of _ _ _ c.in-Some.is c.run_shared-session.ensures.session in
    promise_of _ _ _ _ _ _ _ _ (rw asked at session) _ _ _ (rw c.in-Ok.ensures.0 at c.put_report.ensures) _ _ (some_of _ _ _ c.in-Some.is c.run_shared-session.ensures.wait_fault)
