use Rattle.std.proofs.Common.{ap, subst}
use Rattle.test_nameserver.specs.PeerLog.{IsLogOf}
use Rattle.ahost_tool.proofs.LoadingLemmas.{early_load, load_run}
use Rattle.owner_session.proofs.Theorems.{none_back}
use Rattle.ahost_tool.proofs.loading.load.Goals as goal

-- the network was made
pub returns-clause-load : goal.returns-clause-load
returns-clause-load g c = load_run c.args.load _ c.args.turns _ _ _ _ _ c.resolve-run.new.world _ _ c.in-Ok.ensures.0 c.in-Ok.ensures.1 c.in-Ok.ensures.2 c.empty.ensures (rw c.into_vec.ensures at c.resolve-run.ensures.promise) c.resolve-run.ensures.origin
    (subst (IsLogOf c.resolve-run.new.world.zone c.resolve-run.new.world.seed) c.log.ensures.told c.log.ensures.made)

-- memory was wanting for it
pub returns-in_default-clause-load : goal.returns-in_default-clause-load
returns-in_default-clause-load g c = rw (c.early.ensures, c.number.ensures) (early_load _ _ _ _)

-- ---- the bodies

pub returns-in_default-clause-bodies : goal.returns-in_default-clause-bodies
returns-in_default-clause-bodies g c = none_back g.B.Done.name g.B.Done.told g.B.Done.refusal _ _ (ap (λ ended. ended.journal) c.early.ensures)
