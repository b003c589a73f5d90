use Rattle.std.proofs.Common.{subst}
use Rattle.test_nameserver.specs.PeerLog.{IsLogOf}
use Rattle.ahost_workers.proofs.LoadLemmas.{early_load, load_run}
use Rattle.ahost_workers.proofs.loading.load_with.Goals as goal

-- memory was wanting for the network
pub returns-in_default : goal.returns-in_default
returns-in_default g c = rw (c.early.ensures, c.number.ensures) (early_load _ _ _ _ _)

-- the network was made
pub returns : goal.returns
returns g c = load_run c.args.workers c.args.load _ c.args.turns _ _ _ _ _ c.resolve_with-ended.result.1 _ _ c.in-Ok.ensures.0 c.in-Ok.ensures.1 c.in-Ok.ensures.2 c.empty.ensures c.resolve_with-ended.ensures.promise c.resolve_with-ended.ensures.origin
    (subst (IsLogOf c.resolve_with-ended.result.1.zone c.resolve_with-ended.result.1.seed) c.log.ensures.told c.log.ensures.made)
