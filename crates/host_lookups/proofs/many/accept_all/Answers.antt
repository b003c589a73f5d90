use Rattle.host_lookups.proofs.ExtendLemmas.{extends_none, extends_then}
use Rattle.host_lookups.proofs.ManyLemmas.{asked_next}
use Rattle.host_lookups.proofs.StandingLemmas.{still_none, still_then}
use Rattle.host_lookups.proofs.many.accept_all.Goals as goal

pub loop-index-init : goal.loop-index-init
loop-index-init c = record { adds = c.requires.new.empty; extends = extends_none _; stands = still_none _; silent = c.requires.new.silent }

pub loop-index-preserved : goal.loop-index-preserved
loop-index-preserved c = record {
  adds = asked_next _ _ _ _ _ _ _ _ c.loop-index-test.true c.in_ok-script_at.ensures c.loop-index.invariant.adds c.in_ok-accept.ensures.adds;
  extends = extends_then _ _ _ c.loop-index.invariant.extends c.accept.ensures.extends;
  stands = still_then _ _ _ c.loop-index.invariant.stands c.accept.ensures.stands;
  silent = c.accept.ensures.silent;
}

pub returns-in_err-accept-clause-extends : goal.returns-in_err-accept-clause-extends
returns-in_err-accept-clause-extends c = extends_then _ _ _ c.loop-index.invariant.extends c.accept.ensures.extends

pub returns-in_err-accept-clause-stands : goal.returns-in_err-accept-clause-stands
returns-in_err-accept-clause-stands c = still_then _ _ _ c.loop-index.invariant.stands c.accept.ensures.stands
