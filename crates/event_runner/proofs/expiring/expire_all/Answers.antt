use Rattle.event_runner.proofs.Base.{arith, refl}
use Rattle.event_runner.proofs.ExpireLemmas.{expires_all, expires_more, expires_most, expires_none, expires_one, expires_so_far, expires_stop}
use Rattle.event_runner.proofs.GoesLemmas.{ends_err}
use Rattle.event_runner.proofs.expiring.expire_all.Goals as goal

pub loop-expired-init : goal.loop-expired-init
loop-expired-init g c = λ kept log. expires_so_far _ _

pub returns-in_err-expire : goal.returns-in_err-expire
returns-in_err-expire g c = record {
  goes = λ kept log. ends_err _ _ _ c.from_residual.ensures.0 _ _ (expires_stop _ _ (omega arith) _ _ _ _ (c.loop-expired.invariant kept log) refl c.in_err-expire.ensures.done);
}

pub returns-in-NotDue : goal.returns-in-NotDue
returns-in-NotDue g c = record {
  goes = λ kept log. expires_all _ _ (omega arith) _ _ _ (c.loop-expired.invariant kept log) (expires_none _ _ _ refl refl refl refl (rw c.in-NotDue.is at c.in_ok-expire.ensures.done));
}

pub returns : goal.returns
returns g c = record { goes = λ kept log. expires_most _ _ (omega arith) _ _ (c.loop-expired.invariant kept log) }

pub loop-expired-preserved : goal.loop-expired-preserved
loop-expired-preserved g c = λ kept log.
    expires_more _ _ _ _ _ (c.loop-expired.invariant kept log)
    (expires_one _ _ _ c.in-Expired.number c.in-Expired.leg refl refl refl refl (rw c.in-Expired.is at c.in_ok-expire.ensures.done))
