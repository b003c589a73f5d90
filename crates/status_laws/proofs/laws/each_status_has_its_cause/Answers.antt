use Rattle.chan_types.specs.declared.status.Status.TheVariants.{Cancelled, ConnRefused, Destruction, TimedOut}
use Rattle.status_laws.proofs.CauseLemmas.{cause_of, has_cause}
use Rattle.status_laws.proofs.laws.each_status_has_its_cause.Goals as goal

pub returns-clause-any : goal.returns-clause-any
returns-clause-any c = has_cause

pub returns-clause-cancelled : goal.returns-clause-cancelled
returns-clause-cancelled c = λ setting request. cause_of setting request Cancelled

pub returns-clause-destroyed : goal.returns-clause-destroyed
returns-clause-destroyed c = λ setting request. cause_of setting request Destruction

pub returns-clause-timed_out : goal.returns-clause-timed_out
returns-clause-timed_out c = λ setting request. cause_of setting request TimedOut

pub returns-clause-link_failed : goal.returns-clause-link_failed
returns-clause-link_failed c = λ setting request. cause_of setting request ConnRefused
