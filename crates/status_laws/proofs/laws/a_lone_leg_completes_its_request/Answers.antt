use Rattle.status_laws.proofs.CompletingLemmas.{refused_completes, timed_out_completes}
use Rattle.status_laws.proofs.laws.a_lone_leg_completes_its_request.Goals as goal

pub returns-clause-timed_out : goal.returns-clause-timed_out
returns-clause-timed_out c = timed_out_completes

pub returns-clause-link_failed : goal.returns-clause-link_failed
returns-clause-link_failed c = refused_completes
