use Rattle.worker_session.proofs.StepLemmas.{steps_looked}
use Rattle.worker_session.proofs.turner.Turner.is_over.Goals as goal

pub returns-in-Nothing-clause-steps : goal.returns-in-Nothing-clause-steps
returns-in-Nothing-clause-steps g c = steps_looked _ _ c.look_at.ensures.looked c.requires.under_way

pub returns-in-Ready-clause-steps : goal.returns-in-Ready-clause-steps
returns-in-Ready-clause-steps g c = steps_looked _ _ c.look_at.ensures.looked c.requires.under_way

pub returns-in-Pending-clause-steps : goal.returns-in-Pending-clause-steps
returns-in-Pending-clause-steps g c = steps_looked _ _ c.look_at.ensures.looked c.requires.under_way
