use Rattle.std.proofs.Common.{inl, inr}
use Rattle.worker_session.proofs.WayLemmas.{answers_from}
use Rattle.worker_session.proofs.StepLemmas.{steps_looked}
use Rattle.worker_session.proofs.WayLemmas.{steps_then}
use Rattle.worker_session.proofs.turner.Turner.go_further.Goals as goal

pub returns-in-Ready-clause-steps : goal.returns-in-Ready-clause-steps
returns-in-Ready-clause-steps g c = steps_then _ _ _ c.set_later.ensures.steps (steps_looked _ _ c.look_at.ensures.looked (c.set_later.ensures.set c.if-not-set_later.false))

pub returns-in-Pending-clause-steps : goal.returns-in-Pending-clause-steps
returns-in-Pending-clause-steps g c = steps_then _ _ _ c.set_later.ensures.steps (steps_then _ _ _ (steps_looked _ _ c.look_at.ensures.looked (c.set_later.ensures.set c.if-not-set_later.false)) c.rest_or_turn.ensures.steps)

pub returns-in-Nothing-clause-steps : goal.returns-in-Nothing-clause-steps
returns-in-Nothing-clause-steps g c = steps_then _ _ _ c.set_later.ensures.steps (steps_looked _ _ c.look_at.ensures.looked (c.set_later.ensures.set c.if-not-set_later.false))

pub returns-then-not-set_later-clause-answer : goal.returns-then-not-set_later-clause-answer
returns-then-not-set_later-clause-answer g c = inl (c.set_later.ensures.ended c.if-not-set_later.true)

pub returns-in-Ready-clause-answer : goal.returns-in-Ready-clause-answer
returns-in-Ready-clause-answer g c = inl (rw c.in-Ready.is at c.look_at.ensures.there)

pub returns-in-Pending-clause-answer : goal.returns-in-Pending-clause-answer
returns-in-Pending-clause-answer g c = answers_from c.rest_or_turn.result _ _ _ c.set_later.ensures.same.1 c.set_later.ensures.same.0 c.rest_or_turn.ensures.answer

pub returns-in-Nothing-clause-answer : goal.returns-in-Nothing-clause-answer
returns-in-Nothing-clause-answer g c = inr (rw c.in-Nothing.is at c.look_at.ensures.there)
