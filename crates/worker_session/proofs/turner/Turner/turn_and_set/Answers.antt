use Rattle.std.proofs.Common.{arith, inl}
use Rattle.worker_session.proofs.WayLemmas.{answers_set}
use Rattle.worker_session.proofs.WayLemmas.{steps_then}
use Rattle.worker_session.proofs.turner.Turner.turn_and_set.Goals as goal

pub returns-then-turn-clause-steps : goal.returns-then-turn-clause-steps
returns-then-turn-clause-steps g c = steps_then _ _ _ c.turn.ensures.steps c.set_later.ensures.steps

pub returns-then-turn-clause-answer : goal.returns-then-turn-clause-answer
returns-then-turn-clause-answer g c = answers_set c.set_later.result _ _ (omega (arith, (c.turn.ensures.turned c.if-turn.true).1, c.set_later.ensures.same.0)) c.set_later.ensures.ended

pub returns-else-turn-clause-answer : goal.returns-else-turn-clause-answer
returns-else-turn-clause-answer g c = inl (c.turn.ensures.ended c.if-turn.false)
