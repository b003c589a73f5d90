use Rattle.std.proofs.Common.{sym, ◌∙◌}
use Rattle.worker_session.proofs.StepLemmas.{closed_now, later_none, set_now, unset_now}
use Rattle.worker_session.proofs.WayLemmas.{steps_none}
use Rattle.worker_session.proofs.turner.Turner.set_later.Goals as goal

pub returns-then-not-self-clause-steps : goal.returns-then-not-self-clause-steps
returns-then-not-self-clause-steps g c = steps_none _

pub returns-in_default-clause-steps : goal.returns-in_default-clause-steps
returns-in_default-clause-steps g c = later_none _ _ c.take.ensures.after (sym c.take.ensures.value ∙ c.in_default.is)

pub returns-in-Ok-clause-steps : goal.returns-in-Ok-clause-steps
returns-in-Ok-clause-steps g c = set_now _ _ _ c.in-Some.servers _ c.requires.under_way c.if-not-self.false (sym c.take.ensures.value ∙ c.in-Some.is) c.as_slice.ensures c.take.ensures.after c.in-Ok.field-0 c.in-Ok.ensures.done

pub returns-in-Err-Closed-clause-steps : goal.returns-in-Err-Closed-clause-steps
returns-in-Err-Closed-clause-steps g c = closed_now _ _ _ c.in-Some.servers _ c.requires.under_way c.if-not-self.false (sym c.take.ensures.value ∙ c.in-Some.is) c.as_slice.ensures c.take.ensures.after c.in-Err-Closed.field-0 c.in-Err-Closed.field-0-is c.in-Err-Closed.ensures.done

pub returns-in-Err-Full-clause-steps : goal.returns-in-Err-Full-clause-steps
returns-in-Err-Full-clause-steps g c = unset_now _ _ _ c.in-Some.servers _ c.requires.under_way c.if-not-self.false (sym c.take.ensures.value ∙ c.in-Some.is) c.as_slice.ensures c.take.ensures.after c.in-Err-Full.field-0 c.in-Err-Full.ensures.done

pub returns-clause-steps : goal.returns-clause-steps
returns-clause-steps g c = unset_now _ _ _ c.in-Some.servers _ c.requires.under_way c.if-not-self.false (sym c.take.ensures.value ∙ c.in-Some.is) c.as_slice.ensures c.take.ensures.after c.in-Err-NoMemory.field-0 c.in-Err-NoMemory.ensures.done
