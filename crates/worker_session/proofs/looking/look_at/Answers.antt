use Rattle.worker_session.proofs.LookLemmas.{looks_nothing, looks_pending, looks_ready}
use Rattle.worker_session.proofs.looking.look_at.Goals as goal

pub returns-then-counts-ne0 : goal.returns-then-counts-ne0
returns-then-counts-ne0 g c = looks_ready _ _ _ c.counts-counts.ensures.done c.if-counts-ne0.true

pub returns-then-counts-ne0-2 : goal.returns-then-counts-ne0-2
returns-then-counts-ne0-2 g c = looks_pending _ _ _ c.counts-counts.ensures.done c.if-counts-ne0.false c.if-counts-ne0-2.true

pub returns-else-counts-ne0-2 : goal.returns-else-counts-ne0-2
returns-else-counts-ne0-2 g c = looks_nothing _ _ _ c.counts-counts.ensures.done c.if-counts-ne0.false c.if-counts-ne0-2.false
