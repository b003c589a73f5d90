use Rattle.channel_session.proofs.LeftLemmas.{left_nothing, left_pending, left_ready}
use Rattle.channel_session.proofs.left.left_on.Goals as goal

pub returns-then-counts-ne0 : goal.returns-then-counts-ne0
returns-then-counts-ne0 g c = left_pending _ _ _ c.counts-counts.ensures.done c.if-counts-ne0.true

pub returns-then-counts-ne0-2 : goal.returns-then-counts-ne0-2
returns-then-counts-ne0-2 g c = left_ready _ _ _ c.counts-counts.ensures.done c.if-counts-ne0.false c.if-counts-ne0-2.true

pub returns-else-counts-ne0-2 : goal.returns-else-counts-ne0-2
returns-else-counts-ne0-2 g c = left_nothing _ _ _ c.counts-counts.ensures.done c.if-counts-ne0.false c.if-counts-ne0-2.false
