use Rattle.channel_session.proofs.StepLemmas.{over_settled, stalled_settled, taken_settled}
use Rattle.channel_session.proofs.session.settle.Goals as goal

pub returns-in-Some : goal.returns-in-Some
returns-in-Some g c = λ sitting log faults.
    taken_settled g.D.Token.Token.plan g.D.Token.Token.name c.in-Some.ticket _ _ sitting log (rw c.in-Some.is at c.take.ensures.done) (rw c.in-Some.is at c.take.ensures.named)

pub returns-in-Pending : goal.returns-in-Pending
returns-in-Pending g c = λ sitting log faults.
    let left = rw c.in-Pending.is at c.left_on.ensures.is_left in
    stalled_settled g.D.Token.Token.plan _ _ _ sitting log (rw c.in-None.is at c.take.ensures.done) c.left_on.ensures.looked (λ over. left over.0)

pub returns-in-Ready : goal.returns-in-Ready
returns-in-Ready g c = λ sitting log faults.
    let left = rw c.in-Ready.is at c.left_on.ensures.is_left in
    stalled_settled g.D.Token.Token.plan _ _ _ sitting log (rw c.in-None.is at c.take.ensures.done) c.left_on.ensures.looked (λ over. left.1 over.1)

pub returns-in-Nothing : goal.returns-in-Nothing
returns-in-Nothing g c = λ sitting log faults.
    over_settled g.D.Token.Token.plan _ _ _ sitting log (rw c.in-None.is at c.take.ensures.done) c.left_on.ensures.looked (rw c.in-Nothing.is at c.left_on.ensures.is_left)
