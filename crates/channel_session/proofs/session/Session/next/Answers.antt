use Rattle.channel_session.proofs.StepLemmas.{comes_at_most}
use Rattle.channel_session.proofs.session.Session.next.Goals as goal

pub returns-clause-comes_to : goal.returns-clause-comes_to
returns-clause-comes_to g c = comes_at_most g.D.Token.Token.plan g.D.Token.Token.name _ _ _ _ c.next_within.result _ _ c.next_within.ensures.comes_by
