use Rattle.channel_session.proofs.ClockLemmas.{reads_clock}
use Rattle.channel_session.proofs.session.Session.read_clock.Goals as goal

pub returns-clause-reads : goal.returns-clause-reads
returns-clause-reads g c = reads_clock c.now.result _ _ _ c.now.ensures.log
