use Rattle.channel_model.specs.Meanings.{TellsCounts}
use Rattle.worker_rounds.proofs.GoingLemmas.{looks_freely}
use Rattle.worker_rounds.proofs.pump.IdlePump.is_done.Goals as goal

pub returns-clause-goes : goal.returns-clause-goes
returns-clause-goes g c = looks_freely (TellsCounts c.counts.result) (g.D.Desk.known c.args.desk.now) (g.D.Desk.known c.counts.new.self) c.counts.ensures.done c.counts.ensures.done.meant.nothing
