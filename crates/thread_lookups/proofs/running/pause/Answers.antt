use Rattle.thread_lookups.proofs.RunLemmas.{pause_asks_nothing}
use Rattle.thread_lookups.proofs.running.pause.Goals as goal

pub returns-clause-asks : goal.returns-clause-asks
returns-clause-asks g c = pause_asks_nothing _ c.pause.result c.args.place.now c.pause.new.desk _ _ c.pause.ensures.pauses
