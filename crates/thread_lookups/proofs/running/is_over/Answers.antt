use Rattle.thread_lookups.proofs.RunLemmas.{counts_ask}
use Rattle.thread_lookups.proofs.running.is_over.Goals as goal

pub returns-then-counts-eq0-clause-asks : goal.returns-then-counts-eq0-clause-asks
returns-then-counts-eq0-clause-asks g c = counts_ask c.counts-counts.result c.args.place.now c.counts-counts.new.self c.counts-counts.ensures.done

pub returns-else-counts-eq0-clause-asks : goal.returns-else-counts-eq0-clause-asks
returns-else-counts-eq0-clause-asks g c = counts_ask c.counts-counts.result c.args.place.now c.counts-counts.new.self c.counts-counts.ensures.done
