use Rattle.shared_channel.proofs.Adding.{adds_from}
use Rattle.shared_channel.proofs.running.StartOpOpSharedTable.run.Goals as goal

pub returns-clause-adds : goal.returns-clause-adds
returns-clause-adds g c = adds_from c.args.seat 0 c.args.state.now.table.value c.deref_mut.result.now c.start.new.self c.start.ensures.done.added c.deref_mut.ensures.value c.start.ensures.done.journal
