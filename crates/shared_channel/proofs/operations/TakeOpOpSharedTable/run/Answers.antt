use Rattle.shared_channel.proofs.Adding.{adds_from}
use Rattle.shared_channel.proofs.operations.TakeOpOpSharedTable.run.Goals as goal

pub returns-clause-adds : goal.returns-clause-adds
returns-clause-adds g c = adds_from c.args.seat 0 c.args.state.now.table.value c.deref_mut.result.now c.take.new.self c.take.ensures.done.added c.deref_mut.ensures.value c.take.ensures.done.journal
