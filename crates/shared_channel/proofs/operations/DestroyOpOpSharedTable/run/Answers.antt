use Rattle.shared_channel.proofs.Adding.{adds_from}
use Rattle.shared_channel.proofs.operations.DestroyOpOpSharedTable.run.Goals as goal

pub returns-clause-adds : goal.returns-clause-adds
returns-clause-adds g c = adds_from c.args.seat c.args.self.by c.args.state.now.table.value c.deref_mut.result.now c.destroy.new.self c.destroy.ensures.done.added c.deref_mut.ensures.value c.destroy.ensures.done.journal
