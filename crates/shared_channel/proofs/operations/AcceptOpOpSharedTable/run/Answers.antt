use Rattle.shared_channel.proofs.Adding.{adds_from}
use Rattle.shared_channel.proofs.operations.AcceptOpOpSharedTable.run.Goals as goal

pub returns-clause-adds : goal.returns-clause-adds
returns-clause-adds g c =
    adds_from c.args.seat c.args.self.by c.args.state.now.table.value c.deref_mut.result.now c.accept.new.self c.accept.ensures.done.added c.deref_mut.ensures.value c.accept.ensures.done.journal
