use Rattle.event_runner.proofs.Base.{refl, ◌∙◌, [], ◌∷◌, Ended, Close, Receive}
use Rattle.event_runner.proofs.CallLemmas.{log_trans}
use Rattle.event_runner.proofs.GoesLemmas.{ends_err}
use Rattle.event_runner.proofs.ReceiveLemmas.{cut_close, cut_item, end_loss, hears_loss, passes_end}
use Rattle.event_runner.proofs.RowLemmas.{found_row}
use Rattle.event_runner.proofs.receiving.take_end.Goals as goal

pub returns-in_err-fault-in-Some-clause-goes : goal.returns-in_err-fault-in-Some-clause-goes
returns-in_err-fault-in-Some-clause-goes g c = λ before log.
    let call = c.in_err-fault-in-Some.ensures.done in
    ends_err _ _ _ c.from_residual.ensures.0 _ _ (cut_item _ _ _ (Ended c.args.number) _ refl log call call.meant)

pub returns-in_err-close-in-Some-clause-goes : goal.returns-in_err-close-in-Some-clause-goes
returns-in_err-close-in-Some-clause-goes g c = λ before log.
    let found = found_row _ _ _ _ c.index.result.now c.deref.ensures.value c.in-Some.ensures c.index.ensures in
    ends_err _ _ _ c.from_residual-in_err-close-in-Some.ensures.0 _ _
    (cut_close _ _ _ (Ended c.args.number) _ (end_loss _) _ c.index.result.now _ _ found.0 found.1 (c.in_err-close-in-Some.ensures.log ∙ log) (rw c.server-server.ensures at c.in_ok-fault-in-Some.ensures.done))

pub returns-in_ok-close-in-Some-clause-goes : goal.returns-in_ok-close-in-Some-clause-goes
returns-in_ok-close-in-Some-clause-goes g c = λ before log.
    let found = found_row _ _ _ _ c.index.result.now c.deref.ensures.value c.in-Some.ensures c.index.ensures in
    hears_loss _ _ _ (Ended c.args.number) _ (end_loss _) _ c.index.result.now _ _ found.0 c.remove.ensures.by_index.2 refl refl found.1
    (log_trans (Receive (Ended c.args.number) ∷ []) (Close c.args.number ∷ []) _ _ _ log c.in_ok-close-in-Some.ensures.log) (rw c.server-server.ensures at c.in_ok-fault-in-Some.ensures.done)

pub returns-in-None-clause-goes : goal.returns-in-None-clause-goes
returns-in-None-clause-goes g c = λ before log.
    passes_end _ _ _ c.args.number (rw c.deref.ensures.value at c.in-None.ensures) refl (record { rows = refl; told = refl; mix = refl }) log
