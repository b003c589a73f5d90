use Rattle.event_runner.proofs.Base.{refl, ◌∙◌, [], ⊎_elim, state_of}
use Rattle.event_runner.proofs.CallLemmas.{log_stays, log_trans}
use Rattle.event_runner.proofs.GoesLemmas.{ends_err}
use Rattle.event_runner.proofs.Outing.{outing}
use Rattle.event_runner.proofs.OutLemmas.{queued_ends, stops_told, stops_untold}
use Rattle.event_runner.proofs.RowLemmas.{found_row, rows_set}
use Rattle.event_runner.proofs.asking.ask.Goals as goal

pub returns-in_err-tell-clause-goes : goal.returns-in_err-tell-clause-goes
returns-in_err-tell-clause-goes g c = λ before word bits number leg id start.
    ends_err _ _ _ c.from_residual.ensures.0 _ _
    (⊎_elim
    (λ same. stops_untold (outing c.args.reading word bits number leg c.args.server c.args.address.now c.args.link id c.args.message.now) _ _ start (same ∙ log_stays _))
    (λ told. stops_told (outing c.args.reading word bits number leg c.args.server c.args.address.now c.args.link id c.args.message.now) _ _ start (log_trans _ [] _ _ _ told (log_stays _)))
    (c.in_err-tell.ensures.tells before))

pub returns-then-link-eq-UDP-clause-goes : goal.returns-then-link-eq-UDP-clause-goes
returns-then-link-eq-UDP-clause-goes g c = λ before word bits number leg id start.
    c.send.ensures.goes before c.args.kept.now c.tell.new.kept _ word bits number leg id c.args.address.now (c.in_ok-tell.ensures.tells before) (rw c.if-link-eq-UDP.true at start)

pub returns-in-Some-clause-goes : goal.returns-in-Some-clause-goes
returns-in-Some-clause-goes g c = λ before word bits number leg id start.
    let row = c.index_mut-held.result.now in
    let at = rw c.deref.ensures.value at c.in-Some.ensures in
    let found = found_row _ _ _ _ row c.deref.ensures.value c.in-Some.ensures c.index_mut-held.ensures.value in
    queued_ends (outing c.args.reading word bits number leg c.args.server c.args.address.now c.args.link id c.args.message.now) _ (state_of before c.tell.new.kept (g.W.World.log c.tell.new.world)) _ start _ row c.queue.new.self _
    c.queue.result (c.in_ok-tell.ensures.tells before) found.0 found.1 (rows_set _ _ _ at.within) refl refl refl c.queue.ensures

pub returns-in-None-clause-goes : goal.returns-in-None-clause-goes
returns-in-None-clause-goes g c = λ before word bits number leg id start.
    c.connect.ensures.goes before c.args.kept.now _ word bits number leg id c.args.address.now (c.in_ok-tell.ensures.tells before) c.if-link-eq-UDP.false (rw c.deref.ensures.value at c.in-None.ensures) start
