use Rattle.event_runner.proofs.Base.{refl, ◌∙◌, [], ◌∷◌, ap, sym, map, NotSent, WasSent, Connect, link_of_row, held_link}
use Rattle.event_runner.proofs.CallLemmas.{log_stays, log_trans}
use Rattle.event_runner.proofs.GoesLemmas.{ends_err}
use Rattle.event_runner.proofs.Outing.{outing}
use Rattle.event_runner.proofs.OutLemmas.{goes_connected, goes_unlinked, link_failure, stops_connected, stops_failed, stops_told}
use Rattle.event_runner.proofs.asking.connect.Goals as goal

pub returns-in_err-connect-clause-goes : goal.returns-in_err-connect-clause-goes
returns-in_err-connect-clause-goes g c = λ before was log word bits number leg id address told tcp none start.
    ends_err _ _ _ c.from_residual.ensures.0 _ _
    (stops_told (outing c.args.reading word bits number leg c.args.server address c.args.link id c.args.message.now) _ _ start (log_trans _ [] _ _ _ told.log (c.in_err-connect.ensures.log ∙ log_stays _)))

pub returns-in_err-queue-in-Sent-clause-goes : goal.returns-in_err-queue-in-Sent-clause-goes
returns-in_err-queue-in-Sent-clause-goes g c = λ before was log word bits number leg id address told tcp none start.
    ends_err _ _ _ c.from_residual-in_err-queue-in-Sent.ensures.0 _ _
    (stops_connected (outing c.args.reading word bits number leg c.args.server address c.args.link id c.args.message.now) _ _ start tcp (ap (λ r. held_link c.args.link (map link_of_row r)) (sym told.rows) ∙ none)
    (log_trans _ (Connect c.args.server c.args.link WasSent ∷ []) _ _ _ told.log (rw c.in-Sent.is at c.in_ok-connect.ensures.log)))

pub returns-in_err-push-in-Sent-clause-goes : goal.returns-in_err-push-in-Sent-clause-goes
returns-in_err-push-in-Sent-clause-goes g c = λ before was log word bits number leg id address told tcp none start.
    ends_err _ _ _ c.from_residual-in_err-push-in-Sent.ensures.0 _ _
    (stops_connected (outing c.args.reading word bits number leg c.args.server address c.args.link id c.args.message.now) _ _ start tcp (ap (λ r. held_link c.args.link (map link_of_row r)) (sym told.rows) ∙ none)
    (log_trans _ (Connect c.args.server c.args.link WasSent ∷ []) _ _ _ told.log (rw c.in-Sent.is at c.in_ok-connect.ensures.log)))

pub returns-in_err-fault-in-Failed-clause-goes : goal.returns-in_err-fault-in-Failed-clause-goes
returns-in_err-fault-in-Failed-clause-goes g c = λ before was log word bits number leg id address told tcp none start.
    ends_err _ _ _ c.from_residual-in_err-fault-in-Failed.ensures.0 _ _
    (stops_failed (outing c.args.reading word bits number leg c.args.server address c.args.link id c.args.message.now) _ _ _ start _ (link_failure (outing c.args.reading word bits number leg c.args.server address c.args.link id c.args.message.now) _ _ tcp (ap (λ r. held_link c.args.link (map link_of_row r)) (sym told.rows) ∙ none)) _
    c.in_err-fault-in-Failed.ensures.done (log_trans _ (Connect c.args.server c.args.link NotSent ∷ []) _ _ _ told.log (rw c.in-Failed.is at c.in_ok-connect.ensures.log)))

pub returns-in_ok-push-in-Sent-clause-goes : goal.returns-in_ok-push-in-Sent-clause-goes
returns-in_ok-push-in-Sent-clause-goes g c = λ before was log word bits number leg id address told tcp none start.
    goes_connected (outing c.args.reading word bits number leg c.args.server address c.args.link id c.args.message.now) _ _ start tcp (ap (λ r. held_link c.args.link (map link_of_row r)) (sym told.rows) ∙ none)
    (rw (c.in_ok-push-in-Sent.ensures.items, c.in_ok-queue-in-Sent.ensures, c.new-held.ensures, told.rows) refl) told.told told.mix
    (log_trans _ (Connect c.args.server c.args.link WasSent ∷ []) _ _ _ told.log (rw c.in-Sent.is at c.in_ok-connect.ensures.log))

pub returns-in_ok-fault-in-Failed-clause-goes : goal.returns-in_ok-fault-in-Failed-clause-goes
returns-in_ok-fault-in-Failed-clause-goes g c = λ before was log word bits number leg id address told tcp none start.
    goes_unlinked (outing c.args.reading word bits number leg c.args.server address c.args.link id c.args.message.now) _ _ tcp (ap (λ r. held_link c.args.link (map link_of_row r)) (sym told.rows) ∙ none) _ start _
    c.in_ok-fault-in-Failed.ensures.done told.rows told.told told.mix
    (log_trans _ (Connect c.args.server c.args.link NotSent ∷ []) _ _ _ told.log (rw c.in-Failed.is at c.in_ok-connect.ensures.log))
