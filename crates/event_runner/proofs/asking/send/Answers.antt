use Rattle.event_runner.proofs.Base.{refl, ◌∙◌, [], ◌∷◌, NotSent, WasSent, Send}
use Rattle.event_runner.proofs.CallLemmas.{log_stays, log_trans}
use Rattle.event_runner.proofs.GoesLemmas.{ends_err}
use Rattle.event_runner.proofs.Outing.{outing}
use Rattle.event_runner.proofs.OutLemmas.{datagram_failure, goes_sent, goes_unsent, stops_failed, stops_told}
use Rattle.event_runner.proofs.asking.send.Goals as goal

pub returns-in_err-send-clause-goes : goal.returns-in_err-send-clause-goes
returns-in_err-send-clause-goes g c = λ before was now log word bits number leg id address told start.
    ends_err _ _ _ c.from_residual.ensures.0 _ _
    (stops_told (outing c.args.reading word bits number leg c.args.server address 0 id c.args.message.now) _ _ start (log_trans _ [] _ _ _ told.log (c.in_err-send.ensures.log ∙ log_stays _)))

pub returns-in_err-fault-in-Failed-clause-goes : goal.returns-in_err-fault-in-Failed-clause-goes
returns-in_err-fault-in-Failed-clause-goes g c = λ before was now log word bits number leg id address told start.
    ends_err _ _ _ c.from_residual-in_err-fault-in-Failed.ensures.0 _ _
    (stops_failed (outing c.args.reading word bits number leg c.args.server address 0 id c.args.message.now) _ _ _ start _ (datagram_failure (outing c.args.reading word bits number leg c.args.server address 0 id c.args.message.now) _ _ refl) _ c.in_err-fault-in-Failed.ensures.done
    (log_trans _ (Send c.args.server c.args.message.now NotSent ∷ []) _ _ _ told.log (rw c.in-Failed.is at c.in_ok-send.ensures.log)))

pub returns-in-Sent-clause-goes : goal.returns-in-Sent-clause-goes
returns-in-Sent-clause-goes g c = λ before was now log word bits number leg id address told start.
    goes_sent (outing c.args.reading word bits number leg c.args.server address 0 id c.args.message.now) _ _ start refl told.rows told.told told.mix
    (log_trans _ (Send c.args.server c.args.message.now WasSent ∷ []) _ _ _ told.log (rw c.in-Sent.is at c.in_ok-send.ensures.log))

pub returns-in_ok-fault-in-Failed-clause-goes : goal.returns-in_ok-fault-in-Failed-clause-goes
returns-in_ok-fault-in-Failed-clause-goes g c = λ before was now log word bits number leg id address told start.
    goes_unsent (outing c.args.reading word bits number leg c.args.server address 0 id c.args.message.now) _ _ refl _ start _ c.in_ok-fault-in-Failed.ensures.done told.rows told.told told.mix
    (log_trans _ (Send c.args.server c.args.message.now NotSent ∷ []) _ _ _ told.log (rw c.in-Failed.is at c.in_ok-send.ensures.log))
