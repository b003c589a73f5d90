use Rattle.event_runner.proofs.Base.{refl, Datagram}
use Rattle.event_runner.proofs.GoesLemmas.{ends_err}
use Rattle.event_runner.proofs.ReceiveLemmas.{cut_item, cut_receive, hears_datagram, hears_nothing}
use Rattle.event_runner.proofs.receiving.receive_one.Goals as goal

pub returns-in_err-server-clause-goes : goal.returns-in_err-server-clause-goes
returns-in_err-server-clause-goes g c = ends_err _ _ _ c.from_residual.ensures.0 _ _ (cut_receive _ _ _ refl c.in_err-server.ensures.log)

pub returns-in_err-arrive-in-Datagram-clause-goes : goal.returns-in_err-arrive-in-Datagram-clause-goes
returns-in_err-arrive-in-Datagram-clause-goes g c =
    let call = c.in_err-arrive-in-Datagram.ensures.done in
    ends_err _ _ _ c.from_residual-in_err-arrive-in-Datagram.ensures.0 _ _
    (cut_item _ _ _ (Datagram c.in-Datagram.server c.in-Datagram.bytes) _ refl (rw c.in-Datagram.is at c.in_ok-server.ensures.log) call call.meant)

pub returns-in-Nothing-clause-goes : goal.returns-in-Nothing-clause-goes
returns-in-Nothing-clause-goes g c = hears_nothing _ _ _ refl (record { rows = refl; told = refl; mix = refl }) (rw c.in-Nothing.is at c.in_ok-server.ensures.log)

pub returns-in_ok-arrive-in-Datagram-clause-goes : goal.returns-in_ok-arrive-in-Datagram-clause-goes
returns-in_ok-arrive-in-Datagram-clause-goes g c =
    hears_datagram _ _ _ c.in-Datagram.server c.in-Datagram.bytes _ (record { rows = refl; told = refl; mix = refl }) (rw c.in-Datagram.is at c.in_ok-server.ensures.log)
    (rw c.as_slice.ensures at c.in_ok-arrive-in-Datagram.ensures.done)

pub returns-in_ok-take_piece-in-Piece-clause-goes : goal.returns-in_ok-take_piece-in-Piece-clause-goes
returns-in_ok-take_piece-in-Piece-clause-goes g c =
    let goes = rw c.as_slice-in-Piece.ensures at c.in_ok-take_piece-in-Piece.ensures.goes in
    goes _ _ (rw c.in-Piece.is at c.in_ok-server.ensures.log)

pub returns-in_ok-take_end-in-Ended-clause-goes : goal.returns-in_ok-take_end-in-Ended-clause-goes
returns-in_ok-take_end-in-Ended-clause-goes g c = c.in_ok-take_end-in-Ended.ensures.goes _ (rw c.in-Ended.is at c.in_ok-server.ensures.log)

pub returns-in_ok-take_failure-in-Failed-clause-goes : goal.returns-in_ok-take_failure-in-Failed-clause-goes
returns-in_ok-take_failure-in-Failed-clause-goes g c = c.in_ok-take_failure-in-Failed.ensures.goes _ (rw c.in-Failed.is at c.in_ok-server.ensures.log)
