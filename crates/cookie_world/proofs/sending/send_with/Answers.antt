use Rattle.std.proofs.Common.{refl}
use Rattle.cookie_world.proofs.GoesLemmas.{err_nowhere}
use Rattle.cookie_world.proofs.sending.send_with.Goals as goal

pub returns-in_err-make_room-clause-goes : goal.returns-in_err-make_room-clause-goes
returns-in_err-make_room-clause-goes g c = err_nowhere _ _ _ _ _ _ c.from_residual.ensures.0 refl c.in_err-make_room.ensures.same

pub returns-in_err-wire-clause-goes : goal.returns-in_err-wire-clause-goes
returns-in_err-wire-clause-goes g c = err_nowhere _ _ _ _ _ _ c.from_residual-in_err-wire.ensures.0 refl c.in_ok-make_room.ensures.same

pub returns-in_err-query-clause-goes : goal.returns-in_err-query-clause-goes
returns-in_err-query-clause-goes g c = err_nowhere _ _ _ _ _ _ c.from_residual-in_err-query.ensures.0 refl c.in_ok-make_room.ensures.same

pub returns-in_err-copy-clause-goes : goal.returns-in_err-copy-clause-goes
returns-in_err-copy-clause-goes g c = err_nowhere _ _ _ _ _ _ c.from_residual-in_err-copy.ensures.0 refl c.in_ok-make_room.ensures.same

pub returns-in_err-sent-clause-goes : goal.returns-in_err-sent-clause-goes
returns-in_err-sent-clause-goes g c = err_nowhere _ _ _ _ _ _ c.from_residual-in_err-sent.ensures.0 c.in_err-sent.ensures.log c.in_ok-make_room.ensures.same
