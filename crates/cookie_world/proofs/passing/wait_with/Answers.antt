use Rattle.std.proofs.Common.{refl, ap, ◌∙◌}
use Rattle.net_world.specs.declared.log.WorldCall.TheVariants.{Wait}
use Rattle.cookie_world.specs.Rounds.{told}
use Rattle.cookie_world.proofs.GoesLemmas.{err_nowhere, goes_alone}
use Rattle.cookie_world.proofs.passing.wait_with.Goals as goal

pub returns-in_err-make_room-clause-goes : goal.returns-in_err-make_room-clause-goes
returns-in_err-make_room-clause-goes g c = err_nowhere _ _ _ _ _ _ c.from_residual.ensures.0 refl c.in_err-make_room.ensures.same

pub returns-in_err-waited-clause-goes : goal.returns-in_err-waited-clause-goes
returns-in_err-waited-clause-goes g c = err_nowhere _ _ _ _ _ _ c.from_residual-in_err-waited.ensures.0 c.in_err-waited.ensures.log c.in_ok-make_room.ensures.same

pub returns-clause-goes : goal.returns-clause-goes
returns-clause-goes g c =
    goes_alone (λ waited. Wait c.args.until waited) _ _ _ _ c.in_ok-waited.waited c.in_ok-waited.ensures.log (c.tell.ensures ∙ ap (told (Wait c.args.until c.in_ok-waited.waited)) c.in_ok-make_room.ensures.same) (λ p. p)
