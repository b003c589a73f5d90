use Rattle.std.proofs.Common.{refl, ap, ◌∙◌}
use Rattle.net_world.specs.declared.log.WorldCall.TheVariants.{Connect}
use Rattle.cookie_world.specs.Rounds.{told}
use Rattle.cookie_world.proofs.GoesLemmas.{err_nowhere, goes_alone}
use Rattle.cookie_world.proofs.passing.connect_with.Goals as goal

pub returns-in_err-make_room-clause-goes : goal.returns-in_err-make_room-clause-goes
returns-in_err-make_room-clause-goes g c = err_nowhere _ _ _ _ _ _ c.from_residual.ensures.0 refl c.in_err-make_room.ensures.same

pub returns-in_err-sent-clause-goes : goal.returns-in_err-sent-clause-goes
returns-in_err-sent-clause-goes g c = err_nowhere _ _ _ _ _ _ c.from_residual-in_err-sent.ensures.0 c.in_err-sent.ensures.log c.in_ok-make_room.ensures.same

pub returns-clause-goes : goal.returns-clause-goes
returns-clause-goes g c =
    goes_alone (λ sent. Connect c.args.server c.args.link sent) _ _ _ _ c.in_ok-sent.sent c.in_ok-sent.ensures.log (c.tell.ensures ∙ ap (told (Connect c.args.server c.args.link c.in_ok-sent.sent)) c.in_ok-make_room.ensures.same) (λ p. p)
