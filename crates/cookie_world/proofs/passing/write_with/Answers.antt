use Rattle.std.proofs.Common.{ℕ, List, refl, ap, ◌∙◌}
use Rattle.net_world.specs.declared.log.WorldCall.TheVariants.{Write}
use Rattle.cookie_world.specs.Rounds.{told}
use Rattle.cookie_world.specs.State.{state_of}
use Rattle.cookie_world.proofs.GoesLemmas.{err_nowhere, goes_alone}
use Rattle.cookie_world.proofs.passing.write_with.Goals as goal

pub returns-in_err-make_room-clause-goes : goal.returns-in_err-make_room-clause-goes
returns-in_err-make_room-clause-goes g c = err_nowhere _ _ _ _ _ _ c.from_residual.ensures.0 refl c.in_err-make_room.ensures.same

pub returns-in_err-copy-clause-goes : goal.returns-in_err-copy-clause-goes
returns-in_err-copy-clause-goes g c = err_nowhere _ _ _ _ _ _ c.from_residual-in_err-copy.ensures.0 refl c.in_ok-make_room.ensures.same

pub returns-in_err-wrote-clause-goes : goal.returns-in_err-wrote-clause-goes
returns-in_err-wrote-clause-goes g c = err_nowhere _ _ _ _ _ _ c.from_residual-in_err-wrote.ensures.0 c.in_err-wrote.ensures.log c.in_ok-make_room.ensures.same

pub returns-clause-goes : goal.returns-clause-goes
returns-clause-goes g c =
    goes_alone (λ wrote. Write c.args.link c.args.bytes.now wrote) _ _ _ _ c.in_ok-wrote.wrote c.in_ok-wrote.ensures.log (c.tell.ensures ∙ ap (λ (b : List ℕ). told (Write c.args.link b c.in_ok-wrote.wrote) (state_of c.make_room.new.kept)) c.in_ok-copy.ensures ∙ ap (told (Write c.args.link c.args.bytes.now c.in_ok-wrote.wrote)) c.in_ok-make_room.ensures.same) (λ p. p)
