use Rattle.std.proofs.Common.{refl, ap, ◌∙◌}
use Rattle.net_world.specs.declared.log.WorldCall.TheVariants.{Word}
use Rattle.cookie_world.specs.Rounds.{told}
use Rattle.cookie_world.proofs.GoesLemmas.{err_nowhere, goes_alone}
use Rattle.cookie_world.proofs.passing.word_with.Goals as goal

pub returns-in_err-make_room-clause-goes : goal.returns-in_err-make_room-clause-goes
returns-in_err-make_room-clause-goes g c = err_nowhere _ _ _ _ _ _ c.from_residual.ensures.0 refl c.in_err-make_room.ensures.same

pub returns-in_err-word-clause-goes : goal.returns-in_err-word-clause-goes
returns-in_err-word-clause-goes g c = err_nowhere _ _ _ _ _ _ c.from_residual-in_err-word.ensures.0 c.in_err-word.ensures.log c.in_ok-make_room.ensures.same

pub returns-clause-goes : goal.returns-clause-goes
returns-clause-goes g c =
    goes_alone (λ word. Word word) _ _ _ _ c.in_ok-word.word c.in_ok-word.ensures.log (c.tell.ensures ∙ ap (told (Word c.in_ok-word.word)) c.in_ok-make_room.ensures.same) (λ p. p)
