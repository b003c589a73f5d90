use Rattle.std.proofs.Common.{ℕ, List, [], ◌∷◌, ◌++◌, ap, ◌∙◌, arith}
use Rattle.cookie_world.proofs.ServingLemmas.{draws_one, draws_err}
use Rattle.cookie_world.proofs.serving.draw_one.Goals as goal

pub returns-in_err-extend_from_slice-clause-draws : goal.returns-in_err-extend_from_slice-clause-draws
returns-in_err-extend_from_slice-clause-draws g c =
    draws_err 1 _ _ _ _ _ c.from_residual-in_err-extend_from_slice.ensures.0 (c.in_ok-word.word ∷ []) (omega arith) c.in_ok-word.ensures.log

pub returns-clause-draws : goal.returns-clause-draws
returns-clause-draws g c =
    draws_one _ _ _ _ _ c.in_ok-word.ensures.log (c.in_ok-extend_from_slice.ensures.items ∙ ap (λ (b : List ℕ). c.args.cookie.now.items ++ b) c.to_be_bytes.ensures)
