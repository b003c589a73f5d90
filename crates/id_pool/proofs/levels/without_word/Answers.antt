use Rattle.std.proofs.Common.{sym, ◌∙◌, eqb-true}
use Rattle.std.proofs.lemmas.Bool.{eqb-false}
use Rattle.id_pool.proofs.LevelsLemmas.{upper_emptied, upper_kept}
use Rattle.id_pool.proofs.levels.without_word.Goals as goal

pub returns-then-clear-clause-upper : goal.returns-then-clear-clause-upper
returns-then-clear-clause-upper c =
    upper_emptied _ _ _ _ c.requires.upper c.requires.within c.clear.ensures.changes (eqb-true _ 0 (sym c.clear.ensures.empty ∙ c.if-clear.true))

pub returns-else-clear-clause-upper : goal.returns-else-clear-clause-upper
returns-else-clear-clause-upper c =
    upper_kept _ _ _ _ c.requires.upper c.requires.within c.clear.ensures.changes c.clear.ensures.less (eqb-false _ 0 (sym c.clear.ensures.empty ∙ c.if-clear.false))
