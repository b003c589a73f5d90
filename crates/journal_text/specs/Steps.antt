-- The words of a step in the code, and what has words.
use Rattle.std.specs.Prelude.{ℕ, ◌≤◌, List, ◌∷◌, decimal}
use Rattle.chan_types.specs.Plans.{count}
use Rattle.chan_types.specs.Scripts.{deed_of, inside_of}
use Rattle.chan_types.specs.declared.script.Act.{Act}
use Rattle.chan_types.specs.declared.script.Step.{Step}
use Rattle.journal_text.specs.Words.{Word, when_number, need_number}
use Rattle.journal_text.specs.Scripts.{deed_words, moves_words}
use Rattle.journal_text.specs.Fits.{FitsDeed, FitsMoves}

-- what an act does, and the steps inside
abbrev pub act_words : Act → List Word
act_words act = deed_words (deed_of act) (moves_words (inside_of act))

-- a step: WHEN NEED, and what it does
abbrev pub step_words : Step → List Word
step_words step = decimal (when_number step.when) ∷ decimal (need_number step.need) ∷ act_words step.act

-- the act and the steps inside are in their ranges
abbrev pub FitsAct : Act → Type 0
FitsAct act = FitsDeed (deed_of act) (inside_of act) × (count (inside_of act) ≤ 8) × FitsMoves (inside_of act)

-- the step's act is
abbrev pub FitsStep : Step → Type 0
FitsStep step = FitsAct step.act
