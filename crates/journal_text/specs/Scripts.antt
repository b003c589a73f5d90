-- Scripts as words.
use Rattle.std.specs.Prelude.{ℕ, List, [], ◌∷◌, ◌++◌, codes, decimal}
use Rattle.chan_types.specs.Plans.{Plan, Moves, Deed, stop, step, ask, reverse, cancel, destroy}
use Rattle.journal_text.specs.Words.{Word, when_number, need_number}
use Rattle.journal_text.specs.Requests.{spec_words}

-- `( TAG STEPS )`, where these are the words of the steps
abbrev pub script_words : ℕ → List Word → List Word
script_words tag steps = codes "(" ∷ decimal tag ∷ steps ++ codes ")" ∷ []

-- `ask SPEC SCRIPT`, `rev SCRIPT`, `cancel` or `destroy`, where these are the words of the steps inside
abbrev pub deed_words : Deed → List Word → List Word
deed_words (ask spec tag) inside = codes "ask" ∷ spec_words spec ++ script_words tag inside
deed_words (reverse tag) inside = codes "rev" ∷ script_words tag inside
deed_words cancel inside = codes "cancel" ∷ []
deed_words destroy inside = codes "destroy" ∷ []

-- each step: WHEN NEED, and what it does
abbrev pub moves_words : Moves → List Word
moves_words stop = []
moves_words (step when need deed inside rest) =
    decimal (when_number when) ∷ decimal (need_number need) ∷ deed_words deed (moves_words inside) ++ moves_words rest

-- a script: `( TAG STEPS )`
abbrev pub plan_words : Plan → List Word
plan_words plan = script_words plan.tag (moves_words plan.moves)
