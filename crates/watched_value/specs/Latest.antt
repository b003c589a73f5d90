-- Which of the values that were published is shown.
use Rattle.std.specs.Prelude.{List, [], ◌∷◌}

-- the last of these values, or the opening one where there is none
abbrev pub latest : {S : Type 0} → S → List S → S
latest opening [] = opening
latest opening (value ∷ values) = latest value values
