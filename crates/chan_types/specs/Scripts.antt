-- The steps of a script in the code, as the moves that contracts see.
use Rattle.std.specs.Prelude.{List, [], ◌∷◌}
use Rattle.chan_types.specs.Plans.{Moves, Deed, stop, step, ask, reverse, cancel, destroy}
use Rattle.chan_types.specs.declared.script.Step.{Step}
use Rattle.chan_types.specs.declared.script.Act.{Act}
use Rattle.chan_types.specs.declared.script.Act.TheVariants.{Ask, Reverse, Cancel, Destroy}

-- what an act does, without the moves of the script that it hands on
abbrev pub deed_of : Act → Deed
deed_of (Ask spec script) = ask spec script.tag
deed_of (Reverse script) = reverse script.tag
deed_of Cancel = cancel
deed_of Destroy = destroy

-- the moves of the script that an act hands on, or none
abbrev pub inside_of : Act → Moves
inside_of (Ask spec script) = script.moves
inside_of (Reverse script) = script.moves
inside_of Cancel = stop
inside_of Destroy = stop

-- steps as moves, in the same order
abbrev pub moves_of : List Step → Moves
moves_of [] = stop
moves_of (s ∷ steps) = step s.when s.need (deed_of s.act) (inside_of s.act) (moves_of steps)
