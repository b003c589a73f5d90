-- What words ask of a tool.
use Rattle.std.specs.Prelude.{◌≡◌, List, Some}
use Rattle.tool_line.specs.Lookup.{Lookup, lookup}
use Rattle.tool_line.specs.Words.{Table, Text, Use, read}

-- these words ask this of a tool with these options, where this says what is asked by what is said under their names
pub record Asks {T : Type 0} (options : Table) (IsSaid : Lookup → T → Type 0) (words : List Text) (ask : T) : Type 0 where
  -- the words are uses of the options, none of them twice, and plain words
  pub uses : List Use
  pub are : read options words ≡ Some uses
  -- and what they say asks this
  pub say : IsSaid (lookup uses) ask
