-- What a step of a script does, with the script inside it.
use Rattle.std.specs.Prelude.{◌≤◌}
use Rattle.chan_types.specs.Plans.{Deed, Moves, count}
use Rattle.journal_text.specs.Fits.{FitsDeed, FitsMoves}

-- what is asked is in its ranges, and the script inside has at most eight steps, each of which is
pub record FitsAct (deed : Deed) (inside : Moves) : Type 0 where
  pub deed_fits : FitsDeed deed inside
  pub few : count inside ≤ 8
  pub steps : FitsMoves inside
