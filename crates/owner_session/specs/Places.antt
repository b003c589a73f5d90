-- The places of the bodies of a run's callbacks.
use Rattle.std.specs.Prelude.{List, Option}

-- the bodies that came back, each at the place of its request; and those that aren't asked, in order
pub record PlacesState (B : Type 0) : Type 0 where
  pub back : List (Option B)
  pub rest : List B
