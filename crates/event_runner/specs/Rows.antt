-- Where a link is among those that a runner holds.
use Rattle.std.specs.List.{HoldsAt}
use Rattle.std.specs.Prelude.{List, length, ℕ, ◌<◌, ◌≡◌}
use Rattle.channel_model.specs.KeptLinks.{Row}

-- the link with this number stands here
pub record IsAt (number : ℕ) (rows : List Row) (index : ℕ) : Type 0 where
  pub within : index < length rows
  pub number_is : HoldsAt (λ row. row.number ≡ number) rows index
