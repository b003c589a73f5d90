-- What is done through a pass that a serve is lent: by the front, beside the helms, and behind it.
use Rattle.std.specs.List.{AllZip}
use Rattle.std.specs.Prelude.{List, Some, length, ◌≡◌, ◌≤◌}
use mathlib.Core.List.{IsPrefix}
use Rattle.channel_fleet.specs.Stands.{IsOverAt}
use Rattle.channel_fleet.specs.Views.{BerthView}
use Rattle.channel_fleet.specs.declared.helm_end.HelmEnd.TheVariants.{Done}
use Rattle.channel_fleet.specs.declared.stand.Stand.{Stand}
use Rattle.event_runner.specs.Running.{HasLooked}
use Rattle.shared_channel.specs.Passes.{PassView, desk_of}
use Rattle.shared_channel.specs.Staying.{StaysSettled}

-- a front used a berth: its pass is the one that it was, told no answer, and is settled if it was; and what its reader has seen goes on
pub record UsesBerth (old new : BerthView) : Type 0 where
  pub same : new.pass ≡ record old.pass { own = new.pass.own; seen = new.pass.seen }
  pub settled : StaysSettled old.pass new.pass
  pub further : IsPrefix old.shown new.shown

-- the same of each of these berths
abbrev pub UsesEach : List BerthView → List BerthView → Type 0
UsesEach olds news = AllZip UsesBerth olds news

-- through a pass the channel was looked at, and nothing else was done there
pub record LooksOn (old new : PassView) : Type 0 where
  pub looked : HasLooked (desk_of old) (desk_of new)
  pub same : new ≡ record old { seen = new.seen }

-- behind the front the channel was looked at through a berth; and its reader has seen no less than it had
pub record LooksBehind (old new : BerthView) : Type 0 where
  pub pass : LooksOn old.pass new.pass
  pub shown : length old.shown ≤ length new.shown

-- the front did what it does through the pass that it was lent, and behind it the channels were looked at
pub record UsesFleet {F : Type 0} (does : F → List BerthView → F → List BerthView → Type 0) (front : F) (old : List BerthView) (front_new : F) (new : List BerthView) : Type 0 where
  pub middle : List BerthView
  pub did : does front old front_new middle
  pub used : UsesEach old middle
  pub looked : AllZip LooksBehind middle new

-- the berth's reader has seen all that the helm has published; and where the helm has ended as done, nothing is pending or ready where the berth's pass last looked
pub record AgreesWith {B W J : Type 0} (stand : Stand B W J) (berth : BerthView) : Type 0 where
  pub all_seen : berth.shown ≡ stand.helm.told
  pub over : stand.end ≡ Some Done → IsOverAt berth.pass
