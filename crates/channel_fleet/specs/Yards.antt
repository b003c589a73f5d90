-- A fleet that is being made, and one that is being taken apart.
use Rattle.std.specs.List.{AllByRecursion}
use Rattle.std.specs.Prelude.{List, [], length, map, vec_capacity, ℕ, ◌+◌, ◌++◌, ◌∷◌, ◌≡◌, ◌≤◌}
use Rattle.channel_fleet.specs.Making.{AreNewChannels, IsUnused}
use Rattle.channel_fleet.specs.Views.{BerthView, HelmView, IsAtFleet}
use Rattle.channel_fleet.specs.declared.launching.Launched.{Launched}
use Rattle.channel_fleet.specs.declared.setup.Setup.{Setup}
use Rattle.channel_fleet.specs.declared.shown.Shown.{Shown}
use Rattle.channel_fleet.specs.declared.yard.Yard.{Yard}
use Rattle.shared_channel.specs.Passes.{PassView}

-- a berth with this pass, whose reader has seen nothing
abbrev pub new_berth : PassView → BerthView
new_berth pass = record { pass = pass; shown = [] }

-- each of these callers has a berth more
abbrev pub with_berths : List (List BerthView) → List BerthView → List (List BerthView)
with_berths [] berths = []
with_berths (row ∷ rows) [] = []
with_berths (row ∷ rows) (berth ∷ berths) = (row ++ berth ∷ []) ∷ with_berths rows berths

-- a berth for each of these passes but the last two, which are the helm's; of its counts nothing is published
pub record IsMannedBy (passes : List PassView) (berths : List BerthView) (helm : HelmView) : Type 0 where
  pub own : List PassView
  pub berths_are : berths ≡ map new_berth own
  pub passes_are : passes ≡ own ++ helm.caller ∷ helm.turner ∷ []
  pub untold : helm.told ≡ []
  pub unturned : IsUnused helm

-- the pass of a caller's first berth was taken
pub record TakesFirst (old : List BerthView) (pass : PassView) (new : List BerthView) : Type 0 where
  pub shown : List Shown
  pub parts : old ≡ record { pass = pass; shown = shown } ∷ new

module _ {B J : Type 0} where
  -- so far a channel was made for each of these setups, with a row for each of so many callers
  pub record IsYard (callers : ℕ) (setups : List Setup) (yard : Yard B J) : Type 0 where
    pub as_many : length yard.rows.items ≡ callers
    pub at : AllByRecursion (IsAtFleet yard.channels.items) (map (λ row. row.items) yard.rows.items)
    pub channels : AreNewChannels callers setups yard.channels.items (map (λ row. row.items) yard.rows.items) yard.helms.items

  -- there is room for so many channels more, and for all that the fleet has at its end
  pub record HasRoomFor (count : ℕ) (yard : Yard B J) : Type 0 where
    pub channels : length yard.channels.items + count ≤ vec_capacity yard.channels
    pub helms : length yard.helms.items + count ≤ vec_capacity yard.helms
    pub rows : AllByRecursion (λ row. length row.items + count ≤ vec_capacity row) yard.rows.items
    pub no_pass : yard.passes.items ≡ []
    pub passes : length yard.rows.items ≤ vec_capacity yard.passes
    pub no_part : yard.parts.items ≡ []
    pub parts : length yard.channels.items + count ≤ vec_capacity yard.parts

  -- a channel more: each caller has a berth at it
  pub record AddsTo (launched : Launched B J) (old new : Yard B J) : Type 0 where
    pub channels : new.channels.items ≡ old.channels.items ++ launched.channel ∷ []
    pub helms : new.helms.items ≡ old.helms.items ++ launched.helm ∷ []
    pub rows : map (λ row. row.items) new.rows.items ≡ with_berths (map (λ row. row.items) old.rows.items) launched.berths.items
    pub rest : (new.passes ≡ old.passes) × (new.parts ≡ old.parts)
    -- the room is what it was
    pub channels_room : vec_capacity new.channels ≡ vec_capacity old.channels
    pub helms_room : vec_capacity new.helms ≡ vec_capacity old.helms
    pub rows_room : map (λ row. vec_capacity row) new.rows.items ≡ map (λ row. vec_capacity row) old.rows.items
