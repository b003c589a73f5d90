-- How a fleet is made.
use Rattle.std.specs.List.{AllByRecursion}
use Rattle.std.specs.Prelude.{List, None, false, [], length, map, ℕ, ◌+◌, ◌∷◌, ◌≡◌, ⊤}
use Rattle.atomic_table.specs.Seated.{TableId}
use Rattle.channel_fleet.specs.Views.{BerthView, HelmView, IsAtFleet, first_berths, later_berths, passes_with}
use Rattle.channel_fleet.specs.declared.setup.Setup.{Setup}
use Rattle.channel_model.specs.Setting.{Setting}
use Rattle.shared_channel.specs.Making.{IsNewChannel}

-- the setting of a channel that is made with this
abbrev pub setting_of : Setup → Setting
setting_of setup = record { options = setup.options; hosts = setup.hosts }

-- a helm has not begun
pub record IsUnused (helm : HelmView) : Type 0 where
  pub no_runner : helm.runner ≡ None
  pub rests : helm.behind_turn ≡ false
  pub none_made : helm.made ≡ 0

-- a channel was made with this setup: with a pass for each of so many callers, numbered from 0, in these berths, and behind those its helm's two; of its counts nothing is published or seen
pub record IsNewAt (callers : ℕ) (setup : Setup) (lock : TableId) (berths : List BerthView) (helm : HelmView) : Type 0 where
  pub made : IsNewChannel lock (setting_of setup) (callers + 2) (passes_with berths helm)
  pub unseen : AllByRecursion (λ berth. berth.shown ≡ []) berths
  pub untold : helm.told ≡ []
  pub unturned : IsUnused helm

-- a channel was made for each of these setups, in order, and nothing else
abbrev pub AreNewChannels : ℕ → List Setup → List TableId → List (List BerthView) → List HelmView → Type 0
AreNewChannels callers [] [] passes [] = ⊤
AreNewChannels callers [] [] passes (helm ∷ helms) = ⊥
AreNewChannels callers [] (lock ∷ locks) passes helms = ⊥
AreNewChannels callers (setup ∷ setups) [] passes helms = ⊥
AreNewChannels callers (setup ∷ setups) (lock ∷ locks) passes [] = ⊥
AreNewChannels callers (setup ∷ setups) (lock ∷ locks) passes (helm ∷ helms) =
    IsNewAt callers setup lock (first_berths passes) helm × AreNewChannels callers setups locks (map later_berths passes) helms

-- a fleet with a channel for each of these setups; a pass for each of so many callers, which is at each of its channels; and a helm for each channel
pub record IsNewFleet (setups : List Setup) (callers : ℕ) (fleet : List TableId) (passes : List (List BerthView)) (helms : List HelmView) : Type 0 where
  pub as_many : length passes ≡ callers
  pub at : AllByRecursion (IsAtFleet fleet) passes
  pub channels : AreNewChannels callers setups fleet passes helms
