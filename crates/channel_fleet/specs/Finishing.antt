-- How a fleet ends.
use Rattle.std.specs.List.{AllByRecursion}
use Rattle.std.specs.Prelude.{List, [], map, ◌∷◌, ⊤}
use Rattle.atomic_table.specs.Seated.{TableId}
use Rattle.chan_types.specs.declared.journal.Entry.{Entry}
use Rattle.chan_types.specs.declared.orders.Orders.{Orders}
use Rattle.channel_fleet.specs.Views.{BerthView, HelmView, IsAtFleet, first_berths, later_berths, passes_with}
use Rattle.shared_channel.specs.Finishing.{AreAllPasses, Finishes}
use Rattle.shared_channel.specs.Settling.{AreSettled}
use Rattle.shared_channel.specs.declared.finishing.Finished.{Finished}

-- of each of these channels these are all passes, each once, and no ticket of theirs is outside
abbrev pub EachMayFinish : List TableId → List (List BerthView) → List HelmView → Type 0
EachMayFinish [] passes [] = ⊤
EachMayFinish [] passes (helm ∷ helms) = ⊥
EachMayFinish (lock ∷ locks) passes [] = ⊥
EachMayFinish (lock ∷ locks) passes (helm ∷ helms) =
    AreAllPasses lock (passes_with (first_berths passes) helm) × AreSettled (passes_with (first_berths passes) helm) × EachMayFinish locks (map later_berths passes) helms

-- these are all of the fleet's passes and helms, each once, and no ticket of theirs is outside
pub record MayFinish (fleet : List TableId) (passes : List (List BerthView)) (helms : List HelmView) : Type 0 where
  pub at : AllByRecursion (IsAtFleet fleet) passes
  pub each : EachMayFinish fleet passes helms

-- what is left of a fleet: a part for each channel, in order, which is what is left of that channel with its passes; and no other
abbrev pub IsRoll : {J : Type 0} → (J → List Entry) → Orders → List (List BerthView) → List HelmView → List (Finished J) → Type 0
IsRoll told orders passes [] [] = ⊤
IsRoll told orders passes [] (part ∷ parts) = ⊥
IsRoll told orders passes (helm ∷ helms) [] = ⊥
IsRoll told orders passes (helm ∷ helms) (part ∷ parts) =
    Finishes told orders (passes_with (first_berths passes) helm) part × IsRoll told orders (map later_berths passes) helms parts
