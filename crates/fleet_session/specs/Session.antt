-- What a session of a fleet with one caller comes to.
use Rattle.std.specs.List.{AllZip}
use Rattle.std.specs.Prelude.{List, Option, [], map, ℕ, ◌∷◌, ◌≡◌}
use base.Stored.{Gv}
use Rattle.atomic_table.specs.Seated.{TableId}
use Rattle.chan_types.specs.declared.journal.Entry.{Entry}
use Rattle.chan_types.specs.declared.orders.Orders.{Orders}
use Rattle.channel_fleet.specs.Finishing.{IsRoll}
use Rattle.channel_fleet.specs.Fronts.{AgreesWith, UsesFleet}
use Rattle.channel_fleet.specs.Making.{IsNewFleet}
use Rattle.channel_fleet.specs.Stands.{ServesStand}
use Rattle.channel_fleet.specs.Views.{BerthView, HelmView}
use Rattle.channel_fleet.specs.declared.helm_end.HelmEnd.{HelmEnd}
use Rattle.channel_fleet.specs.declared.setup.Setup.{Setup}
use Rattle.channel_fleet.specs.declared.stand.Stand.{Stand}
use Rattle.net_world.specs.declared.log.WorldCall.{WorldCall}
use Rattle.shared_channel.specs.declared.finishing.Finished.{Finished}

module _ (B : Type 0) {W F J : Type 0} (does : F → List BerthView → F → List BerthView → Type 0) (log : W → Option (List WorldCall)) (wait_faults : W → ℕ) (origin : W → Gv) (told : J → List Entry) where
  -- a fleet that had these passes and helms was served and ended
  pub record IsServedFleet (fleet : List TableId) (passes : List (List BerthView)) (helms : List HelmView) (worlds : List W) (front front_new : F) (turns : ℕ) (orders : Orders) (ends : List (Option HelmEnd)) (roll : List (Finished J)) : Type 0 where
    -- it had one caller, whose pass was lent to the front
    pub pass : List BerthView
    pub alone : passes ≡ pass ∷ []
    pub used : List BerthView
    pub front_used : UsesFleet does front pass front_new used
    -- each helm was served over its own network, in order, and the caller's pass agrees with each
    pub stands : List (Stand B W J)
    pub stands_new : List (Stand B W J)
    pub helms_are : map (λ stand. stand.helm) stands ≡ helms
    pub worlds_are : map (λ stand. stand.world) stands ≡ worlds
    pub served : AllZip (ServesStand log wait_faults turns) stands stands_new
    pub origins : AllZip (λ old new. origin new.world ≡ origin old.world) stands stands_new
    pub agree : AllZip AgreesWith stands_new used
    pub ends_are : ends ≡ map (λ stand. stand.end) stands_new
    -- and what is left of each channel is what its passes then leave
    pub left : IsRoll told orders (used ∷ []) (map (λ stand. stand.helm) stands_new) roll

  -- a new fleet with a channel for each of these setups was served and ended
  pub record IsSession (setups : List Setup) (worlds : List W) (front front_new : F) (turns : ℕ) (orders : Orders) (ends : List (Option HelmEnd)) (roll : List (Finished J)) : Type 0 where
    pub fleet : List TableId
    pub passes : List (List BerthView)
    pub helms : List HelmView
    pub made : IsNewFleet setups 1 fleet passes helms
    pub served : IsServedFleet fleet passes helms worlds front front_new turns orders ends roll
