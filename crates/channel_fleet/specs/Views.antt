-- What contracts see of a fleet's passes and helms. A fleet is seen as its channels, each by the identity of its lock.
use Rattle.std.specs.Prelude.{Bool, List, Option, slice_index_or, ℕ, [], map, ◌++◌, ◌∷◌, ◌≡◌}
use Rattle.atomic_table.specs.Seated.{TableId}
use Rattle.channel_fleet.specs.declared.shown.Shown.{Shown}
use Rattle.event_runner.specs.Running.{Running}
use Rattle.shared_channel.specs.Passes.{PassView}

-- a caller's right to one channel, and what its reader of that channel's counts has seen
pub record BerthView : Type 0 where
  pub pass : PassView
  pub shown : List Shown

-- a caller's right to a fleet has a berth at each channel, in order: it is at this fleet
abbrev pub IsAtFleet : List TableId → List BerthView → Type 0
IsAtFleet fleet berths = map (λ berth. berth.pass.lock) berths ≡ fleet

-- what brings one channel to its answers: the pass through which it makes turns, the pass through which it takes requests and calls callbacks, what it published, what makes its turns once it has begun, whether it made a turn since it last waited, and how many it made
pub record HelmView : Type 0 where
  pub turner : PassView
  pub caller : PassView
  pub told : List Shown
  pub runner : Option Running
  pub behind_turn : Bool
  pub made : ℕ

-- a helm is at the channel of this fleet with this index
pub record IsHelmAt (channel : ℕ) (fleet : List TableId) (helm : HelmView) : Type 0 where
  pub turner : helm.turner.lock ≡ slice_index_or fleet channel helm.turner.lock
  pub caller : helm.caller.lock ≡ helm.turner.lock

-- the berths of these callers at their first channel
abbrev pub first_berths : List (List BerthView) → List BerthView
first_berths [] = []
first_berths ([] ∷ passes) = first_berths passes
first_berths ((berth ∷ berths) ∷ passes) = berth ∷ first_berths passes

-- a caller's berths at the channels behind the first
abbrev pub later_berths : List BerthView → List BerthView
later_berths [] = []
later_berths (berth ∷ berths) = berths

-- the passes of one channel: those of the callers' berths there, in their order, and its helm's two
abbrev pub passes_with : List BerthView → HelmView → List PassView
passes_with berths helm = map (λ berth. berth.pass) berths ++ helm.caller ∷ helm.turner ∷ []
