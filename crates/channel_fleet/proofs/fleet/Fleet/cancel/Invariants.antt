use Rattle.std.proofs.Common.{◌≡◌, ◌-◌, ◌^◌, List, min, ℕ}
use Rattle.std.specs.Prelude.{sum}
use Rattle.channel_model.specs.Meanings.{Cancels}
use Rattle.channel_fleet.specs.Views.{IsAtFleet}
use Rattle.channel_fleet.proofs.CallingLemmas.{CallsSoFar}
use Rattle.channel_fleet.proofs.fleet.Fleet.cancel.Given as goal

-- so far the first channels have answered, and the count is the sum of their answers
abbrev pub invariant-loop-index : goal.invariant-loop-index
invariant-loop-index g l =
    (answers : List ℕ) × CallsSoFar Cancels answers l.index l.fn.pass l.pass × (l.count ≡ min (sum answers) (2 ^ 64 - 1)) × IsAtFleet l.self l.pass
