use Rattle.std.proofs.Common.{◌≡◌, ◌≤◌, Bool, List}
use Rattle.std.specs.Prelude.{count_by}
use Rattle.channel_model.specs.Meanings.{Destroys}
use Rattle.channel_fleet.specs.Views.{IsAtFleet}
use Rattle.channel_fleet.proofs.CallingLemmas.{CallsSoFar}
use Rattle.channel_fleet.proofs.fleet.Fleet.destroy.Given as goal

-- so far the first channels have answered, and the count is that of those that answered true
abbrev pub invariant-loop-index : goal.invariant-loop-index
invariant-loop-index g l =
    (answers : List Bool) × CallsSoFar Destroys answers l.index l.fn.pass l.pass × (l.count ≡ count_by (λ is_first. is_first) answers) × IsAtFleet l.self l.pass × (l.count ≤ l.index)
