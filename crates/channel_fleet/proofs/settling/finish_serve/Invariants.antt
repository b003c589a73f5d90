use Rattle.std.proofs.Common.{◌≡◌}
use Rattle.channel_fleet.specs.Fronts.{LooksOn}
use Rattle.channel_fleet.specs.Stands.{IsAtLock, StaysInServe}
use Rattle.channel_fleet.proofs.settling.finish_serve.Given as goal

-- so far the helm steered on, and the channel was looked at
abbrev pub invariant-loop : goal.invariant-loop
invariant-loop g l =
    StaysInServe g.W.World.log g.W.World.wait_faults l.fn.stand l.stand
    × (g.W.World.origin l.stand.world ≡ g.W.World.origin l.fn.stand.world)
    × IsAtLock l.channel l.stand.helm
    × LooksOn l.fn.pass l.pass
    × (l.pass.lock ≡ l.channel)
