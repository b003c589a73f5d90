use Rattle.std.proofs.Common.{◌≡◌}
use Rattle.channel_fleet.specs.Steering.{Goes}
use Rattle.channel_fleet.specs.Steersmen.{man_at}
use Rattle.channel_fleet.proofs.steersman.Steersman.run.Given as goal

-- so far such things were done
abbrev pub invariant-loop : goal.invariant-loop
invariant-loop g l =
    Goes l.fn.self.earlier l.fn.self.turns (man_at l.fn.self) (man_at l.self)
    × ((l.self.earlier ≡ l.fn.self.earlier) × (l.self.turns ≡ l.fn.self.turns))
    × (g.W.World.origin l.self.turner.world ≡ g.W.World.origin l.fn.self.turner.world)
