use Rattle.std.proofs.Common.{None, ◌≡◌}
use Rattle.worker_rounds.specs.Course.{Draws}
use Rattle.worker_rounds.proofs.keeper.draw_through.Given as goal

-- the place is at the channel, and so far nothing was taken
abbrev pub invariant-loop : goal.invariant-loop
invariant-loop g l = (l.place.lock ≡ l.channel) × Draws g.P.Pump.steps l.fn.place l.fn.pump None l.place l.pump
