use Rattle.std.proofs.Common.{◌∷◌, ◌≡◌, ◌≤◌, vec_capacity}
use Rattle.pooled_places.specs.Standing.{AreStill}
use Rattle.shared_channel.specs.Settling.{AreSettled}
use Rattle.shared_session.specs.Turnings.{turning_at}
use Rattle.worker_session.specs.declared.coming.Coming.TheVariants.{UnderWay}
use Rattle.shared_session.specs.Serving.{HasGone, IsBetween}
use Rattle.shared_session.proofs.serving.serve_all.Given as goal

-- so far the session went, and more turns may be made
abbrev pub invariant-loop : goal.invariant-loop
invariant-loop g l =
    HasGone l.fn.orders l.fn.team.owner l.fn.team.workers.items (turning_at l.fn.pump) l.old.owner l.old.workers.items (turning_at l.turner)
    × AreStill (l.fn.team.owner ∷ l.fn.team.workers.items) (l.old.owner ∷ l.old.workers.items)
    × (AreSettled (l.fn.team.owner ∷ l.fn.team.workers.items) → AreSettled (l.old.owner ∷ l.old.workers.items))
    × (vec_capacity l.fn.team.workers ≤ vec_capacity l.old.workers)
    × (l.turner.turner.coming ≡ UnderWay)
    × IsBetween (turning_at l.turner)
    × (g.W.World.origin l.turner.turner.world ≡ g.W.World.origin l.fn.pump.turner.world)
