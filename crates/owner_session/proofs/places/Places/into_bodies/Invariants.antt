use Rattle.std.proofs.Common.{◌≡◌, ◌+◌, ◌≤◌, ◌++◌}
use Rattle.std.specs.Prelude.{filter_map}
use Rattle.std.specs.Vec.{vec_len}
use Rattle.std.specs.VecDeque.{deque_capacity, deque_len}
use Rattle.owner_session.proofs.places.Places.into_bodies.Given as goal

-- what is still at its place stands before what was put in front of the others, and there is room for it
abbrev pub invariant-loop-place : goal.invariant-loop-place
invariant-loop-place g l =
    (filter_map (λ place. place) l.places.items ++ l.bodies.items ≡ filter_map (λ place. place) l.fn.self.back ++ l.fn.self.rest)
    × (deque_len l.bodies + vec_len l.places ≤ deque_capacity l.bodies)

abbrev pub decreases-loop-place : goal.decreases-loop-place
decreases-loop-place g l = vec_len l.places
