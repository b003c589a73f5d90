use Rattle.std.proofs.Common.{◌≤◌, ◌-◌, vec_capacity, vec_len}
use Rattle.seat_lock.specs.History.{FindsEach, IsSameSeat}
use Rattle.seat_lock.proofs.lock.SeatLock.take_turns.Given as goal

-- these were found so far
abbrev pub invariant-loop-op : goal.invariant-loop-op
invariant-loop-op g l =
    IsSameSeat l.fn.seat l.seat × (vec_len l.found ≤ l.most) × (l.most ≤ vec_capacity l.found)
    × FindsEach g.S.Kept.maker (g.O.Op.means l.op) l.fn.seat l.found.items l.seat

abbrev pub decreases-loop-op : goal.decreases-loop-op
decreases-loop-op g l = l.most - vec_len l.found
