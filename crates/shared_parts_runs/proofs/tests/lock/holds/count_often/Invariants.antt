use Rattle.std.proofs.Common.{◌≡◌}
use Rattle.seat_lock.specs.History.{IsSameSeat}
use Rattle.shared_parts_runs.proofs.tests.lock.holds.count_often.Given as goal

abbrev pub invariant-loop : goal.invariant-loop
invariant-loop g l = (l.seat.lock ≡ l.lock) × IsSameSeat l.fn.seat l.seat
