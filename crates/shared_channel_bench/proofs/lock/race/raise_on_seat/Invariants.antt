use Rattle.std.proofs.Common.{◌≡◌}
use Rattle.seat_lock.specs.History.{IsSameSeat}
use Rattle.shared_channel_bench.proofs.lock.race.raise_on_seat.Given as goal

abbrev pub invariant-loop : goal.invariant-loop
invariant-loop g l = (l.seat.lock ≡ l.lock) × IsSameSeat l.fn.seat l.seat
