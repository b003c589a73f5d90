use Rattle.std.proofs.Common.{◌≡◌}
use Rattle.shared_channel_bench.proofs.lock.race.raise_in_holds.Given as goal

abbrev pub invariant-loop : goal.invariant-loop
invariant-loop g l = l.seat.lock ≡ l.lock
