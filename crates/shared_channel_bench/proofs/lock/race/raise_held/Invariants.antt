use Rattle.seat_lock.specs.History.{IsSameSeat}
use Rattle.shared_channel_bench.proofs.lock.race.raise_held.Given as goal

abbrev pub invariant-loop : goal.invariant-loop
invariant-loop g l = IsSameSeat l.fn.seat l.hold
