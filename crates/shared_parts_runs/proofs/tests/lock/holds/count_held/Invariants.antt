use Rattle.seat_lock.specs.History.{IsSameSeat}
use Rattle.shared_parts_runs.proofs.tests.lock.holds.count_held.Given as goal

abbrev pub invariant-loop : goal.invariant-loop
invariant-loop g l = IsSameSeat l.fn.seat l.hold
