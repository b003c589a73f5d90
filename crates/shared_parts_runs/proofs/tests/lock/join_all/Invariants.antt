use Rattle.std.proofs.Common.{vec_len}
use Rattle.shared_parts_runs.specs.SeatRow.{HasRest}
use Rattle.shared_parts_runs.proofs.tests.lock.join_all.Given as goal

abbrev pub invariant-loop-next : goal.invariant-loop-next
invariant-loop-next g l = HasRest l.lock (vec_len l.fn.seats) l.seats.items l.all

abbrev pub decreases-loop-next : goal.decreases-loop-next
decreases-loop-next g l = vec_len l.seats
