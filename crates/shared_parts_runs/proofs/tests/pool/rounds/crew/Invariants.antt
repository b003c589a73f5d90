use Rattle.std.proofs.Common.{◌≡◌, vec_len}
use Rattle.shared_parts_runs.proofs.tests.pool.rounds.crew.Given as goal

abbrev pub invariant-loop : goal.invariant-loop
invariant-loop l = vec_len l.crew ≡ l.counter
