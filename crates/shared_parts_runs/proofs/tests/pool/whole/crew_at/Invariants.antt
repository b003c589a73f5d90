use Rattle.std.proofs.Common.{◌≡◌, vec_len}
use Rattle.shared_parts_runs.proofs.PassLemmas.{IsHiring}
use Rattle.shared_parts_runs.proofs.tests.pool.whole.crew_at.Given as goal

abbrev pub invariant-loop-pass : goal.invariant-loop-pass
invariant-loop-pass g l = (vec_len l.passes ≡ vec_len l.spenders) × IsHiring l.pool.queue l.fn.passes.items l.passes.items l.crew.items

abbrev pub decreases-loop-pass : goal.decreases-loop-pass
decreases-loop-pass g l = vec_len l.passes
