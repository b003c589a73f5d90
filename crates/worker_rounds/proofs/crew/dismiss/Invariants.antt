use Rattle.std.proofs.Common.{◌+◌, ◌≡◌, ◌≤◌, vec_capacity, vec_len}
use Rattle.worker_rounds.proofs.CrewLemmas.{IsDismissing}
use Rattle.worker_rounds.proofs.crew.dismiss.Given as goal

-- so far the first workers are taken apart, and there is room for the others
abbrev pub invariant-loop-crew : goal.invariant-loop-crew
invariant-loop-crew g l =
    IsDismissing (λ worker. worker.spender.place) l.fn.crew.items l.crew.items l.fn.passes.items l.passes.items
    × IsDismissing (λ worker. worker.pass) l.fn.crew.items l.crew.items l.fn.rights.items l.rights.items
    × (vec_len l.passes + vec_len l.crew ≤ vec_capacity l.passes)
    × (vec_len l.rights + vec_len l.crew ≤ vec_capacity l.rights)
    × (vec_capacity l.passes ≡ vec_capacity l.fn.passes)
    × (vec_capacity l.rights ≡ vec_capacity l.fn.rights)

abbrev pub decreases-loop-crew : goal.decreases-loop-crew
decreases-loop-crew g l = vec_len l.crew
