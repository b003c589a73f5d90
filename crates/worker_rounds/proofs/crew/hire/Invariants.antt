use Rattle.std.proofs.Common.{◌≡◌, ◌+◌, ◌≤◌, vec_capacity, vec_len}
use Rattle.shared_channel.specs.Staying.{AreAt}
use Rattle.worker_rounds.proofs.CrewLemmas.{IsHiring}
use Rattle.worker_rounds.proofs.crew.hire.Given as goal

-- so far the first passes are in workers, and there is room for the others
abbrev pub invariant-loop-orders : goal.invariant-loop-orders
invariant-loop-orders g l =
    IsHiring (λ its. its.place) (λ its. its.orders) l.pool.pool l.orders l.fn.passes.items l.passes.items l.rights.items l.crew.items
    × AreAt l.channel l.passes.items
    × (vec_len l.rights ≡ vec_len l.passes)
    × (vec_len l.crew + vec_len l.passes ≤ vec_capacity l.crew)
    × (vec_capacity l.passes ≡ vec_capacity l.fn.passes)
    × (vec_capacity l.rights ≡ vec_capacity l.fn.rights)

abbrev pub decreases-loop-orders : goal.decreases-loop-orders
decreases-loop-orders g l = vec_len l.passes
