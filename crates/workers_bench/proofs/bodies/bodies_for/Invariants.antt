use Rattle.std.specs.Prelude.{All, None, ◌≡◌}
use Rattle.workers_bench.proofs.bodies.bodies_for.Given as goal

-- the bodies so far were told nothing
abbrev pub invariant-loop-tag : goal.invariant-loop-tag
invariant-loop-tag l = All (λ body. body.inner.told ≡ None) l.bodies.items
