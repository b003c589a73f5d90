use Rattle.std.specs.Prelude.{All, None, ◌≡◌}
use Rattle.loopback_runs.proofs.tests.workers.bodies_of.Given as goal

-- the bodies so far were told nothing
abbrev pub invariant-loop-tag : goal.invariant-loop-tag
invariant-loop-tag l = All (λ body. body.told ≡ None) l.bodies.items
