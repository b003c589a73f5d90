use Rattle.std.specs.Prelude.{All, None, ◌≡◌}
use Rattle.ahost_workers_runs.proofs.tests.bodies.bodies_for.Given as goal

-- the bodies so far were told nothing
abbrev pub invariant-loop-deeds : goal.invariant-loop-deeds
invariant-loop-deeds l = All (λ body. body.told ≡ None) l.made.items
