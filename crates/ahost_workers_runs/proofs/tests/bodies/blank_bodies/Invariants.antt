use Rattle.std.specs.Prelude.{All, None, ◌≡◌}
use Rattle.ahost_workers_runs.proofs.tests.bodies.blank_bodies.Given as goal

-- the bodies so far were told nothing
abbrev pub invariant-loop-tag : goal.invariant-loop-tag
invariant-loop-tag l = All (λ body. body.told ≡ None) l.made.items
