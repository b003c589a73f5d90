use Rattle.std.specs.Prelude.{All, None, ◌≡◌}
use Rattle.ahost_faults.proofs.tests.bodies.bodies_of.Given as goal

-- the bodies so far were told nothing
abbrev pub invariant-loop-own : goal.invariant-loop-own
invariant-loop-own l = All (λ body. body.told ≡ None) l.bodies.items
