use Rattle.std.specs.Prelude.{All, None, length, ◌≡◌}
use Rattle.ahost.proofs.bodies.report_bodies.Given as goal

-- the bodies so far were told nothing, and there is one for each tag
abbrev pub invariant-loop-tag : goal.invariant-loop-tag
invariant-loop-tag l = All (λ body. body.told ≡ None) l.bodies.items × (length l.bodies.items ≡ l.tag)
