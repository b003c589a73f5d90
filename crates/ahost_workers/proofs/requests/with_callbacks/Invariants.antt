use Rattle.std.proofs.Common.{◌≡◌, All, None, ◌++◌, length}
use Rattle.ahost_workers.specs.Asked.{requests_of}
use Rattle.ahost_workers.proofs.requests.with_callbacks.Given as goal

-- the bodies that are left were told nothing, and the requests so far with those that are left to be made are all
abbrev pub invariant-loop-spec : goal.invariant-loop-spec
invariant-loop-spec g l =
    All (λ body. g.B.Done.told body ≡ None) l.bodies.items
    × (requests_of g.B.Done.plan g.B.Done.name l.fn.specs l.fn.bodies.items ≡ l.requests.items ++ requests_of g.B.Done.plan g.B.Done.name l.specs.items l.bodies.items)

abbrev pub decreases-loop-spec : goal.decreases-loop-spec
decreases-loop-spec g l = length l.specs.items
