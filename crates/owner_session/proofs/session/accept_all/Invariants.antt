use Rattle.std.proofs.Common.{◌≡◌, All, None, map, length}
use Rattle.owner_session.proofs.AcceptLemmas.{AcceptsSome}
use Rattle.owner_session.proofs.PlaceLemmas.{HaveAskedSome}
use Rattle.owner_session.proofs.session.accept_all.Given as goal

-- the requests so far were accepted, their bodies have places, and the bodies that are left were told nothing
abbrev pub invariant-loop-spec : goal.invariant-loop-spec
invariant-loop-spec g l =
    (l.alone.voice ≡ 0) × All (λ body. g.B.Done.told body ≡ None) l.places.rest
    × AcceptsSome l.fn.specs.items l.specs.items (map g.B.Done.plan l.fn.places.rest) (map g.B.Done.plan l.places.rest) l.fn.alone l.alone
    × HaveAskedSome g.B.Done.name g.B.Done.told l.fn.places.rest l.alone l.places

abbrev pub decreases-loop-spec : goal.decreases-loop-spec
decreases-loop-spec g l = length l.specs.items
