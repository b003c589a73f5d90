-- What a caller says of all that is done through a pass, so that its channel can be finished.
use Rattle.std.specs.List.{AllByRecursion}
use Rattle.std.specs.Prelude.{List, [], ◌∷◌, ◌≡◌, ⊤}
use Rattle.atomic_table.specs.Seated.{TableId}
use Rattle.shared_channel.specs.Passes.{PassView}
use Rattle.shared_channel.specs.Settling.{IsSettled}

-- it is the same pass, and if it had told the answers of all that it took, it has so again
pub record StaysSettled (old new : PassView) : Type 0 where
  pub same : new ≡ record old { own = new.own; seen = new.seen; calls = new.calls; lost = new.lost }
  pub settled : IsSettled old → IsSettled new

-- the same of each of these passes, one by one
abbrev pub AllStaySettled : List PassView → List PassView → Type 0
AllStaySettled [] [] = ⊤
AllStaySettled [] (new ∷ news) = ⊥
AllStaySettled (old ∷ olds) [] = ⊥
AllStaySettled (old ∷ olds) (new ∷ news) = StaysSettled old new × AllStaySettled olds news

-- these passes are at the lock
abbrev pub AreAt : TableId → List PassView → Type 0
AreAt lock passes = AllByRecursion (λ pass. pass.lock ≡ lock) passes
