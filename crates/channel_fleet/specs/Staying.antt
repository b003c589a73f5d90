-- What a caller says of all that is done with a fleet's passes and helms, so that the fleet can be finished.
use Rattle.std.specs.Prelude.{List, [], ◌∷◌, ⊤}
use Rattle.channel_fleet.specs.Views.{BerthView, HelmView}
use Rattle.shared_channel.specs.Staying.{StaysSettled}

-- each of these berths has the pass that it had, which is settled if it was
abbrev pub BerthsStay : List BerthView → List BerthView → Type 0
BerthsStay [] [] = ⊤
BerthsStay [] (new ∷ news) = ⊥
BerthsStay (old ∷ olds) [] = ⊥
BerthsStay (old ∷ olds) (new ∷ news) = StaysSettled old.pass new.pass × BerthsStay olds news

-- the same of each of these callers, one by one
abbrev pub AllBerthsStay : List (List BerthView) → List (List BerthView) → Type 0
AllBerthsStay [] [] = ⊤
AllBerthsStay [] (new ∷ news) = ⊥
AllBerthsStay (old ∷ olds) [] = ⊥
AllBerthsStay (old ∷ olds) (new ∷ news) = BerthsStay old new × AllBerthsStay olds news

-- and each of these helms has both of its passes still
abbrev pub AllHelmsStay : List HelmView → List HelmView → Type 0
AllHelmsStay [] [] = ⊤
AllHelmsStay [] (new ∷ news) = ⊥
AllHelmsStay (old ∷ olds) [] = ⊥
AllHelmsStay (old ∷ olds) (new ∷ news) = StaysSettled old.caller new.caller × StaysSettled old.turner new.turner × AllHelmsStay olds news
