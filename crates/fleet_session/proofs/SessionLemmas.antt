-- A fleet with one caller that is served and ended.
use Rattle.std.proofs.Common.{◌≡◌, ◌∙◌, ℕ, List, [], ◌∷◌, ◌++◌, length, map, refl, ap, sym, arith}
use Rattle.std.proofs.lemmas.List.{length-append, length-map}
use Rattle.atomic_table.specs.Seated.{TableId}
use Rattle.channel_fleet.specs.Making.{AreNewChannels}
use Rattle.channel_fleet.specs.Staying.{AllHelmsStay}
use Rattle.channel_fleet.specs.Views.{BerthView, HelmView, later_berths}
use Rattle.channel_fleet.specs.declared.setup.Setup.{Setup}

-- the one pass of a list
pub one_pass : {X : Type 0} (rest : List X) (passes : List X) (pass : X) → passes ≡ rest ++ pass ∷ [] → length passes ≡ 1 → rest ≡ []
one_pass [] passes pass is one = refl
one_pass (r ∷ rs) passes pass is one = absurd (omega (arith, one, ap length is, length-append rs (pass ∷ [])))

-- helms that stayed are as many as they were
pub helms_len : (olds news : List HelmView) → AllHelmsStay olds news → length news ≡ length olds
helms_len [] [] stay = refl
helms_len [] (n ∷ ns) stay = absurd stay
helms_len (o ∷ os) [] stay = absurd stay
helms_len (o ∷ os) (n ∷ ns) stay = omega (arith, helms_len os ns stay.2)

-- stands whose helms stayed are as many as they were
pub stands_len : {X : Type 0} (helm : X → HelmView) (olds news : List X) → AllHelmsStay (map helm olds) (map helm news) → length news ≡ length olds
stands_len helm olds news stay = sym (length-map news helm) ∙ helms_len (map helm olds) (map helm news) stay ∙ length-map olds helm

-- a new fleet has a helm for each setup
pub helms_many : (callers : ℕ) (setups : List Setup) (locks : List TableId) (rows : List (List BerthView)) (helms : List HelmView) → AreNewChannels callers setups locks rows helms → length helms ≡ length setups
helms_many callers [] [] rows [] new = refl
helms_many callers [] [] rows (h ∷ hs) new = absurd new
helms_many callers [] (l ∷ ls) rows helms new = absurd new
helms_many callers (s ∷ ss) [] rows helms new = absurd new
helms_many callers (s ∷ ss) (l ∷ ls) rows [] new = absurd new
helms_many callers (s ∷ ss) (l ∷ ls) rows (h ∷ hs) new = omega (arith, helms_many callers ss ls (map later_berths rows) hs new.1)
