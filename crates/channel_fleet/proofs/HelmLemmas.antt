-- A new fleet's helms at its channels, and what steering leaves of them.
use Rattle.std.proofs.Common.{◌≡◌, ◌∙◌, ℕ, ◌+◌, List, [], ◌∷◌, ◌++◌, length, map, refl, ap, sym, arith, inl, inr}
use Rattle.atomic_table.specs.Seated.{TableId}
use Rattle.channel_fleet.specs.Making.{AreNewChannels, setting_of}
use Rattle.channel_fleet.specs.Serving.{Serves, Watch}
use Rattle.channel_fleet.specs.Stands.{AreHelmsOf}
use Rattle.channel_fleet.specs.Views.{BerthView, HelmView, IsHelmAt, first_berths, later_berths, passes_with}
use Rattle.channel_fleet.specs.declared.helm_end.HelmEnd.{HelmEnd}
use Rattle.channel_fleet.specs.declared.setup.Setup.{Setup}
use Rattle.shared_channel.specs.Passes.{PassView}
use Rattle.shared_channel.specs.Staying.{StaysSettled}
use Rattle.shared_channel.proofs.Theorems.{all_at, stays_same}
use Rattle.channel_fleet.proofs.RoundLemmas.{all_parts}

-- steering leaves both passes settled
pub stays_serves : (turns : ℕ) (old new : Watch) (end : HelmEnd) → Serves turns old end new → StaysSettled old.helm.caller new.helm.caller × StaysSettled old.helm.turner new.helm.turner
stays_serves turns old new end (inl began) = (began.served.settled_caller, began.served.settled_turner)
stays_serves turns old new end (inr not_begun) = (stays_same old.helm.caller new.helm.caller (ap (λ (h : HelmView). h.caller) not_begun.helm), stays_same old.helm.turner new.helm.turner (ap (λ (h : HelmView). h.turner) not_begun.helm))

-- the one helm of a fleet with one channel is at it
pub one_helm : (callers : ℕ) (setups : List Setup) (locks : List TableId) (rows : List (List BerthView)) (rest : List HelmView) (helm : HelmView) → AreNewChannels callers setups locks rows (rest ++ helm ∷ []) → length setups ≡ 1 → (rest ≡ []) × IsHelmAt 0 locks helm
one_helm callers [] locks rows rest helm new one = absurd (omega (arith, one))
one_helm callers (s ∷ t ∷ ss) locks rows rest helm new one = absurd (omega (arith, one))
one_helm callers (s ∷ []) [] rows rest helm new one = absurd new
one_helm callers (s ∷ []) (l ∷ ls) rows [] helm new one =
    let at = (all_parts (λ (p : PassView). p.lock ≡ l) _ (helm.caller ∷ helm.turner ∷ []) (all_at l (setting_of s) (callers + 2) (passes_with (first_berths rows) helm) new.0.made)).1 in
    (refl, record { turner = at.1.0; caller = at.0 ∙ sym at.1.0 })
one_helm callers (s ∷ []) (l ∷ k ∷ ls) rows (h ∷ hs) helm new one = absurd new.1
one_helm callers (s ∷ []) (l ∷ []) rows (h ∷ []) helm new one = absurd new.1
one_helm callers (s ∷ []) (l ∷ []) rows (h ∷ i ∷ hs) helm new one = absurd new.1

-- the helms of a new fleet are at their channels
pub new_helms : (callers : ℕ) (setups : List Setup) (locks : List TableId) (rows : List (List BerthView)) (helms : List HelmView) → AreNewChannels callers setups locks rows helms → AreHelmsOf locks helms
new_helms callers [] [] rows [] new = tt
new_helms callers [] [] rows (h ∷ hs) new = absurd new
new_helms callers [] (l ∷ ls) rows helms new = absurd new
new_helms callers (s ∷ ss) [] rows helms new = absurd new
new_helms callers (s ∷ ss) (l ∷ ls) rows [] new = absurd new
new_helms callers (s ∷ ss) (l ∷ ls) rows (h ∷ hs) new =
    let at = (all_parts (λ (p : PassView). p.lock ≡ l) _ (h.caller ∷ h.turner ∷ []) (all_at l (setting_of s) (callers + 2) (passes_with (first_berths rows) h) new.0.made)).1 in
    ((at.1.0, at.0), new_helms callers ss ls (map later_berths rows) hs new.1)
