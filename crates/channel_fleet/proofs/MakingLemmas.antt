-- A fleet that is made channel by channel.
use Rattle.std.proofs.Common.{◌≡◌, ◌∙◌, ◌<◌, ◌≤◌, ℕ, suc, ◌+◌, List, [], ◌∷◌, ◌++◌, length, map, refl, ap, sym, subst, arith}
use Rattle.std.proofs.lemmas.List.{length-map, map-append}
use Rattle.std.specs.List.{AllByRecursion}
use Rattle.std.specs.Prelude.{slice_index_or}
use Rattle.atomic_table.specs.Seated.{TableId}
use Rattle.channel_fleet.specs.Finishing.{EachMayFinish}
use Rattle.channel_fleet.specs.Making.{AreNewChannels, IsNewAt, setting_of}
use Rattle.channel_fleet.specs.Views.{BerthView, HelmView, first_berths, later_berths, passes_with}
use Rattle.channel_fleet.specs.Yards.{IsMannedBy, new_berth, with_berths}
use Rattle.channel_fleet.specs.declared.setup.Setup.{Setup}
use Rattle.channel_fleet.specs.declared.shown.Shown.{Shown}
use Rattle.channel_model.specs.Setting.{Setting}
use Rattle.resolv_options.specs.declared.options.Options.{Options}
use Rattle.shared_channel.specs.Finishing.{AreAllPasses, IsOneOf}
use Rattle.shared_channel.specs.Making.{IsNewChannel}
use Rattle.shared_channel.specs.Passes.{PassView}
use Rattle.shared_channel.proofs.Theorems.{all_at, all_stay_none, may_finish}
use Rattle.channel_fleet.proofs.RoundLemmas.{all_parts}
use Rattle.channel_fleet.proofs.RowLemmas.{first_of_none, first_of_some, later_len, later_of_some}

-- a channel more
pub channels_more : (callers : ℕ) (setups : List Setup) (locks : List TableId) (rows : List (List BerthView)) (helms : List HelmView) (setup : Setup) (lock : TableId) (berths : List BerthView) (helm : HelmView)
    → AllByRecursion (λ row. length row ≡ length locks) rows → length berths ≡ length rows → AreNewChannels callers setups locks rows helms → IsNewAt callers setup lock berths helm
    → AreNewChannels callers (setups ++ setup ∷ []) (locks ++ lock ∷ []) (with_berths rows berths) (helms ++ helm ∷ [])
channels_more callers [] [] rows [] setup lock berths helm lens same new one = (subst (λ bs. IsNewAt callers setup lock bs helm) (sym (first_of_none rows berths lens same)) one, tt)
channels_more callers [] [] rows (h ∷ hs) setup lock berths helm lens same new one = absurd new
channels_more callers [] (l ∷ ls) rows helms setup lock berths helm lens same new one = absurd new
channels_more callers (s ∷ ss) [] rows helms setup lock berths helm lens same new one = absurd new
channels_more callers (s ∷ ss) (l ∷ ls) rows [] setup lock berths helm lens same new one = absurd new
channels_more callers (s ∷ ss) (l ∷ ls) rows (h ∷ hs) setup lock berths helm lens same new one = (
  subst (λ bs. IsNewAt callers s l bs h) (sym (first_of_some (length ls) rows berths lens same)) new.0,
  subst (λ rs. AreNewChannels callers (ss ++ setup ∷ []) (ls ++ lock ∷ []) rs (hs ++ helm ∷ [])) (sym (later_of_some (length ls) rows berths lens same))
      (channels_more callers ss ls (map later_berths rows) hs setup lock berths helm (later_len (length ls) rows lens) (same ∙ sym (length-map rows later_berths)) new.1 one),
)

-- the berths at a new channel are at it
pub berths_at : {callers : ℕ} {setup : Setup} {lock : TableId} {berths : List BerthView} {helm : HelmView} → IsNewAt callers setup lock berths helm → AllByRecursion (λ berth. berth.pass.lock ≡ lock) berths
berths_at {callers} {setup} {lock} {berths} {helm} new = unmapped berths (all_parts (λ (p : PassView). p.lock ≡ lock) (map (λ (b : BerthView). b.pass) berths) (helm.caller ∷ helm.turner ∷ []) (all_at lock (setting_of setup) (callers + 2) (passes_with berths helm) new.made)).0
  where
    unmapped : (bs : List BerthView) → AllByRecursion (λ (p : PassView). p.lock ≡ lock) (map (λ (b : BerthView). b.pass) bs) → AllByRecursion (λ berth. berth.pass.lock ≡ lock) bs
    unmapped [] each = tt
    unmapped (b ∷ bs) each = (each.0, unmapped bs each.1)

-- a channel that is manned is new
pub manned : (callers : ℕ) (setup : Setup) (lock : TableId) (passes : List PassView) (berths : List BerthView) (helm : HelmView) → IsNewChannel lock (setting_of setup) (callers + 2) passes → IsMannedBy passes berths helm → IsNewAt callers setup lock berths helm
manned callers setup lock passes berths helm made by = record {
  made = subst (IsNewChannel lock (setting_of setup) (callers + 2)) (by.passes_are ∙ ap (λ l. l ++ helm.caller ∷ helm.turner ∷ []) (sym (own_is by.own) ∙ sym (ap (map (λ (b : BerthView). b.pass)) by.berths_are))) made;
  unseen = subst (AllByRecursion (λ (b : BerthView). b.shown ≡ [])) (sym by.berths_are) (none_seen by.own);
  untold = by.untold;
  unturned = by.unturned;
}
  where
    own_is : (ps : List PassView) → map (λ (b : BerthView). b.pass) (map new_berth ps) ≡ ps
    own_is [] = refl
    own_is (p ∷ ps) = ap (λ l. p ∷ l) (own_is ps)

    none_seen : (ps : List PassView) → AllByRecursion (λ (b : BerthView). b.shown ≡ []) (map new_berth ps)
    none_seen [] = tt
    none_seen (p ∷ ps) = (refl, none_seen ps)

-- new channels with which nothing was done may be finished
pub new_may_finish : (callers : ℕ) (setups : List Setup) (locks : List TableId) (rows : List (List BerthView)) (helms : List HelmView) → AreNewChannels callers setups locks rows helms → EachMayFinish locks rows helms
new_may_finish callers [] [] rows [] new = tt
new_may_finish callers [] [] rows (h ∷ hs) new = absurd new
new_may_finish callers [] (l ∷ ls) rows helms new = absurd new
new_may_finish callers (s ∷ ss) [] rows helms new = absurd new
new_may_finish callers (s ∷ ss) (l ∷ ls) rows [] new = absurd new
new_may_finish callers (s ∷ ss) (l ∷ ls) rows (h ∷ hs) new =
    let one = may_finish (passes_with (first_berths rows) h) new.0.made (omega arith) (all_stay_none (passes_with (first_berths rows) h)) in
    (one.0, one.1, new_may_finish callers ss ls (map later_berths rows) hs new.1)

-- a pass more has its berth, with a reader that has seen nothing
pub berthed_more : (yielded : List PassView) (pass : PassView) (berths news : List BerthView) (watchers fewer : List (List Shown)) (seen : List Shown) → berths ≡ map new_berth yielded → AllByRecursion (λ (s : List Shown). s ≡ []) watchers → watchers ≡ fewer ++ seen ∷ [] → news ≡ berths ++ record { pass = pass; shown = seen } ∷ []
    → (news ≡ map new_berth (yielded ++ pass ∷ [])) × AllByRecursion (λ (s : List Shown). s ≡ []) fewer
berthed_more yielded pass berths news watchers fewer seen so_far none watchers_are news_are =
    let both = all_parts (λ (s : List Shown). s ≡ []) fewer (seen ∷ []) (subst (AllByRecursion (λ (s : List Shown). s ≡ [])) watchers_are none) in (
      news_are ∙ ap (λ s. berths ++ record { pass = pass; shown = s } ∷ []) both.1.0 ∙ ap (λ l. l ++ new_berth pass ∷ []) so_far ∙ sym (map-append new_berth yielded (pass ∷ [])),
      both.0,
    )

-- each of a new channel's passes has its setting
pub options_fit : {lock : TableId} {setting : Setting} {count : ℕ} {passes : List PassView} (options : Options) → IsNewChannel lock setting count passes → options ≡ setting.options → AllByRecursion (λ pass. options ≡ pass.setting.options) passes
options_fit {lock} {setting} {count} {passes} options made is = fit passes (λ k d here. ap (λ (p : PassView). p.setting.options) (made.each k d (omega (arith, here, made.all))))
  where
    fit : (ps : List PassView) → ((k : ℕ) (d : PassView) → k < length ps → (slice_index_or ps k d).setting.options ≡ setting.options) → AllByRecursion (λ (p : PassView). options ≡ p.setting.options) ps
    fit [] each = tt
    fit (p ∷ ps) each = (is ∙ sym (each 0 p (omega arith)), fit ps (λ k d here. each (suc k) d (omega (arith, here))))

-- so there is room for them where there is room for so many
pub seats_fit : {lock : TableId} {setting : Setting} {count : ℕ} {passes : List PassView} (room : ℕ) → IsNewChannel lock setting count passes → 0 < count → count ≤ room → AllByRecursion (λ pass. pass.seats ≤ room) passes
seats_fit {lock} {setting} {count} {passes} room made some fits = fit passes all.each
  where
    all : AreAllPasses lock passes
    all = (may_finish passes made some (all_stay_none passes)).0

    fit : (ps : List PassView) → AllByRecursion (IsOneOf lock all.setting (length passes)) ps → AllByRecursion (λ (p : PassView). p.seats ≤ room) ps
    fit [] each = tt
    fit (p ∷ ps) each = (omega (arith, each.0.seats_are, made.all, fits), fit ps each.1)
