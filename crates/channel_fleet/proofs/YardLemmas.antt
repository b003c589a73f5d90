-- A yard to which a channel is added, and one that is taken apart.
use Rattle.std.proofs.Common.{◌≡◌, ◌∙◌, ◌≤◌, ℕ, suc, ◌+◌, List, [], ◌∷◌, ◌++◌, length, map, refl, ap, sym, subst, arith}
use Rattle.std.proofs.lemmas.List.{length-append, length-map}
use Rattle.std.specs.List.{AllByRecursion}
use Rattle.std.specs.Prelude.{vec_capacity, vec_len}
use Rattle.atomic_table.specs.Seated.{TableId}
use Rattle.channel_fleet.specs.Finishing.{MayFinish}
use Rattle.channel_fleet.specs.Making.{AreNewChannels, IsNewAt, IsNewFleet}
use Rattle.channel_fleet.specs.Views.{BerthView, HelmView, IsAtFleet, later_berths}
use Rattle.channel_fleet.specs.Yards.{AddsTo, HasRoomFor, IsYard, with_berths}
use Rattle.channel_fleet.specs.declared.launching.Launched.{Launched}
use Rattle.channel_fleet.specs.declared.setup.Setup.{Setup}
use Rattle.channel_fleet.specs.declared.yard.Yard.{Yard}
use Rattle.channel_fleet.proofs.MakingLemmas.{berths_at, channels_more, new_may_finish}
use Rattle.channel_fleet.proofs.RowLemmas.{at_len, at_more, rooms_left, with_len}

-- there is a channel for each setup
pub channels_len : (callers : ℕ) (setups : List Setup) (locks : List TableId) (rows : List (List BerthView)) (helms : List HelmView) → AreNewChannels callers setups locks rows helms → length locks ≡ length setups
channels_len callers [] [] rows [] new = refl
channels_len callers [] [] rows (h ∷ hs) new = absurd new
channels_len callers [] (l ∷ ls) rows helms new = absurd new
channels_len callers (s ∷ ss) [] rows helms new = absurd new
channels_len callers (s ∷ ss) (l ∷ ls) rows [] new = absurd new
channels_len callers (s ∷ ss) (l ∷ ls) rows (h ∷ hs) new = ap suc (channels_len callers ss ls (map later_berths rows) hs new.1)

-- empty rows are at a fleet without a channel
pub none_at : {X : Type 0} (items : X → List BerthView) (P : X → Type 0) (rows : List X) → AllByRecursion (λ row. (items row ≡ []) × P row) rows → AllByRecursion (IsAtFleet []) (map items rows)
none_at items P [] each = tt
none_at items P (r ∷ rs) each = (ap (map (λ (b : BerthView). b.pass.lock)) each.0.0, none_at items P rs each.1)

module _ {B J : Type 0} where
  -- a yard without a channel
  pub yard_new : (callers most : ℕ) (yard : Yard B J) → yard.channels.items ≡ [] → yard.helms.items ≡ [] → AllByRecursion (λ row. (row.items ≡ []) × (vec_capacity row ≡ most)) yard.rows.items → vec_len yard.rows ≡ callers → IsYard callers [] yard
  yard_new callers most yard no_channel no_helm empty as_many =
      let rows : List (List BerthView) = map (λ row. row.items) yard.rows.items in
      record {
        as_many = omega (arith, as_many, yard.rows.ok.0);
        at = subst (λ fleet. AllByRecursion (IsAtFleet fleet) rows) (sym no_channel) (none_at (λ row. row.items) (λ row. vec_capacity row ≡ most) yard.rows.items empty);
        channels = subst (λ fleet. AreNewChannels callers [] fleet rows yard.helms.items) (sym no_channel) (subst (AreNewChannels callers [] [] rows) (sym no_helm) tt);
      }

  pub room_new : (count : ℕ) (yard : Yard B J) → yard.channels.items ≡ [] → yard.helms.items ≡ [] → yard.passes.items ≡ [] → yard.parts.items ≡ [] → count ≤ vec_capacity yard.channels → count ≤ vec_capacity yard.helms → count ≤ vec_capacity yard.parts → vec_len yard.rows ≤ vec_capacity yard.passes
      → AllByRecursion (λ row. (row.items ≡ []) × (vec_capacity row ≡ count)) yard.rows.items → HasRoomFor count yard
  room_new count yard no_channel no_helm no_pass no_part channels helms parts passes empty = record {
    channels = omega (arith, ap length no_channel, channels);
    helms = omega (arith, ap length no_helm, helms);
    rows = each (λ row. row.items) (λ row. vec_capacity row) yard.rows.items empty;
    no_pass = no_pass;
    passes = omega (arith, passes, yard.rows.ok.0);
    no_part = no_part;
    parts = omega (arith, ap length no_channel, parts);
  }
    where
      each : {X : Type 0} (items : X → List BerthView) (wide : X → ℕ) (rows : List X) → AllByRecursion (λ row. (items row ≡ []) × (wide row ≡ count)) rows → AllByRecursion (λ row. length (items row) + count ≤ wide row) rows
      each items wide [] all = tt
      each items wide (r ∷ rs) all = (omega (arith, ap length all.0.0, all.0.1), each items wide rs all.1)

  -- less room is wanted
  pub room_less : (count fewer : ℕ) (yard : Yard B J) → fewer ≤ count → HasRoomFor count yard → HasRoomFor fewer yard
  room_less count fewer yard less room = record {
    channels = omega (arith, less, room.channels);
    helms = omega (arith, less, room.helms);
    rows = each (λ row. row.items) (λ row. vec_capacity row) yard.rows.items room.rows;
    no_pass = room.no_pass;
    passes = room.passes;
    no_part = room.no_part;
    parts = omega (arith, less, room.parts);
  }
    where
      each : {X : Type 0} (items : X → List BerthView) (wide : X → ℕ) (rows : List X) → AllByRecursion (λ row. length (items row) + count ≤ wide row) rows → AllByRecursion (λ row. length (items row) + fewer ≤ wide row) rows
      each items wide [] all = tt
      each items wide (r ∷ rs) all = (omega (arith, less, all.0), each items wide rs all.1)

  -- a channel is added
  pub yard_more : (callers : ℕ) (setups : List Setup) (setup : Setup) (launched : Launched B J) (old new : Yard B J) → IsYard callers setups old → IsNewAt callers setup launched.channel launched.berths.items launched.helm → length launched.berths.items ≡ callers → AddsTo launched old new → IsYard callers (setups ++ setup ∷ []) new
  yard_more callers setups setup launched old new yard one len adds =
      let rows : List (List BerthView) = map (λ row. row.items) old.rows.items in
      let same : length launched.berths.items ≡ length rows = len ∙ sym yard.as_many ∙ sym (length-map old.rows.items (λ row. row.items)) in
      record {
        as_many = sym (length-map new.rows.items (λ row. row.items)) ∙ ap length adds.rows ∙ with_len rows launched.berths.items same ∙ length-map old.rows.items (λ row. row.items) ∙ yard.as_many;
        at = subst (λ fleet. AllByRecursion (IsAtFleet fleet) (map (λ row. row.items) new.rows.items)) (sym adds.channels)
            (subst (AllByRecursion (IsAtFleet (old.channels.items ++ launched.channel ∷ []))) (sym adds.rows) (at_more old.channels.items launched.channel rows launched.berths.items yard.at (berths_at one)));
        channels = subst (λ fleet. AreNewChannels callers (setups ++ setup ∷ []) fleet (map (λ row. row.items) new.rows.items) new.helms.items) (sym adds.channels)
            (subst (λ l. AreNewChannels callers (setups ++ setup ∷ []) (old.channels.items ++ launched.channel ∷ []) l new.helms.items) (sym adds.rows)
            (subst (AreNewChannels callers (setups ++ setup ∷ []) (old.channels.items ++ launched.channel ∷ []) (with_berths rows launched.berths.items)) (sym adds.helms)
            (channels_more callers setups old.channels.items rows old.helms.items setup launched.channel launched.berths.items launched.helm (at_len old.channels.items rows yard.at) same yard.channels one)));
      }

  pub room_after : (count : ℕ) (launched : Launched B J) (old new : Yard B J) → length launched.berths.items ≡ length old.rows.items → AddsTo launched old new → HasRoomFor (suc count) old → HasRoomFor count new
  room_after count launched old new same adds room =
      let channels : length new.channels.items ≡ length old.channels.items + 1 = ap length adds.channels ∙ length-append old.channels.items (launched.channel ∷ []) in
      let helms : length new.helms.items ≡ length old.helms.items + 1 = ap length adds.helms ∙ length-append old.helms.items (launched.helm ∷ []) in
      let rows : length new.rows.items ≡ length old.rows.items = sym (length-map new.rows.items (λ row. vec_capacity row)) ∙ ap length adds.rows_room ∙ length-map old.rows.items (λ row. vec_capacity row) in
      record {
        channels = omega (arith, channels, adds.channels_room, room.channels);
        helms = omega (arith, helms, adds.helms_room, room.helms);
        rows = rooms_left (λ row. row.items) (λ row. vec_capacity row) count old.rows.items new.rows.items launched.berths.items adds.rows adds.rows_room same room.rows;
        no_pass = ap (λ v. v.items) adds.rest.0 ∙ room.no_pass;
        passes = omega (arith, rows, ap (λ v. vec_capacity v) adds.rest.0, room.passes);
        no_part = ap (λ v. v.items) adds.rest.1 ∙ room.no_part;
        parts = omega (arith, channels, ap (λ v. vec_capacity v) adds.rest.1, room.parts);
      }

  -- a yard with a channel for each of these setups is their fleet
  pub yard_fleet : (setups : List Setup) (callers : ℕ) (yard : Yard B J) (fleet : List TableId) (passes : List (List BerthView)) (helms : List HelmView) → IsYard callers setups yard → fleet ≡ yard.channels.items → passes ≡ map (λ row. row.items) yard.rows.items → helms ≡ yard.helms.items → IsNewFleet setups callers fleet passes helms
  yard_fleet setups callers yard fleet passes helms its fleet_is passes_are helms_are =
      subst (λ f. IsNewFleet setups callers f passes helms) (sym fleet_is) (subst (λ p. IsNewFleet setups callers yard.channels.items p helms) (sym passes_are) (subst (IsNewFleet setups callers yard.channels.items (map (λ row. row.items) yard.rows.items)) (sym helms_are)
      (record { as_many = length-map yard.rows.items (λ row. row.items) ∙ its.as_many; at = its.at; channels = its.channels })))

  -- and may be finished
  pub yard_ends : (callers : ℕ) (setups : List Setup) (yard : Yard B J) (passes : List (List BerthView)) → IsYard callers setups yard → passes ≡ map (λ row. row.items) yard.rows.items → MayFinish yard.channels.items passes yard.helms.items
  yard_ends callers setups yard passes its passes_are = subst (λ p. MayFinish yard.channels.items p yard.helms.items) (sym passes_are) (record {
    at = its.at;
    each = new_may_finish callers setups yard.channels.items (map (λ row. row.items) yard.rows.items) yard.helms.items its.channels;
  })

  -- the same room
  pub room_at : (count same : ℕ) (yard : Yard B J) → HasRoomFor count yard → same ≡ count → HasRoomFor same yard
  room_at count same yard room is = subst (λ n. HasRoomFor n yard) (sym is) room
