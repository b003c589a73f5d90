-- A fleet that ends channel by channel.
use Rattle.std.proofs.Common.{◌≡◌, ◌∙◌, ◌+◌, List, [], ◌∷◌, ◌++◌, ◌<◌, length, map, refl, ap, sym, subst, arith, append_assoc}
use Rattle.std.proofs.lemmas.List.{append-nil}
use Rattle.std.specs.List.{AllByRecursion}
use Rattle.atomic_table.specs.Seated.{TableId}
use Rattle.chan_types.specs.declared.journal.Entry.{Entry}
use Rattle.chan_types.specs.declared.orders.Orders.{Orders}
use Rattle.channel_fleet.specs.Finishing.{EachMayFinish, IsRoll, MayFinish}
use Rattle.channel_fleet.specs.Views.{BerthView, HelmView, IsAtFleet, first_berths, later_berths, passes_with}
use Rattle.shared_channel.specs.Finishing.{AreAllPasses, Finishes, IsOneOf}
use Rattle.shared_channel.specs.declared.finishing.Finished.{Finished}
use Rattle.channel_fleet.proofs.RoundLemmas.{all_parts}
use Rattle.channel_fleet.proofs.RowLemmas.{at_later, at_some, first_len, with_helm_len}

-- a channel's helm knows how many passes it has
pub helm_seats : (lock : TableId) (locks : List TableId) (rows : List (List BerthView)) (helm : HelmView) → AllByRecursion (IsAtFleet (lock ∷ locks)) rows → AreAllPasses lock (passes_with (first_berths rows) helm) → helm.turner.seats ≡ length rows + 2
helm_seats lock locks rows helm at all =
    let each = (all_parts (IsOneOf lock all.setting (length (passes_with (first_berths rows) helm))) (map (λ (b : BerthView). b.pass) (first_berths rows)) (helm.caller ∷ helm.turner ∷ []) all.each).1 in
    each.1.0.seats_are ∙ with_helm_len (first_berths rows) helm ∙ ap (λ n. n + 2) (first_len rows (at_some lock locks rows at))

module _ {J : Type 0} (told : J → List Entry) (orders : Orders) where
  -- so far these parts are left, and the roll goes on with what is left of the others
  pub record IsRollSoFar (rows_all : List (List BerthView)) (helms_all : List HelmView) (rows : List (List BerthView)) (helms : List HelmView) (parts : List (Finished J)) : Type 0 where
    pub goes_on : (more : List (Finished J)) → IsRoll told orders rows helms more → IsRoll told orders rows_all helms_all (parts ++ more)

  pub roll_none : (rows : List (List BerthView)) (helms : List HelmView) (parts : List (Finished J)) → parts ≡ [] → IsRollSoFar rows helms rows helms parts
  roll_none rows helms parts none = record { goes_on = λ more roll. subst (λ l. IsRoll told orders rows helms (l ++ more)) (sym none) roll }

  -- a channel more has ended
  pub roll_more : (rows_all : List (List BerthView)) (helms_all : List HelmView) (rows : List (List BerthView)) (helm : HelmView) (helms : List HelmView) (parts news : List (Finished J)) (part : Finished J)
      → IsRollSoFar rows_all helms_all rows (helm ∷ helms) parts → Finishes told orders (passes_with (first_berths rows) helm) part → news ≡ parts ++ part ∷ [] → IsRollSoFar rows_all helms_all (map later_berths rows) helms news
  roll_more rows_all helms_all rows helm helms parts news part so_far finishes news_are = record {
    goes_on = λ more roll. subst (IsRoll told orders rows_all helms_all) (sym (ap (λ l. l ++ more) news_are ∙ append_assoc parts (part ∷ []) more)) (so_far.goes_on (part ∷ more) (finishes, roll));
  }

  -- all of them have
  pub roll_end : (rows_all : List (List BerthView)) (helms_all : List HelmView) (rows : List (List BerthView)) (parts : List (Finished J)) → IsRollSoFar rows_all helms_all rows [] parts → IsRoll told orders rows_all helms_all parts
  roll_end rows_all helms_all rows parts so_far = subst (IsRoll told orders rows_all helms_all) (append-nil parts) (so_far.goes_on [] tt)

-- where no channel is left no helm is
pub no_helm : (rows : List (List BerthView)) (helms : List HelmView) → EachMayFinish [] rows helms → helms ≡ []
no_helm rows [] may = refl
no_helm rows (h ∷ hs) may = absurd may

-- the next channel, its helm and its passes
pub some_helm : (lock : TableId) (locks : List TableId) (rows : List (List BerthView)) (helms : List HelmView) → EachMayFinish (lock ∷ locks) rows helms → 0 < length helms
some_helm lock locks rows [] may = absurd may
some_helm lock locks rows (h ∷ hs) may = omega arith

-- the first channel, its helm and the passes of both, apart from the others
pub may_next : {locks : List TableId} {rows : List (List BerthView)} {helms : List HelmView} (lock : TableId) (others : List TableId) (helm : HelmView) (later : List HelmView) → MayFinish locks rows helms → locks ≡ lock ∷ others → helms ≡ helm ∷ later → MayFinish (lock ∷ others) rows (helm ∷ later)
may_next {locks} {rows} {helms} lock others helm later may locks_are helms_are = subst (λ l. MayFinish l rows (helm ∷ later)) locks_are (subst (MayFinish locks rows) helms_are may)

-- what is left may be finished when it has ended
pub may_later : {lock : TableId} {others : List TableId} {rows : List (List BerthView)} {helm : HelmView} {later : List HelmView} → MayFinish (lock ∷ others) rows (helm ∷ later) → MayFinish others (map later_berths rows) later
may_later {lock} {others} {rows} {helm} {later} may = record { at = at_later lock others rows may.at; each = may.each.2 }
