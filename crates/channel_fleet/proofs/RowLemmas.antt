-- The berths of callers, channel by channel.
use Rattle.std.proofs.Common.{◌≡◌, ◌∙◌, ◌<◌, ◌≤◌, ℕ, suc, ◌+◌, List, [], ◌∷◌, ◌++◌, length, map, refl, ap, sym, arith}
use Rattle.std.proofs.lemmas.List.{length-append, length-map, map-append}
use Rattle.std.specs.List.{AllByRecursion}
use Rattle.std.specs.Prelude.{remove, slice_index_or}
use Rattle.atomic_table.specs.Seated.{TableId}
use Rattle.channel_fleet.specs.Views.{BerthView, HelmView, IsAtFleet, first_berths, later_berths, passes_with}
use Rattle.channel_fleet.specs.Yards.{TakesFirst, with_berths}
use Rattle.shared_channel.specs.Passes.{PassView}
use Rattle.channel_fleet.proofs.RoundLemmas.{GoesRound, round_end, round_more, round_next, round_none}

-- one row more, with its berth
pub with_more : (rows : List (List BerthView)) (berths : List BerthView) (row : List BerthView) (berth : BerthView) → length rows ≡ length berths → with_berths (rows ++ row ∷ []) (berths ++ berth ∷ []) ≡ with_berths rows berths ++ (row ++ berth ∷ []) ∷ []
with_more [] [] row berth same = refl
with_more [] (b ∷ bs) row berth same = absurd (omega (arith, same))
with_more (r ∷ rs) [] row berth same = absurd (omega (arith, same))
with_more (r ∷ rs) (b ∷ bs) row berth same = ap (λ l. (r ++ b ∷ []) ∷ l) (with_more rs bs row berth (omega (arith, same)))

-- a berth more behind none is the first
pub first_of_none : (rows : List (List BerthView)) (berths : List BerthView) → AllByRecursion (λ row. length row ≡ 0) rows → length berths ≡ length rows → first_berths (with_berths rows berths) ≡ berths
first_of_none [] [] each same = refl
first_of_none [] (b ∷ bs) each same = absurd (omega (arith, same))
first_of_none (r ∷ rs) [] each same = absurd (omega (arith, same))
first_of_none ([] ∷ rs) (b ∷ bs) each same = ap (λ l. b ∷ l) (first_of_none rs bs each.1 (omega (arith, same)))
first_of_none ((x ∷ xs) ∷ rs) (b ∷ bs) each same = absurd (omega (arith, each.0))

-- behind others it isn't
pub first_of_some : (count : ℕ) (rows : List (List BerthView)) (berths : List BerthView) → AllByRecursion (λ row. length row ≡ suc count) rows → length berths ≡ length rows → first_berths (with_berths rows berths) ≡ first_berths rows
first_of_some count [] berths each same = refl
first_of_some count (r ∷ rs) [] each same = absurd (omega (arith, same))
first_of_some count ([] ∷ rs) (b ∷ bs) each same = absurd (omega (arith, each.0))
first_of_some count ((x ∷ xs) ∷ rs) (b ∷ bs) each same = ap (λ l. x ∷ l) (first_of_some count rs bs each.1 (omega (arith, same)))

pub later_of_some : (count : ℕ) (rows : List (List BerthView)) (berths : List BerthView) → AllByRecursion (λ row. length row ≡ suc count) rows → length berths ≡ length rows → map later_berths (with_berths rows berths) ≡ with_berths (map later_berths rows) berths
later_of_some count [] berths each same = refl
later_of_some count (r ∷ rs) [] each same = absurd (omega (arith, same))
later_of_some count ([] ∷ rs) (b ∷ bs) each same = absurd (omega (arith, each.0))
later_of_some count ((x ∷ xs) ∷ rs) (b ∷ bs) each same = ap (λ l. (xs ++ b ∷ []) ∷ l) (later_of_some count rs bs each.1 (omega (arith, same)))

pub later_len : (count : ℕ) (rows : List (List BerthView)) → AllByRecursion (λ row. length row ≡ suc count) rows → AllByRecursion (λ row. length row ≡ count) (map later_berths rows)
later_len count [] each = tt
later_len count ([] ∷ rs) each = absurd (omega (arith, each.0))
later_len count ((x ∷ xs) ∷ rs) each = (omega (arith, each.0), later_len count rs each.1)

-- callers at a fleet have a berth at each of its channels
pub at_len : (fleet : List TableId) (rows : List (List BerthView)) → AllByRecursion (IsAtFleet fleet) rows → AllByRecursion (λ row. length row ≡ length fleet) rows
at_len fleet [] each = tt
at_len fleet (r ∷ rs) each = (sym (length-map r (λ b. b.pass.lock)) ∙ ap length each.0, at_len fleet rs each.1)

pub at_some : (lock : TableId) (locks : List TableId) (rows : List (List BerthView)) → AllByRecursion (IsAtFleet (lock ∷ locks)) rows → AllByRecursion (λ row. 0 < length row) rows
at_some lock locks [] each = tt
at_some lock locks ([] ∷ rs) each = absurd (omega (arith, ap length each.0))
at_some lock locks ((x ∷ xs) ∷ rs) each = (omega arith, at_some lock locks rs each.1)

pub at_later : (lock : TableId) (locks : List TableId) (rows : List (List BerthView)) → AllByRecursion (IsAtFleet (lock ∷ locks)) rows → AllByRecursion (IsAtFleet locks) (map later_berths rows)
at_later lock locks [] each = tt
at_later lock locks ([] ∷ rs) each = absurd (omega (arith, ap length each.0))
at_later lock locks ((x ∷ xs) ∷ rs) each = (ap behind each.0, at_later lock locks rs each.1)
  where
    behind : List TableId → List TableId
    behind [] = []
    behind (t ∷ ts) = ts

-- and a berth more at a channel more
pub at_more : (fleet : List TableId) (lock : TableId) (rows : List (List BerthView)) (berths : List BerthView) → AllByRecursion (IsAtFleet fleet) rows → AllByRecursion (λ berth. berth.pass.lock ≡ lock) berths → AllByRecursion (IsAtFleet (fleet ++ lock ∷ [])) (with_berths rows berths)
at_more fleet lock [] berths each all = tt
at_more fleet lock (r ∷ rs) [] each all = tt
at_more fleet lock (r ∷ rs) (b ∷ bs) each all =
    (map-append (λ (x : BerthView). x.pass.lock) r (b ∷ []) ∙ ap (λ l. l ++ b.pass.lock ∷ []) each.0 ∙ ap (λ l. fleet ++ l ∷ []) all.0, at_more fleet lock rs bs each.1 all.1)

pub with_len : (rows : List (List BerthView)) (berths : List BerthView) → length berths ≡ length rows → length (with_berths rows berths) ≡ length rows
with_len [] berths same = refl
with_len (r ∷ rs) [] same = absurd (omega (arith, same))
with_len (r ∷ rs) (b ∷ bs) same = ap suc (with_len rs bs (omega (arith, same)))

pub first_len : (rows : List (List BerthView)) → AllByRecursion (λ row. 0 < length row) rows → length (first_berths rows) ≡ length rows
first_len [] each = refl
first_len ([] ∷ rs) each = absurd (omega (arith, each.0))
first_len ((x ∷ xs) ∷ rs) each = ap suc (first_len rs each.1)

-- the passes of one channel are one for each of these berths, and two
pub with_helm_len : (berths : List BerthView) (helm : HelmView) → length (passes_with berths helm) ≡ length berths + 2
with_helm_len berths helm = length-append (map (λ (b : BerthView). b.pass) berths) (helm.caller ∷ helm.turner ∷ []) ∙ ap (λ n. n + 2) (length-map berths (λ b. b.pass))

-- the next caller's first berth is taken
pub first_more : (rows : List (List BerthView)) (berth : BerthView) (berths : List BerthView) → first_berths (rows ++ (berth ∷ berths) ∷ []) ≡ first_berths rows ++ berth ∷ []
first_more [] berth berths = refl
first_more ([] ∷ rs) berth berths = first_more rs berth berths
first_more ((x ∷ xs) ∷ rs) berth berths = ap (λ l. x ∷ l) (first_more rs berth berths)

-- rows go round, each of which gets a berth
module _ {X : Type 0} (items : X → List BerthView) (room : X → ℕ) where
  pub record IsGiving (olds now : List X) (berths : List BerthView) : Type 0 where
    pub given : List X
    pub done : List X
    pub round : GoesRound olds now given done
    pub as_many : length given ≡ length berths
    pub items_are : map items done ≡ with_berths (map items given) berths
    pub rooms_are : map room done ≡ map room given

  pub giving_none : (olds : List X) → IsGiving olds olds []
  giving_none olds = record { given = []; done = []; round = round_none olds; as_many = refl; items_are = refl; rooms_are = refl }

  pub giving_more : {olds now rest news : List X} {berths : List BerthView} (x y : X) (berth : BerthView) → IsGiving olds now berths → length berths < length olds → now ≡ x ∷ rest → news ≡ rest ++ y ∷ [] → items y ≡ items x ++ berth ∷ [] → room y ≡ room x → IsGiving olds news (berths ++ berth ∷ [])
  giving_more {olds} {now} {rest} {news} {berths} x y berth its more now_is news_is items_is room_is = record {
    given = its.given ++ x ∷ [];
    done = its.done ++ y ∷ [];
    round = round_more x y its.round (omega (arith, more, its.as_many)) now_is news_is;
    as_many = length-append its.given (x ∷ []) ∙ ap (λ n. n + 1) its.as_many ∙ sym (length-append berths (berth ∷ []));
    items_are = map-append items its.done (y ∷ []) ∙ ap (λ l. l ++ items y ∷ []) its.items_are ∙ ap (λ r. with_berths (map items its.given) berths ++ r ∷ []) items_is
        ∙ sym (with_more (map items its.given) berths (items x) berth (length-map its.given items ∙ its.as_many)) ∙ ap (λ l. with_berths l (berths ++ berth ∷ [])) (sym (map-append items its.given (x ∷ [])));
    rooms_are = map-append room its.done (y ∷ []) ∙ ap (λ l. l ++ room y ∷ []) its.rooms_are ∙ ap (λ n. map room its.given ++ n ∷ []) room_is ∙ sym (map-append room its.given (x ∷ []));
  }

  -- the next row is one of those that there were
  pub giving_next : (P : X → Type 0) {olds now rest : List X} {berths : List BerthView} (x : X) → IsGiving olds now berths → length berths < length olds → now ≡ x ∷ rest → AllByRecursion P olds → P x
  giving_next P {olds} {now} {rest} {berths} x its more now_is each = round_next P x its.round (omega (arith, more, its.as_many)) now_is each

  pub giving_end : {olds now : List X} {berths : List BerthView} → IsGiving olds now berths → length berths ≡ length olds → (map items now ≡ with_berths (map items olds) berths) × (map room now ≡ map room olds)
  giving_end {olds} {now} {berths} its all =
      let ends = round_end its.round (its.as_many ∙ all) in (
        ap (map items) (sym ends.1) ∙ its.items_are ∙ ap (λ l. with_berths (map items l) berths) ends.0,
        ap (map room) (sym ends.1) ∙ its.rooms_are ∙ ap (map room) ends.0,
      )

  -- a berth more takes a room
  pub rooms_left : (count : ℕ) (olds news : List X) (berths : List BerthView) → map items news ≡ with_berths (map items olds) berths → map room news ≡ map room olds → length berths ≡ length olds
      → AllByRecursion (λ row. length (items row) + suc count ≤ room row) olds → AllByRecursion (λ row. length (items row) + count ≤ room row) news
  rooms_left count olds [] berths items_are rooms_are same each = tt
  rooms_left count [] (n ∷ ns) berths items_are rooms_are same each = absurd (omega (arith, ap length rooms_are))
  rooms_left count (o ∷ os) (n ∷ ns) [] items_are rooms_are same each = absurd (omega (arith, same))
  rooms_left count (o ∷ os) (n ∷ ns) (b ∷ bs) items_are rooms_are same each =
      let one : items n ≡ items o ++ b ∷ [] = ap (λ l. slice_index_or l 0 []) items_are in
      let len : length (items n) ≡ length (items o) + 1 = ap length one ∙ length-append (items o) (b ∷ []) in
      let wide : room n ≡ room o = ap (λ l. slice_index_or l 0 0) rooms_are in
      (omega (arith, len, wide, each.0), rooms_left count os ns bs (ap (λ l. remove l 0) items_are) (ap (λ l. remove l 0) rooms_are) (omega (arith, same)) each.1)

-- callers' passes go round, of each of which the first berth's pass is taken
pub record IsTaking (olds now : List (List BerthView)) (row : List PassView) (count : ℕ) : Type 0 where
  pub given : List (List BerthView)
  pub done : List (List BerthView)
  pub round : GoesRound olds now given done
  pub as_many : length given ≡ count
  pub done_are : done ≡ map later_berths given
  pub row_is : row ≡ map (λ berth. berth.pass) (first_berths given)

pub taking_none : (olds : List (List BerthView)) (row : List PassView) → row ≡ [] → IsTaking olds olds row 0
taking_none olds row none = record { given = []; done = []; round = round_none olds; as_many = refl; done_are = refl; row_is = none }

pub taking_more : {olds now rest news : List (List BerthView)} {row longer : List PassView} {count : ℕ} (x y : List BerthView) (pass : PassView) → IsTaking olds now row count → count < length olds → now ≡ x ∷ rest → news ≡ rest ++ y ∷ [] → TakesFirst x pass y → longer ≡ row ++ pass ∷ [] → IsTaking olds news longer (count + 1)
taking_more {olds} {now} {rest} {news} {row} {longer} {count} x y pass its more now_is news_is takes longer_is =
    let berth : BerthView = record { pass = pass; shown = takes.shown } in
    record {
      given = its.given ++ x ∷ [];
      done = its.done ++ y ∷ [];
      round = round_more x y its.round (omega (arith, more, its.as_many)) now_is news_is;
      as_many = length-append its.given (x ∷ []) ∙ ap (λ n. n + 1) its.as_many;
      done_are = ap (λ l. l ++ y ∷ []) its.done_are ∙ ap (λ z. map later_berths its.given ++ later_berths z ∷ []) (sym takes.parts) ∙ sym (map-append later_berths its.given (x ∷ []));
      row_is = longer_is ∙ ap (λ l. l ++ pass ∷ []) its.row_is ∙ sym (map-append (λ (b : BerthView). b.pass) (first_berths its.given) (berth ∷ []))
          ∙ ap (map (λ (b : BerthView). b.pass)) (sym (first_more its.given berth y) ∙ ap (λ z. first_berths (its.given ++ z ∷ [])) (sym takes.parts));
    }

-- the next one is one of those that there were
pub taking_next : (P : List BerthView → Type 0) {olds now rest : List (List BerthView)} {row : List PassView} {count : ℕ} (x : List BerthView) → IsTaking olds now row count → count < length olds → now ≡ x ∷ rest → AllByRecursion P olds → P x
taking_next P {olds} {now} {rest} {row} {count} x its more now_is each = round_next P x its.round (omega (arith, more, its.as_many)) now_is each

pub taking_end : {olds now : List (List BerthView)} {row : List PassView} {count : ℕ} → IsTaking olds now row count → count ≡ length olds → (row ≡ map (λ berth. berth.pass) (first_berths olds)) × (now ≡ map later_berths olds)
taking_end {olds} {now} {row} {count} its all =
    let ends = round_end its.round (its.as_many ∙ all) in
    (its.row_is ∙ ap (λ l. map (λ (b : BerthView). b.pass) (first_berths l)) ends.0, sym ends.1 ∙ its.done_are ∙ ap (map later_berths) ends.0)
