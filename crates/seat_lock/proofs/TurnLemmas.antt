-- The steps of a call, one after the other, make a turn or a join.
use Rattle.std.proofs.Common.{◌≡◌, ℕ, List, [], ◌∷◌, ◌++◌, length, drop, refl, sym, ap, ◌∙◌, subst, Some, Option}
use Rattle.std.proofs.lemmas.List.Elements.{All-head, All-tail}
use Rattle.std.specs.List.{All}
use Rattle.std.specs.Option.{option_to_list, IfSome}
use mathlib.Core.List.{IsPrefix}
use Rattle.atomic_table.specs.Table.{Me}
use Rattle.atomic_table.specs.Seated.{TableId}
use Rattle.seat_lock.specs.declared.view.View.{View}
use Rattle.seat_lock.specs.declared.view.Phase.TheVariants.{Idle, Waits}
use Rattle.seat_lock.specs.History.{SeatView, AddsAtMostOne, FindsEach, IsSeatTurn, IsJoin, IsAccounted}
use Rattle.seat_lock.specs.Rule.{seat_view}
use Rattle.seat_lock.specs.Steps.{TakesStateOut, CatchesUp, IsAware, after_leave, served, in_phase, both, joined_by}
use Rattle.seat_lock.proofs.EntryLemmas.{behind}

-- what holds of all elements of a list holds of one in its midst
pub all_at : {A : Type 0} (P : A → Type 0) (xs : List A) (y : A) (ys : List A) → All P (xs ++ y ∷ ys) → P y
all_at P [] y ys all = All-head P y ys all
all_at P (x ∷ xs) y ys all = all_at P xs y ys (All-tail P x (xs ++ y ∷ ys) all)

module _ {S E T : Type 0} (stands : S → List E) (maker : E → ℕ) (setting : S → T) (lock : TableId) (v : View E T) where
  module _ {R : Type 0} (means : T → List E → ℕ → R → List E → Type 0) (drawn taken given : Me (Option S) (View E T)) (t seat : ℕ) (state after : S) (reply : R) (c : List (ℕ × Option S))
      (number : seat ≡ v.number) (draws : drawn ≡ (in_phase v (Waits t), c)) (takes : TakesStateOut stands setting drawn state taken)
      (meant : means (setting state) (stands state) seat reply (stands after)) (adds : AddsAtMostOne maker seat (stands state) (stands after))
      (gives : given ≡ (after_leave stands taken.0 ((0, Some after) ∷ []), [])) (aware : IsAware maker given.0) where
    -- what the seat knows after its turn
    abbrev last : View E T
    last = record v { phase = Idle; own = v.own ++ drop (length (stands state)) (stands after); seen = stands after }

    is_last : given.0 ≡ last
    is_last =
        ap (λ m. m.0) gives
        ∙ (ap (λ m. after_leave stands m.0 ((0, Some after) ∷ [])) takes.is
        ∙ ap (λ m. after_leave stands (record m.0 { phase = served m.0.phase; seen = stands state }) ((0, Some after) ∷ [])) draws)

    aware_last : IsAware maker last
    aware_last = subst (IsAware maker) is_last aware

    -- the operation added its entry, or nothing
    added : drop (length (stands state)) (stands after) ≡ option_to_list adds.0
    added = behind (stands state) (stands after) (option_to_list adds.0) adds.1

    -- that is one turn
    turn_last : IsSeatTurn maker means (seat_view lock v) reply (seat_view lock last)
    turn_last =
        record {
          setting = setting state;
          is_set = sym (ap (λ m. m.0.setting) draws) ∙ takes.is_set;
          before = stands state;
          behind = subst (λ l. IsPrefix l (stands state)) (ap (λ m. m.0.seen) draws) takes.further;
          meant = subst (λ n. means (setting state) (stands state) n reply (stands after)) number meant;
          made = adds.0;
          mine = subst (λ n. IfSome adds.0 (λ e. maker e ≡ n)) number adds.2;
          seen = adds.1;
          own = ap (λ l. v.own ++ l) added;
          filter = aware_last.own;
          same = refl;
        }

    -- each step keeps the lock
    pub turn_is : (one two now : TableId) → one ≡ lock → two ≡ one → now ≡ two → IsSeatTurn maker means (seat_view lock v) reply (seat_view now given.0)
    turn_is one two now drew took gave =
        let same : now ≡ lock = gave ∙ (took ∙ drew) in subst (λ (k : SeatView E T). IsSeatTurn maker means (seat_view lock v) reply k) (λ i. seat_view (sym same i) (sym is_last i)) turn_last

  module _ (w : View E T) (other : TableId) (merged caught : Me (Option S) (View E T)) (merges : merged ≡ (both v w, [])) (catches : CatchesUp maker merged caught) where
    -- what the left seat knows after the join
    abbrev final : View E T
    final = record v { joined = v.joined ++ joined_by w ∷ w.joined; seen = caught.0.seen }

    is_final : caught.0 ≡ final
    is_final = ap (λ m. m.0) catches.is ∙ ap (λ m. record m.0 { seen = caught.0.seen }) merges

    aware_final : IsAware maker final
    aware_final = subst (IsAware maker) is_final catches.aware

    -- that is one join
    join_final : IsJoin (seat_view lock v) (seat_view other w) (seat_view lock final)
    join_final =
        record {
          seen_left = subst (λ l. IsPrefix l caught.0.seen) (ap (λ m. m.0.seen) merges) catches.further;
          seen_right = (all_at (IsAccounted maker caught.0.seen) v.joined (joined_by w) w.joined aware_final.joined).seen;
          joined = refl;
          rest = refl;
        }

    -- each step keeps the lock
    pub join_is : (one now : TableId) → one ≡ lock → now ≡ one → IsJoin (seat_view lock v) (seat_view other w) (seat_view now caught.0)
    join_is one now merging catching =
        let same : now ≡ lock = catching ∙ merging in subst (λ (k : SeatView E T). IsJoin (seat_view lock v) (seat_view other w) k) (λ i. seat_view (sym same i) (sym is_final i)) join_final

-- one more turn, behind those that found these
pub finds_more : {E T R : Type 0} (maker : E → ℕ) (means : T → List E → ℕ → Option R → List E → Type 0) (items : List R) (item : R) (old middle new : SeatView E T)
    → FindsEach maker means old items middle → IsSeatTurn maker means middle (Some item) new → FindsEach maker means old (items ++ item ∷ []) new
finds_more {E} {T} maker means [] item old middle new same one = (new, subst (λ (k : SeatView E T). IsSeatTurn maker means k (Some item) new) same one, refl)
finds_more maker means (x ∷ xs) item old middle new each one = (each.0, each.1, finds_more maker means xs item each.0 middle new each.2 one)
