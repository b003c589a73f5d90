-- The steps by which a lock is made give its seats, numbered from 0.
use Rattle.std.proofs.Common.{◌≡◌, ℕ, zero, suc, ◌+◌, ◌-◌, ◌<◌, List, [], ◌∷◌, length, length-append, drop, refl, sym, ap, ◌∙◌, subst, arith, Some, Option, get_or}
use Rattle.std.proofs.lemmas.List.{get_or_append_left, get_or_push}
use mathlib.Core.Logic.{dite}
use native.Mathlib.Decide.{ℕ_discrete}
use Rattle.atomic_table.specs.Table.{Me}
use Rattle.atomic_table.specs.Seated.{TableId}
use Rattle.seat_lock.specs.declared.view.View.{View}
use Rattle.seat_lock.specs.declared.view.Phase.TheVariants.{Makes}
use Rattle.seat_lock.specs.History.{SeatView, newcomer, IsNewLock}
use Rattle.seat_lock.specs.Rule.{first_view, seat_view}
use Rattle.seat_lock.specs.Steps.{in_phase, after_leave}
use Rattle.seat_lock.specs.Making.{Founds, others}

module _ {S E T : Type 0} (stands : S → List E) (lock : TableId) (c : T) (seats : ℕ) where
  -- the first seat, before it has made any other
  abbrev begun : View E T
  begun = in_phase (first_view c seats) (Makes 1)

  -- it makes as many as are asked
  pub others_length : (m : ℕ) → length (others lock begun m) ≡ m
  others_length zero = refl
  others_length (suc m) = let r = others_length m in omega (arith, r, length-append (others lock begun m) (newcomer lock c seats (m + 1) ∷ []))

  -- each of them is a newcomer with its number
  pub others_at : (m k : ℕ) (d : SeatView E T) → k < m → get_or (others lock begun m) k d ≡ newcomer lock c seats (k + 1)
  others_at zero k d lt = absurd (omega (arith, lt))
  others_at (suc m) k d lt =
      dite (ℕ_discrete k m)
      (λ e. get_or_push (others lock begun m) (newcomer lock c seats (m + 1)) d k (others_length m ∙ sym e) ∙ ap (λ n. newcomer lock c seats (n + 1)) (sym e))
      (λ ne. get_or_append_left (others lock begun m) (newcomer lock c seats (m + 1) ∷ []) d k (let r = others_length m in omega (arith, ne, lt, r)) ∙ others_at m k d (omega (arith, ne, lt)))

  module _ (some_seats : 0 < seats) (state : S) (empty : stands state ≡ []) (first founded added given : Me (Option S) (View E T)) (items : List (SeatView E T))
      (firsts : first ≡ (first_view c seats, [])) (founds : Founds first founded) (adds : added ≡ (in_phase founded.0 (Makes seats), founded.1)) (gives : given ≡ (after_leave stands added.0 ((0, Some state) ∷ []), []))
      (are : items ≡ seat_view lock given.0 ∷ others lock founded.0 (seats - 1)) where
    is_begun : founded.0 ≡ begun
    is_begun = ap (λ m. m.0) founds ∙ ap (λ m. in_phase m.0 (Makes 1)) firsts

    -- the first seat is one too, once the state is there
    is_first : seat_view lock given.0 ≡ newcomer lock c seats 0
    is_first =
        ap (λ m. seat_view lock m.0) gives
        ∙ (ap (λ m. seat_view lock (after_leave stands m.0 ((0, Some state) ∷ []))) adds
        ∙ (ap (λ v. seat_view lock (after_leave stands (in_phase v (Makes seats)) ((0, Some state) ∷ []))) is_begun
        ∙ ap (λ l. record { lock = lock; number = 0; seats = seats; setting = Some c; own = drop 0 l; seen = l; joined = [] }) empty))

    items_are : items ≡ newcomer lock c seats 0 ∷ others lock begun (seats - 1)
    items_are = are ∙ (λ i. is_first i ∷ others lock (is_begun i) (seats - 1))

    -- together they are the seats of a new lock
    pub new_lock : IsNewLock lock c seats items
    new_lock =
        subst (IsNewLock lock c seats) (sym items_are)
        (record {
          all = let r = others_length (seats - 1) in omega (arith, r, some_seats);
          each = each;
        })
      where
        each : (k : ℕ) (d : SeatView E T) → k < seats → get_or (newcomer lock c seats 0 ∷ others lock begun (seats - 1)) k d ≡ newcomer lock c seats k
        each zero d lt = refl
        each (suc k) d lt = others_at (seats - 1) k d (omega (arith, lt)) ∙ ap (newcomer lock c seats) (omega arith)
