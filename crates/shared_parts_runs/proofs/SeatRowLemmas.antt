-- How a row of seats is joined from its end.
use Rattle.std.proofs.Common.{◌≡◌, ℕ, ◌+◌, ◌<◌, List, [], ◌∷◌, ◌++◌, map, length, length-append, refl, sym, ap, ◌∙◌, subst, arith}
use Rattle.std.proofs.lemmas.List.{get_or_append_left, get_or_push}
use Rattle.std.proofs.lemmas.List.Elements.{Contains-append_right}
use Rattle.std.specs.List.{Contains}
use native.Mathlib.Decide.{ℕ_discrete}
use Rattle.atomic_table.specs.Seated.{TableId}
use Rattle.seat_lock.specs.History.{SeatView, IsJoin, left_behind}
use Rattle.shared_parts_runs.specs.SeatRow.{IsSeat, AreSeats, HasRest}

module _ {E T : Type 0} (lock : TableId) (count : ℕ) where
  -- the last seat of a row has the last number
  pub last_seat : (row : List (SeatView E T)) (k : SeatView E T) → AreSeats lock count (row ++ k ∷ []) → IsSeat lock count (length row) k
  last_seat row k are = subst (IsSeat lock count (length row)) (get_or_push row k k (length row) refl) (are (length row) k (omega (arith, length-append row (k ∷ []))))

  -- the seats before it are a row
  pub first_seats : (row : List (SeatView E T)) (k : SeatView E T) → AreSeats lock count (row ++ k ∷ []) → AreSeats lock count row
  first_seats row k are n d lt = subst (IsSeat lock count n) (get_or_append_left row (k ∷ []) d n lt) (are n d (omega (arith, lt, length-append row (k ∷ []))))

  -- the next one, with what that one has, has all behind it
  pub goes_on : (row : List (SeatView E T)) (next k now : SeatView E T) → HasRest lock count (row ++ next ∷ []) k → IsJoin next k now → HasRest lock count row now
  goes_on row next k now h j =
      record {
        lock_is = ap (λ (x : SeatView E T). x.lock) j.rest ∙ s.lock_is;
        number_is = ap (λ (x : SeatView E T). x.number) j.rest ∙ s.number_is;
        seats_are = ap (λ (x : SeatView E T). x.seats) j.rest ∙ s.seats_are;
        has = λ n lt below. subst (λ l. Contains l n) (sym numbers) (there n lt below (ℕ_discrete n k.number));
        rest = first_seats row next h.rest;
      }
    where
      s : IsSeat lock count (length row) next
      s = last_seat row next h.rest

      numbers : map (λ l. l.number) now.joined ≡ k.number ∷ map (λ l. l.number) k.joined
      numbers = ap (map (λ l. l.number)) (j.joined ∙ ap (λ l. l ++ left_behind k ∷ k.joined) s.joined)

      there : (n : ℕ) → length row < n → n < count → Dec (n ≡ k.number) → Contains (k.number ∷ map (λ l. l.number) k.joined) n
      there n lt below (yes e) = (0, omega arith, sym e)
      there n lt below (no ne) =
          let len = length-append row (next ∷ []) in
          Contains-append_right (k.number ∷ []) (map (λ l. l.number) k.joined) n (h.has n (omega (arith, lt, ne, len, h.number_is)) below)
