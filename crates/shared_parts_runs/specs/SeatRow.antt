-- The seats of a lock in one row, as somebody keeps them who joins them all at the end.
use Rattle.std.specs.Prelude.{ℕ, ◌≡◌, ◌<◌, List, [], map, length, slice_index_or}
use Rattle.std.specs.List.{Contains}
use Rattle.atomic_table.specs.Seated.{TableId}
use Rattle.seat_lock.specs.History.{SeatView}

-- a seat with this number, into which none was joined
pub record IsSeat {E T : Type 0} (lock : TableId) (count number : ℕ) (k : SeatView E T) : Type 0 where
  pub lock_is : k.lock ≡ lock
  pub number_is : k.number ≡ number
  pub seats_are : k.seats ≡ count
  pub joined : k.joined ≡ []

-- the first seats of a lock, in the order of their numbers
abbrev pub AreSeats : {E T : Type 0} → TableId → ℕ → List (SeatView E T) → Type 0
AreSeats {E} {T} lock count row = (k : ℕ) (d : SeatView E T) → k < length row → IsSeat lock count k (slice_index_or row k d)

-- a seat that has all behind it in the row, of which the others are left
pub record HasRest {E T : Type 0} (lock : TableId) (count : ℕ) (left : List (SeatView E T)) (k : SeatView E T) : Type 0 where
  pub lock_is : k.lock ≡ lock
  pub number_is : k.number ≡ length left
  pub seats_are : k.seats ≡ count
  pub has : (n : ℕ) → length left < n → n < count → Contains (map (λ j. j.number) k.joined) n
  pub rest : AreSeats lock count left
