-- What the steps tell by which a lock is made with its seats.
use Rattle.std.specs.Prelude.{ℕ, zero, suc, ◌≡◌, ◌+◌, ◌<◌, List, [], ◌∷◌, ◌++◌, Option, None, IsSome}
use Rattle.atomic_table.specs.Table.{Me}
use Rattle.atomic_table.specs.Seated.{TableId}
use Rattle.seat_lock.specs.declared.view.View.{View}
use Rattle.seat_lock.specs.declared.view.Phase.{Phase}
use Rattle.seat_lock.specs.declared.view.Phase.TheVariants.{Empty, Makes, Idle, Waits, Holds}
use Rattle.seat_lock.specs.History.{SeatView}
use Rattle.seat_lock.specs.Rule.{seat_view}
use Rattle.seat_lock.specs.Steps.{in_phase}

module _ {S E T : Type 0} where
  -- the first seat has the slot, in which nothing is yet
  abbrev pub Founds : Me (Option S) (View E T) → Me (Option S) (View E T) → Type 0
  Founds v w = w ≡ (in_phase v.0 (Makes 1), (0, None) ∷ [])

-- a seat that makes the lock's seats, and may make one more
abbrev pub CanAdd : {E T : Type 0} → View E T → Type 0
CanAdd v = ((n : ℕ) × (v.phase ≡ Makes n) × (n < v.seats)) × (v.seen ≡ []) × IsSome v.setting

-- the phase of the first seat once it has made one more
abbrev pub more : Phase → Phase
more Empty = Empty
more (Makes n) = Makes (n + 1)
more Idle = Idle
more (Waits t) = Waits t
more (Holds t) = Holds t

-- how many seats there are by now, which is the number of the next
abbrev pub made : Phase → ℕ
made Empty = 0
made (Makes n) = n
made Idle = 0
made (Waits t) = 0
made (Holds t) = 0

module _ {E T : Type 0} where
  -- the first seat once it has made one more
  abbrev pub founder : View E T → View E T
  founder v = record v { phase = more v.phase }

  -- the seat that it made
  abbrev pub next_seat : View E T → View E T
  next_seat v = record v { phase = Idle; number = made v.phase; own = []; joined = [] }

  -- the first seat, before it has made any other
  pub record IsFounder (seats : ℕ) (v : View E T) : Type 0 where
    pub phase : v.phase ≡ Makes 1
    pub seats_are : v.seats ≡ seats
    pub is_set : IsSome v.setting
    pub own : v.own ≡ []
    pub seen : v.seen ≡ []
    pub joined : v.joined ≡ []

  -- what the n seats know that a first seat makes
  abbrev pub others : TableId → View E T → ℕ → List (SeatView E T)
  others lock v zero = []
  others lock v (suc n) = others lock v n ++ seat_view lock (record v { phase = Idle; number = n + 1; own = []; joined = [] }) ∷ []
