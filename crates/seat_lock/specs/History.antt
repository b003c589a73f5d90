-- What a reader of the lock's promises believes: one history of entries for all seats, and what each seat knows of it.
use Rattle.std.specs.Prelude.{ℕ, ◌≡◌, ◌==◌, ◌<◌, ◌⊎◌, List, [], ◌∷◌, ◌++◌, map, length, Option, None, Some, option_to_list, IfSome, slice_index_or}
use Rattle.std.specs.List.{filter, All, Contains}
use mathlib.Core.List.{IsPrefix}
use Rattle.atomic_table.specs.Seated.{TableId}
use Rattle.seat_lock.specs.declared.view.Left.{Left}

-- what a seat knows: its lock, its number, how many seats the lock has, the state's setting, the entries that it made,
-- the history that it has seen, and what the seats that were joined into it left
pub record SeatView (E T : Type 0) : Type 0 where
  pub lock : TableId
  pub number : ℕ
  pub seats : ℕ
  pub setting : Option T
  pub own : List E
  pub seen : List E
  pub joined : List (Left E)

-- the entries that the seat with this number made, in their order
abbrev pub made_by : {E : Type 0} → (E → ℕ) → ℕ → List E → List E
made_by maker number log = filter (λ e. maker e == number) log

-- an operation of this seat leaves the entries as they were, or adds one, which this seat made
abbrev pub AddsAtMostOne : {E : Type 0} → (E → ℕ) → ℕ → List E → List E → Type 0
AddsAtMostOne {E} maker seat before after = (made : Option E) × (after ≡ before ++ option_to_list made) × IfSome made (λ e. maker e ≡ seat)

-- the seat with this number, as it is made
abbrev pub newcomer : {E T : Type 0} → TableId → T → ℕ → ℕ → SeatView E T
newcomer lock setting seats number = record { lock = lock; number = number; seats = seats; setting = Some setting; own = []; seen = []; joined = [] }

-- these are all of the lock's seats, numbered from 0, and none has made or seen an entry
pub record IsNewLock {E T : Type 0} (lock : TableId) (setting : T) (count : ℕ) (seats : List (SeatView E T)) : Type 0 where
  pub all : length seats ≡ count
  pub each : (k : ℕ) (d : SeatView E T) → k < count → slice_index_or seats k d ≡ newcomer lock setting count k

-- the seat is the same: its lock, number, setting and joined seats stay, and only what it made and has seen may be other
abbrev pub IsSameSeat : {E T : Type 0} → SeatView E T → SeatView E T → Type 0
IsSameSeat old new = new ≡ record old { own = new.own; seen = new.seen }

-- one turn of a seat that knew `old`, was answered `reply`, and then knows `new`
pub record IsSeatTurn {E T R : Type 0} (maker : E → ℕ) (means : T → List E → ℕ → R → List E → Type 0) (old : SeatView E T) (reply : R) (new : SeatView E T) : Type 0 where
  -- the state's setting
  pub setting : T
  pub is_set : old.setting ≡ Some setting
  -- the history at this turn, which begins with all that the seat had seen
  pub before : List E
  pub behind : IsPrefix old.seen before
  -- the operation meant this history, and left what the seat now has seen
  pub meant : means setting before old.number reply new.seen
  -- the entry that it made, or none: it alone is new in the history and among the seat's own
  pub made : Option E
  pub mine : IfSome made (λ e. maker e ≡ old.number)
  pub seen : new.seen ≡ before ++ option_to_list made
  pub own : new.own ≡ old.own ++ option_to_list made
  -- what the seat made is all that the history has of it
  pub filter : new.own ≡ made_by maker old.number new.seen
  pub same : IsSameSeat old new

-- turns of a seat with one operation, one behind the other, of which each found one of these
abbrev pub FindsEach : {E T R : Type 0} → (E → ℕ) → (T → List E → ℕ → Option R → List E → Type 0) → SeatView E T → List R → SeatView E T → Type 0
FindsEach maker means old [] new = new ≡ old
FindsEach {E} {T} maker means old (item ∷ items) new = (middle : SeatView E T) × IsSeatTurn maker means old (Some item) middle × FindsEach maker means middle items new

-- there are as many items as were wanted; or fewer, and then one more turn found none
abbrev pub EndsFinding : {E T R : Type 0} → (E → ℕ) → (T → List E → ℕ → Option R → List E → Type 0) → ℕ → List R → SeatView E T → SeatView E T → Type 0
EndsFinding maker means most items old new = ((length items ≡ most) × (new ≡ old)) ⊎ ((length items < most) × IsSeatTurn maker means old None new)

-- turns of a seat with one operation that found up to so many items, as long as there was one
pub record AreSeatTurns {E T R : Type 0} (maker : E → ℕ) (means : T → List E → ℕ → Option R → List E → Type 0) (most : ℕ) (old : SeatView E T) (items : List R) (new : SeatView E T) : Type 0 where
  pub middle : SeatView E T
  pub each : FindsEach maker means old items middle
  pub ending : EndsFinding maker means most items middle new

-- what a seat leaves as it is joined into another
abbrev pub left_behind : {E T : Type 0} → SeatView E T → Left E
left_behind k = record { number = k.number; own = k.own; seen = k.seen }

-- the left seat after the right one was joined into it
pub record IsJoin {E T : Type 0} (left right now : SeatView E T) : Type 0 where
  -- it knows what both had seen
  pub seen_left : IsPrefix left.seen now.seen
  pub seen_right : IsPrefix right.seen now.seen
  -- and which seats were joined into either, the right one itself among them
  pub joined : now.joined ≡ left.joined ++ left_behind right ∷ right.joined
  pub rest : now ≡ record left { seen = now.seen; joined = now.joined }

-- the seat is the lock's only one, or every other one was joined into it, directly or through others
abbrev pub HasAll : {E T : Type 0} → SeatView E T → Type 0
HasAll k = (n : ℕ) → n < k.seats → (n ≡ k.number) ⊎ Contains (map (λ j. j.number) k.joined) n

-- what stands at the end for a seat that was joined: its own entries are all that the history has of it, and it had seen a beginning
pub record IsAccounted {E : Type 0} (maker : E → ℕ) (log : List E) (j : Left E) : Type 0 where
  pub own : j.own ≡ made_by maker j.number log
  pub seen : IsPrefix j.seen log

-- the history at the end, for the seat that has all others
pub record IsWholeHistory {E T : Type 0} (maker : E → ℕ) (k : SeatView E T) (log : List E) : Type 0 where
  -- it is what the seat has seen
  pub seen : log ≡ k.seen
  -- the seat's own entries, and those of each joined seat, are its filter
  pub own : k.own ≡ made_by maker k.number log
  pub joined : All (IsAccounted maker log) k.joined
  -- and no other entries stand in it
  pub makers : All (λ e. maker e < k.seats) log
