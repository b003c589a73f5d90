-- The lock's rule: how its two words, its slot and what its seats know fit together.
use Rattle.std.specs.Prelude.{ℕ, ◌≡◌, ◌+◌, ◌%◌, ◌^◌, ◌<◌, ◌≤◌, ◌⊎◌, Bool, true, false, List, [], ◌∷◌, length, Option, None, Some}
use Rattle.std.specs.List.{All}
use mathlib.Core.Option.{some, none}
use mathlib.Core.Option as opt
use mathlib.Core.List.{IsPrefix}
use lib.ListN.{get_elem?}
use Rattle.atomic_table.specs.Table.{State}
use Rattle.atomic_table.specs.Seated.{TableId}
use Rattle.seat_lock.specs.declared.opened.Opened.{Opened}
use Rattle.seat_lock.specs.declared.view.View.{View}
use Rattle.seat_lock.specs.declared.view.Phase.{Phase}
use Rattle.seat_lock.specs.declared.view.Phase.TheVariants.{Empty, Makes, Idle, Waits, Holds}
use Rattle.seat_lock.specs.History.{SeatView, made_by, IsAccounted}

-- what contracts see of a view
abbrev pub seat_view : {E T : Type 0} → TableId → View E T → SeatView E T
seat_view lock v = record { lock = lock; number = v.number; seats = v.seats; setting = v.setting; own = v.own; seen = v.seen; joined = v.joined }

-- the first seat of a lock that has no state yet
abbrev pub first_view : {E T : Type 0} → T → ℕ → View E T
first_view setting seats = record { phase = Empty; number = 0; seats = seats; setting = Some setting; own = []; seen = []; joined = [] }

-- what is left of a seat that was joined into another
abbrev pub spent_view : {E T : Type 0} → View E T
spent_view = record { phase = Idle; number = 0; seats = 0; setting = None; own = []; seen = []; joined = [] }

-- the ticket of a seat that has one; whoever makes the lock has the first
abbrev pub ticket_of : Phase → List ℕ
ticket_of Empty = 0 ∷ []
ticket_of (Makes n) = 0 ∷ []
ticket_of Idle = []
ticket_of (Waits t) = t ∷ []
ticket_of (Holds t) = t ∷ []

-- the seat has the turn
abbrev pub has_turn : Phase → Bool
has_turn Empty = true
has_turn (Makes n) = true
has_turn Idle = false
has_turn (Waits t) = false
has_turn (Holds t) = true

-- how many tickets are out
abbrev pub tickets : {E T : Type 0} → List (View E T) → ℕ
tickets [] = 0
tickets (v ∷ vs) = length (ticket_of v.phase) + tickets vs

-- how a view's phase fits the numbers of the tickets, the history, and how many views there are:
-- a ticket is one that is out, who has the turn has the ticket that is served and has seen all, who makes the seats counts them
pub record IsQueued {E T : Type 0} (serving drawn : ℕ) (log : List E) (views : ℕ) (v : View E T) : Type 0 where
  pub out : (t : ℕ) → ticket_of v.phase ≡ t ∷ [] → (serving ≤ t) × (t < drawn)
  pub turn : has_turn v.phase ≡ true → (ticket_of v.phase ≡ serving ∷ []) × (v.seen ≡ log)
  pub makes : (n : ℕ) → v.phase ≡ Makes n → n ≡ views
  pub first : v.phase ≡ Empty → views ≡ 1

-- how the rest of a view fits the history, at its place among the views
pub record IsFit {E T : Type 0} (maker : E → ℕ) (setting : T) (seats : ℕ) (log : List E) (views : List (View E T)) (at : ℕ) (v : View E T) : Type 0 where
  pub number : v.number ≡ at
  pub seats_are : v.seats ≡ seats
  pub is_set : v.setting ≡ Some setting
  pub own : v.own ≡ made_by maker at log
  pub seen : IsPrefix v.seen log
  -- the place of each joined seat has the spent view
  pub joined : All (λ j. (get_elem? views j.number ≡ some spent_view) × IsAccounted maker log j) v.joined

-- no two seats have one ticket
abbrev pub AreApart : {E T : Type 0} → List (View E T) → Type 0
AreApart {E} {T} views = (i j t : ℕ) (v w : View E T) → get_elem? views i ≡ some v → get_elem? views j ≡ some w → ticket_of v.phase ≡ t ∷ [] → ticket_of w.phase ≡ t ∷ [] → i ≡ j

module _ {S E T : Type 0} (stands : S → List E) (maker : E → ℕ) (setting : S → T) where
  -- the state is in the slot, stands for the history and has the setting, and nobody has the turn; or somebody has it
  abbrev pub IsHome : T → List E → List (opt.Option (Option S)) → List (View E T) → Type 0
  IsHome c log homes views =
      ((x : S) × (homes ≡ some (Some x) ∷ []) × (stands x ≡ log) × (setting x ≡ c) × ((i : ℕ) (v : View E T) → get_elem? views i ≡ some v → has_turn v.phase ≡ false))
      ⊎ ((i : ℕ) × (v : View E T) × (get_elem? views i ≡ some v) × (has_turn v.phase ≡ true))

  pub record KeepsLockRule (key : Opened S) (s : State (Option S) (View E T)) : Type 0 where
    -- the tickets out are the numbers from `serving` up to `drawn`, which the two words count modulo 2^64
    pub drawn : ℕ
    pub serving : ℕ
    pub words : s.words ≡ drawn % 2 ^ 64 ∷ serving % 2 ^ 64 ∷ []
    pub count : drawn ≡ serving + tickets s.views
    pub apart : AreApart s.views
    pub few : length s.views ≤ key.seats
    pub most : key.seats ≤ 64
    pub log : List E
    pub makers : All (λ e. maker e < key.seats) log
    pub queued : (i : ℕ) (v : View E T) → get_elem? s.views i ≡ some v → IsQueued serving drawn log (length s.views) v
    pub fits : (i : ℕ) (v : View E T) → get_elem? s.views i ≡ some v → (v ≡ spent_view) ⊎ IsFit maker (setting key.state) key.seats log s.views i v
    pub home : IsHome (setting key.state) log s.homes s.views
    -- before there is a state, the slot has nothing
    pub blank : (i : ℕ) (v : View E T) → get_elem? s.views i ≡ some v → v.phase ≡ Empty → s.homes ≡ some None ∷ []
