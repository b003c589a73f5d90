-- What the steps of a turn and of a join tell the seat that makes them.
use Rattle.std.specs.Prelude.{ℕ, ◌≡◌, ◌%◌, ◌^◌, ◌==◌, Bool, true, false, List, [], ◌∷◌, ◌++◌, length, drop, Option, None, Some, IsSome, MatchBool}
use Rattle.std.specs.List.{All}
use mathlib.Core.List.{IsPrefix}
use Rattle.atomic_table.specs.Table.{Me, rest}
use Rattle.seat_lock.specs.declared.view.Left.{Left}
use Rattle.seat_lock.specs.declared.view.View.{View}
use Rattle.seat_lock.specs.declared.view.Phase.{Phase}
use Rattle.seat_lock.specs.declared.view.Phase.TheVariants.{Empty, Makes, Idle, Waits, Holds}
use Rattle.seat_lock.specs.History.{made_by, AddsAtMostOne, IsAccounted}
use Rattle.seat_lock.specs.Rule.{has_turn}

-- what the seat made, and what the seats joined into it made, is what the history that it has seen has of them
pub record IsAware {E T : Type 0} (maker : E → ℕ) (v : View E T) : Type 0 where
  pub own : v.own ≡ made_by maker v.number v.seen
  pub joined : All (IsAccounted maker v.seen) v.joined

-- a seat between two calls has no ticket and no state
pub record IsResting {S E T : Type 0} (maker : E → ℕ) (me : Me S (View E T)) : Type 0 where
  pub idle : me.0.phase ≡ Idle
  pub empty : me.1 ≡ []
  pub is_set : IsSome me.0.setting
  pub aware : IsAware maker me.0

-- the view in another phase of its turn
abbrev pub in_phase : {E T : Type 0} → View E T → Phase → View E T
in_phase v p = record v { phase = p }

-- it is the turn of this seat's ticket
abbrev pub is_served : Phase → ℕ → Bool
is_served Empty found = false
is_served (Makes n) found = false
is_served Idle found = false
is_served (Waits t) found = found == t % 2 ^ 64
is_served (Holds t) found = false

-- a waiting seat's phase once it has the turn
abbrev pub served : Phase → Phase
served Empty = Empty
served (Makes n) = Makes n
served Idle = Idle
served (Waits t) = Holds t
served (Holds t) = Holds t

-- a seat that waits for its turn
abbrev pub CanLook : {S E T : Type 0} → Me S (View E T) → Type 0
CanLook me = ((t : ℕ) × (me.0.phase ≡ Waits t)) × (me.1 ≡ []) × IsSome me.0.setting

-- a seat whose ticket has this word
abbrev pub HasTicket : {S E T : Type 0} → ℕ → Me S (View E T) → Type 0
HasTicket ticket me = ((t : ℕ) × (me.0.phase ≡ Waits t) × (ticket ≡ t % 2 ^ 64)) × (me.1 ≡ []) × IsSome me.0.setting

-- a seat that has had the state, and carries it with what its operation added
pub record CanLeave {S E T : Type 0} (stands : S → List E) (maker : E → ℕ) (setting : S → T) (me : Me (Option S) (View E T)) : Type 0 where
  pub turn : has_turn me.0.phase ≡ true
  pub state : S
  pub carried : me.1 ≡ (0, Some state) ∷ []
  pub is_set : me.0.setting ≡ Some (setting state)
  pub adds : AddsAtMostOne maker me.0.number me.0.seen (stands state)

-- a seat that has had the state, which is now at hand with what the seat's operation added
pub record CanGive {S E T : Type 0} (stands : S → List E) (maker : E → ℕ) (setting : S → T) (me : Me (Option S) (View E T)) (state : S) : Type 0 where
  pub turn : has_turn me.0.phase ≡ true
  pub carried : me.1 ≡ (0, None) ∷ []
  pub is_set : me.0.setting ≡ Some (setting state)
  pub adds : AddsAtMostOne maker me.0.number me.0.seen (stands state)

module _ {S E T : Type 0} where
  -- the seat has the ticket whose word was found
  abbrev pub Draws : Me (Option S) (View E T) → ℕ → Me (Option S) (View E T) → Type 0
  Draws v found w = (t : ℕ) × (found ≡ t % 2 ^ 64) × (w ≡ (in_phase v.0 (Waits t), v.1))

  -- the seat has the state, which has the setting that it knows and stands for what it now has seen
  pub record TakesState (stands : S → List E) (setting : S → T) (v w : Me (Option S) (View E T)) : Type 0 where
    pub state : S
    pub is : w ≡ (record v.0 { phase = served v.0.phase; seen = stands state }, (0, Some state) ∷ [])
    pub further : IsPrefix v.0.seen (stands state)
    pub is_set : v.0.setting ≡ Some (setting state)

  -- the same, and the state is out of its slot
  pub record TakesStateOut (stands : S → List E) (setting : S → T) (v : Me (Option S) (View E T)) (state : S) (w : Me (Option S) (View E T)) : Type 0 where
    pub is : w ≡ (record v.0 { phase = served v.0.phase; seen = stands state }, (0, None) ∷ [])
    pub turn : has_turn w.0.phase ≡ true
    pub further : IsPrefix v.0.seen (stands state)
    pub is_set : v.0.setting ≡ Some (setting state)

  -- at its turn the seat takes the state; before it nothing changes
  abbrev pub LooksForTurn : (S → List E) → (S → T) → Me (Option S) (View E T) → ℕ → Me (Option S) (View E T) → Type 0
  LooksForTurn stands setting v found w = MatchBool (is_served v.0.phase found) (TakesState stands setting v w) (w ≡ v)

  -- a view once the seat has given back what it carries
  abbrev pub after_leave : (S → List E) → View E T → List (ℕ × Option S) → View E T
  after_leave stands v [] = v
  after_leave stands v ((k, None) ∷ c) = v
  after_leave stands v ((k, Some x) ∷ c) = record v { phase = Idle; own = v.own ++ drop (length v.seen) (stands x); seen = stands x }

  -- the state is back with the entries that came to it, which are the seat's own
  abbrev pub Leaves : (S → List E) → (E → ℕ) → Me (Option S) (View E T) → Me (Option S) (View E T) → Type 0
  Leaves stands maker v w = (w ≡ (after_leave stands v.0 v.1, rest v.1)) × IsAware maker w.0

  -- the seat has seen at least what it and the seats joined into it had
  pub record CatchesUp (maker : E → ℕ) (v w : Me (Option S) (View E T)) : Type 0 where
    pub is : w ≡ (record v.0 { seen = w.0.seen }, v.1)
    pub further : IsPrefix v.0.seen w.0.seen
    pub aware : IsAware maker w.0

module _ {E T : Type 0} where
  -- what a view leaves as its seat is joined into another
  abbrev pub joined_by : View E T → Left E
  joined_by w = record { number = w.number; own = w.own; seen = w.seen }

  -- a seat with what another leaves
  abbrev pub both : View E T → View E T → View E T
  both v w = record v { joined = v.joined ++ joined_by w ∷ w.joined }
