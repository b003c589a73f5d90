-- Flags in words of 64 bits, and the first that is set from a place on.
use Rattle.std.specs.Prelude.{◌≡◌, ◌≢◌, ℕ, ◌/◌, ◌%◌, ◌<◌, ◌≤◌, ◌==◌, Bool, true, not, List, length, slice_index, Option, MatchOption}
use Rattle.std.specs.Int.{bit_at}
use Rattle.std.specs.Slice.Scan.{HoldsNowhere}

-- the bit is set in the word
unfoldable pub bit_is_set : ℕ → ℕ → Bool
bit_is_set word i = bit_at word i == 1

-- the flag is set in the words
unfoldable pub flag : List ℕ → ℕ → Bool
flag words i = bit_at (slice_index words (i / 64)) (i % 64) == 1

-- all flags below a bound are set
abbrev pub AllSet : List ℕ → ℕ → Type 0
AllSet words bound = (i : ℕ) → i < bound → flag words i ≡ true

-- the first place where p holds, from one on and below another
pub record IsFirst (p : ℕ → Bool) (from to place : ℕ) : Type 0 where
  pub low : from ≤ place
  pub high : place < to
  pub holds : p place ≡ true
  pub before : HoldsNowhere p from place

-- that first place, or there is none
abbrev pub FindsFirst : (ℕ → Bool) → ℕ → ℕ → Option ℕ → Type 0
FindsFirst p from to found = MatchOption found (HoldsNowhere p from to) (IsFirst p from to)

-- the flag is as told, and all others are as they were, as are the other words
pub record Changes (old new : List ℕ) (place : ℕ) (to : Bool) : Type 0 where
  pub len : length new ≡ length old
  pub own : flag new place ≡ to
  pub others : (i : ℕ) → i ≢ place → flag new i ≡ flag old i
  pub words : (k : ℕ) → k ≢ place / 64 → slice_index new k ≡ slice_index old k

-- which words aren't 0
abbrev pub Summarizes : (ℕ → Bool) → List ℕ → Type 0
Summarizes is_some words = (k : ℕ) → k < length words → is_some k ≡ not (slice_index words k == 0)
