-- The legs that wait as a finite set, which of them is the first, and how they stand in a row.
use Rattle.std.specs.Prelude.{◌≡◌, ◌&&◌, ⊤, Bool, true, false, not, List, [], ◌∷◌, cond, Option, None, Some, IsTrue}
use Rattle.std.specs.BTreeSet.{BTreeSet, contains}
use Rattle.std.specs.Coded.{Coded}
use Rattle.std.specs.FinSet as set
use Rattle.std.specs.List.{AllByRecursion, list_any}
use Rattle.std.specs.Ordering.{eq_by_cmp, is_le}
use Rattle.std.specs.declared.cmp.Ordering.TheVariants.{Less}
use Rattle.timeout_queue.specs.Key.{key_cmp, key_eq, key_code}
use Rattle.timeout_queue.specs.declared.key.Key.{Key}

-- legs that wait
abbrev pub Legs : Type 0
Legs = set.FinSet key_cmp

-- they are told apart as finite sets of keys
abbrev pub legs_code : Coded Legs
legs_code = set.code key_code

-- the leg waits, and is the least of all that do, by number, then by leg
pub record WaitsFirst (legs : Legs) (leg : Key) : Type 0 where
  pub there : IsTrue (set.contains legs leg)
  pub least : (other : Key) → IsTrue (set.contains legs other) → IsTrue (is_le (key_cmp leg other))

-- the one comes before the other
abbrev pub IsBelow : Key → Key → Type 0
IsBelow x y = key_cmp x y ≡ Less

-- each leg of the row comes before this one
abbrev pub IsBehind : Key → List Key → Type 0
IsBehind leg row = AllByRecursion (λ x. IsBelow x leg) row

-- each comes after it
abbrev pub IsAhead : Key → List Key → Type 0
IsAhead leg row = AllByRecursion (λ x. IsBelow leg x) row

-- each leg of the row comes before those behind it
abbrev pub IsRising : List Key → Type 0
IsRising [] = ⊤
IsRising (x ∷ xs) = IsAhead x xs × IsRising xs

-- the row has the leg
abbrev pub has_leg : Key → List Key → Bool
has_leg leg row = list_any (eq_by_cmp key_cmp leg) row

-- no leg of the row comes before this one
abbrev pub IsUptoAll : Key → List Key → Type 0
IsUptoAll leg row = (other : Key) → has_leg other row ≡ true → is_le (key_cmp leg other) ≡ true

-- the row has all that it had but the leg
abbrev pub Leaves : Key → List Key → List Key → Type 0
Leaves leg old new = (other : Key) → has_leg other new ≡ (not (eq_by_cmp key_cmp other leg) && has_leg other old)

-- the tree has all that it had but the leg
abbrev pub LeavesTree : Key → BTreeSet Key → BTreeSet Key → Type 0
LeavesTree leg old new = (other : Key) → contains key_cmp new other ≡ cond (eq_by_cmp key_cmp leg other) false (contains key_cmp old other)

-- the row begins with the leg
abbrev pub begins_with : Key → List Key → Bool
begins_with leg [] = false
begins_with leg (x ∷ xs) = key_eq x leg

-- the one of two that comes first, or the only one
abbrev pub lesser_of : Option Key → Option Key → Option Key
lesser_of None right = right
lesser_of (Some left) None = Some left
lesser_of (Some left) (Some right) = Some (cond (is_le (key_cmp left right)) left right)
