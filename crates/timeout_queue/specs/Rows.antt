-- How the deadlines of a queue stand in rows: what was dropped may stand there still, but never in front.
use Rattle.std.specs.Prelude.{◌≡◌, ◌⊎◌, ⊤, Bool, false, true, List, [], ◌∷◌, cond, ℕ, nat_eq, Option, None, Some}
use Rattle.std.specs.BTreeSet.{BTreeSet, contains}
use Rattle.std.specs.HashMap.{HashMap, get}
use Rattle.std.specs.List.{AllByRecursion}
use Rattle.std.specs.Option.{option_eq}
use Rattle.std.specs.Ordering.{eq_by_cmp, is_le}
use Rattle.timeout_queue.specs.declared.key.Key.{Key}
use Rattle.timeout_queue.specs.declared.key.Deadline.{Deadline}
use Rattle.timeout_queue.specs.declared.rows.Rows.{Rows}
use Rattle.timeout_queue.specs.Key.{key_eq, deadline_cmp}

-- the deadline's key is in the queue, and due at its moment
abbrev pub is_live : {S : Type 0} → HashMap Key ℕ S → Deadline → Bool
is_live moments d = option_eq nat_eq (get key_eq moments d.key) (Some d.due)

-- the deadline stands in the row
abbrev pub IsIn : Deadline → List Deadline → Type 0
IsIn d [] = ⊥
IsIn d (x ∷ xs) = (x ≡ d) ⊎ IsIn d xs

-- no deadline of the row is later
abbrev pub IsBehind : Deadline → List Deadline → Type 0
IsBehind d row = AllByRecursion (λ x. is_le (deadline_cmp x d) ≡ true) row

-- no deadline of the row is later than one behind it
abbrev pub IsRising : List Deadline → Type 0
IsRising [] = ⊤
IsRising (d ∷ ds) = AllByRecursion (λ x. is_le (deadline_cmp d x) ≡ true) ds × IsRising ds

-- the row is empty, or its first deadline is of this kind
abbrev pub IsLed : (Deadline → Type 0) → List Deadline → Type 0
IsLed P [] = ⊤
IsLed P (d ∷ ds) = P d

-- the row lost none that is live, and nothing came to it
pub record KeepsLive (live : Deadline → Bool) (old new : List Deadline) : Type 0 where
  pub rising : IsRising old → IsRising new
  pub behind : (d : Deadline) → IsBehind d old → IsBehind d new
  pub kept : (d : Deadline) → live d ≡ true → IsIn d old → IsIn d new

-- besides, the row is led by a live one, as it was
pub record Thins (live : Deadline → Bool) (old new : List Deadline) : Type 0 where
  pub keeps : KeepsLive live old new
  pub led : IsLed (λ d. live d ≡ true) old → IsLed (λ d. live d ≡ true) new

-- with the deadline, those are live afterwards that were before
pub record AddsLive (before : Deadline → Bool) (deadline : Deadline) (after : Deadline → Bool) : Type 0 where
  pub itself : after deadline ≡ true
  pub kept : (d : Deadline) → before d ≡ true → after d ≡ true
  pub only : (d : Deadline) → after d ≡ true → (deadline ≡ d) ⊎ (before d ≡ true)

-- the deadline stands at the end of the row
pub record Extends (live : Deadline → Bool) (deadline : Deadline) (old new : List Deadline) : Type 0 where
  pub rising : IsRising new
  pub kept : (d : Deadline) → live d ≡ true → IsIn d old → IsIn d new
  pub has : IsIn deadline new
  pub led : (after : Deadline → Bool) → AddsLive live deadline after → IsLed (λ d. live d ≡ true) old → IsLed (λ d. after d ≡ true) new

-- each live deadline stands in a row or in the tree
abbrev pub HoldsAll : (Deadline → Bool) → Rows → Type 0
HoldsAll live rows = (d : Deadline) → live d ≡ true
    → IsIn d rows.row.items ⊎ IsIn d rows.other.items ⊎ (contains deadline_cmp rows.rest d ≡ true)

-- each live deadline stands in a row or in the tree; rows rise, and are led by live ones; in the tree all are live
pub record HaveLive (live : Deadline → Bool) (rows : Rows) : Type 0 where
  pub rising : IsRising rows.row.items
  pub led : IsLed (λ d. live d ≡ true) rows.row.items
  pub other_rising : IsRising rows.other.items
  pub other_led : IsLed (λ d. live d ≡ true) rows.other.items
  pub rest : (d : Deadline) → contains deadline_cmp rows.rest d ≡ true → live d ≡ true
  pub all : HoldsAll live rows

-- both rows are led by live ones
abbrev pub AreLed : (Deadline → Bool) → Rows → Type 0
AreLed live rows = IsLed (λ d. live d ≡ true) rows.row.items × IsLed (λ d. live d ≡ true) rows.other.items

-- the tree has all that it had but the deadline
abbrev pub LeavesTree : Deadline → BTreeSet Deadline → BTreeSet Deadline → Type 0
LeavesTree d old new = (q : Deadline) → contains deadline_cmp new q ≡ cond (eq_by_cmp deadline_cmp d q) false (contains deadline_cmp old q)

-- the deadline is live no longer, and all others are as they were
pub record DropsLive (before : Deadline → Bool) (deadline : Deadline) (after : Deadline → Bool) : Type 0 where
  pub gone : after deadline ≡ true → ⊥
  pub kept : (d : Deadline) → before d ≡ true → (deadline ≡ d) ⊎ (after d ≡ true)
  pub only : (d : Deadline) → after d ≡ true → before d ≡ true

-- the one of two that comes first, or the only one
abbrev pub sooner_of : Option Deadline → Option Deadline → Option Deadline
sooner_of None right = right
sooner_of (Some left) None = Some left
sooner_of (Some left) (Some right) = Some (cond (is_le (deadline_cmp left right)) left right)

-- the deadline is live, and no other live one comes before it
pub record IsFirstLive (live : Deadline → Bool) (deadline : Deadline) : Type 0 where
  pub is : live deadline ≡ true
  pub least : (d : Deadline) → live d ≡ true → is_le (deadline_cmp deadline d) ≡ true
