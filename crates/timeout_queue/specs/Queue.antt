-- A queue as a finite map from keys to due moments, and which deadline of it is the first.
use Rattle.std.specs.Prelude.{◌≡◌, ℕ, IsTrue, Some}
use Rattle.std.specs.Coded.{Coded, coded_ℕ}
use Rattle.std.specs.FinMap as map
use Rattle.std.specs.Ordering.{nat_cmp, ordering_then, is_le}
use Rattle.timeout_queue.specs.declared.key.Key.{Key}
use Rattle.timeout_queue.specs.Key.{key_cmp, key_code}

-- for each key that is in the queue, the moment at which it is due
abbrev pub Deadlines : Type 0
Deadlines = map.FinMap key_cmp ℕ

-- deadlines are told apart as finite maps from keys to numbers
abbrev pub deadlines_code : Coded Deadlines
deadlines_code = map.code key_code coded_ℕ

-- the key is due at the moment, and is the least of all by moment, then by number, then by leg
pub record IsFirst (deadlines : Deadlines) (key : Key) (due : ℕ) : Type 0 where
  pub there : map.get deadlines key ≡ Some due
  pub least : (other : Key) (moment : ℕ) → map.get deadlines other ≡ Some moment
      → IsTrue (is_le (ordering_then (nat_cmp due moment) (key_cmp key other)))
