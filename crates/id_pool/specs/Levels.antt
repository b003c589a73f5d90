-- How the flags of free identifiers stand in three levels, and which identifiers they leave.
use Rattle.std.specs.Prelude.{◌≡◌, ℕ, suc, zero, Bool, not, cond, List, length}
use Rattle.std.specs.FinSet as set
use Rattle.std.specs.Slice.Scan.{HoldsNowhere}
use Rattle.id_pool.specs.Bitmap.{flag, bit_is_set, Summarizes}
use Rattle.id_pool.specs.Identifiers.{Identifiers}
use Rattle.id_pool.specs.declared.levels.Levels.{Levels}

-- the identifiers below a bound for which p holds
unfoldable pub ids_below : (ℕ → Bool) → ℕ → Identifiers
ids_below p zero = set.empty
ids_below p (suc n) = cond (p n) (set.insert (ids_below p n) n) (ids_below p n)

-- the identifiers whose flags aren't set
abbrev pub ids_unset : List ℕ → Identifiers
ids_unset flags = ids_below (λ id. not (flag flags id)) 65536

-- the bits tell which of the 16 words aren't 0
pub record AreUpper (blocks : ℕ) (words : List ℕ) : Type 0 where
  pub len : length words ≡ 16
  pub sums : Summarizes (bit_is_set blocks) words
  pub beyond : HoldsNowhere (bit_is_set blocks) 16 64

-- each level tells which words of the one below it aren't 0
pub record AreLevels (levels : Levels) : Type 0 where
  pub len : length levels.flags.items ≡ 1024
  pub sums : Summarizes (flag levels.words.items) levels.flags.items
  pub upper : AreUpper levels.blocks levels.words.items

-- the levels are in order, and the number is that of the identifiers in use
pub record IsKept (free : Levels) (used : ℕ) : Type 0 where
  pub levels : AreLevels free
  pub count : used ≡ set.len (ids_unset free.flags.items)
