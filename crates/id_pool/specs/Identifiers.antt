-- Which identifiers are in use, and which is the first that isn't: identifiers have 16 bits (RFC 1035, section 4.1.1).
use Rattle.std.specs.Prelude.{ℕ, ◌<◌, ◌^◌, ◌≡◌, ◌+◌, ◌%◌, Bool, IsFalse, IsTrue}
use Rattle.std.specs.FinSet.{FinSet}
use Rattle.std.specs.Ordering.{nat_cmp}

-- identifiers that are in use
abbrev pub Identifiers : Type 0
Identifiers = FinSet nat_cmp

-- the identifier is the first from the word upwards, modulo 2 ^ 16, that isn't in use
pub record IsFirstFree (is_used : ℕ → Bool) (word id : ℕ) : Type 0 where
  pub steps : ℕ
  pub few : steps < 2 ^ 16
  pub reached : id ≡ (word + steps) % 2 ^ 16
  pub free : IsFalse (is_used id)
  pub passed : (step : ℕ) → step < steps → IsTrue (is_used ((word + step) % 2 ^ 16))

-- all identifiers are in use
abbrev pub AllUsed : (ℕ → Bool) → Type 0
AllUsed is_used = (id : ℕ) → id < 2 ^ 16 → IsTrue (is_used id)
