-- How many leading bits two IPv6 addresses share (RFC 6724, section 2.2).
use Rattle.std.specs.Prelude.{ℕ, ◌-◌, ◌/◌, ◌^◌, Bool, ◌==◌, count_by}
use Rattle.std.specs.List.{range_with_len}

-- the first k of the 128 bits are the same
abbrev pub agree : ℕ → ℕ → ℕ → Bool
agree left right k = left / 2 ^ (128 - k) == right / 2 ^ (128 - k)

-- of the fronts of 1 to 64 bits, how many are the same; what lies behind the first 64 bits doesn't count
unfoldable pub common_prefix : ℕ → ℕ → ℕ
common_prefix left right = count_by (agree left right) (range_with_len 1 64)
