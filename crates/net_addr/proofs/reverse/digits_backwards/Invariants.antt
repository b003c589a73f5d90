use Rattle.std.proofs.Common.{◌≡◌, ℕ, ◌*◌, ◌/◌, ◌%◌, ◌^◌, ◌<◌, length, get_or}
use Rattle.std.specs.Char.{digit_char}
use Rattle.net_addr.proofs.reverse.digits_backwards.Given as goal

abbrev pub invariant-loop-k : goal.invariant-loop-k
invariant-loop-k l = record {
  whole : length l.digits ≡ 32;
  written : (j : ℕ) → j < l.k → get_or l.digits j 0 ≡ digit_char (l.bits / 2 ^ (4 * j) % 2 ^ 4);
}
