-- The leading zeros of two numbers' exclusive or count the fronts that they share.
use Rattle.std.proofs.Common.{◌≡◌, ℕ, zero, suc, ◌+◌, ◌-◌, ◌*◌, ◌/◌, ◌%◌, ◌^◌, ◌<◌, ◌≤◌, ◌≢◌, Bool, cond, min, count_by, sym, ap, ◌∙◌, arith, inl, inr, leb, eq-eqb, ne_eqb, le-leb}
use Rattle.std.proofs.lemmas.Bool.{cases_lt, lt-leb}
use Rattle.std.proofs.lemmas.List.Sums.{sum_by-cons}
use Rattle.std.proofs.lemmas.Nat.{xor_shr, leading_length, and_le_l, and_le_r, shr_split, mod_below, div_below, pow_pos}
use Rattle.std.proofs.lemmas.Grind.{pow_more}
use Rattle.std.proofs.Math.Nat.{zero-mul}
use Rattle.std.proofs.Math.Pow.{pow_mono}
use Rattle.std.specs.Int.Bits.{bit_xor, xor_add_and, xor_self, xor_lt}
use Rattle.std.specs.Int.Count.{count_leading_zeros}
use Rattle.std.specs.List.{range_with_len}
use Rattle.net_addr.specs.Prefix.{agree, common_prefix}

equal_from_xor : (a b : ℕ) → bit_xor a b ≡ 0 → a ≡ b
equal_from_xor a b e = omega (arith, xor_add_and a b, and_le_l a b, and_le_r a b)

-- the first k bits are the same exactly where so many leading bits of the exclusive or are 0
agree-zeros : (l r k : ℕ) → l < 2 ^ 128 → r < 2 ^ 128 → k ≤ 128
    → agree l r k ≡ leb k (count_leading_zeros 128 (bit_xor l r))
agree-zeros l r k fl fr low =
    let x = bit_xor l r in
    let j = 128 - k in
    let (m, sum, below, above) = leading_length 128 x (xor_lt 128 l r fl fr) in
    let parts = xor_shr l r j in
    elim (cases_lt (count_leading_zeros 128 x) k) [
      | inl few ↦
          let apart : l / 2 ^ j ≢ r / 2 ^ j = λ same.
          let none : x / 2 ^ j ≡ 0 = parts ∙ ap (λ a. bit_xor a (r / 2 ^ j)) same ∙ xor_self (r / 2 ^ j) in
          let split : x / 2 ^ j * 2 ^ j + x % 2 ^ j ≡ x = shr_split x j in
          let rest = mod_below x (2 ^ j) (pow_pos j) in
          let more : 2 ^ (j + 1) ≤ 2 ^ m = pow_mono (omega arith) in
          let twice = pow_more 2 j in
          let gone : x / 2 ^ j * 2 ^ j ≡ 0 = ap (λ q. q * 2 ^ j) none ∙ zero-mul (2 ^ j) in
          omega arith
          in
          ne_eqb _ _ apart ∙ sym (lt-leb k _ few)
      | inr many ↦
          let more : 2 ^ m ≤ 2 ^ j = pow_mono (omega arith) in
          let none : x / 2 ^ j < 1 = div_below x (2 ^ j) 1 (pow_pos j) (omega arith) in
          eq-eqb _ _ (equal_from_xor _ _ (omega arith)) ∙ sym (le-leb k _ many)
    ]

-- of n numbers from the start on, those up to z
count_up_to : (p : ℕ → Bool) (z n start : ℕ) → ((k : ℕ) → start ≤ k → k < start + n → p k ≡ leb k z)
    → count_by p (range_with_len start n) ≡ min n (z + 1 - start)
count_up_to p z zero start h = omega arith
count_up_to p z (suc n) start h =
    let more = count_up_to p z n (start + 1) (λ k some few. h k (omega arith) (omega arith)) in
    elim (cases_lt z start) [
      | inl past ↦ rw (sum_by-cons (λ k. cond (p k) 1 0) start (range_with_len (start + 1) n), h start (omega arith) (omega arith), lt-leb start z past) (omega arith)
      | inr within ↦ rw (sum_by-cons (λ k. cond (p k) 1 0) start (range_with_len (start + 1) n), h start (omega arith) (omega arith), le-leb start z within) (omega arith)
    ]

pub common_prefix-zeros : (l r : ℕ) → l < 2 ^ 128 → r < 2 ^ 128
    → min (count_leading_zeros 128 (bit_xor l r)) 64 ≡ common_prefix l r
unfolding common_prefix
common_prefix-zeros l r fl fr =
    let z = count_leading_zeros 128 (bit_xor l r) in
    let count = count_up_to (agree l r) z 64 1 (λ k some few. agree-zeros l r k fl fr (omega arith)) in
    omega arith
