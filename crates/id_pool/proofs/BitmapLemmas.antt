-- The first bit of a word and the first flag of a bitmap, and what a changed word does to the flags.
use Rattle.std.proofs.Common.{◌≡◌, ◌≢◌, ℕ, ◌+◌, ◌-◌, ◌*◌, ◌/◌, ◌%◌, ◌^◌, ◌<◌, ◌≤◌, Bool, true, false, List, length, subst, ap, sym, ◌∙◌, inl, inr, arith, w64}
use Rattle.std.specs.Prelude.{◌==◌, slice_index, slice_set, bit_or, bit_and}
use Rattle.std.specs.Int.{bit_at, bit_not, trailing_zeros}
use Rattle.std.specs.Slice.Scan.{HoldsNowhere}
use Rattle.std.proofs.lemmas.Bool.{cases_eq, cases_lt}
use Rattle.std.proofs.lemmas.List.{get_or-set_same, get_or-set_other, length-set}
use Rattle.std.proofs.lemmas.Nat.{shr-shr}
use Rattle.std.proofs.lemmas.Nat.Bits.{shr_and_one, bit_at-zero, bit_at-trailing_zeros, bit_at_above, bit_at_set_same, bit_at_set_other, bit_at_clear_same, bit_at_clear_other}
use Rattle.id_pool.specs.Bitmap.{bit_is_set, flag, IsFirst, Changes}

-- the bits from a place on are those of the word that is shifted there
bit_at_shifted : (word from k : ℕ) → from ≤ k → bit_at word k ≡ bit_at (word / 2 ^ from) (k - from)
bit_at_shifted word from k low =
    let place : k ≡ from + (k - from) = omega arith in
    ap (bit_at word) place ∙ sym (ap (λ x. x % 2) (shr-shr word from (k - from)))

-- a word that is 0 once it is shifted has no bit from there on
pub no_bit : (word from : ℕ) → word / 2 ^ from ≡ 0 → (k : ℕ) → from ≤ k → k < 64 → bit_is_set word k ≡ false
unfolding bit_is_set
no_bit word from none k low high =
    ap (λ b. b == 1) (bit_at_shifted word from k low ∙ ap (λ x. bit_at x (k - from)) none ∙ bit_at-zero (k - from))

-- any other has its first one where the zeros end
pub first_bit : (word from : ℕ) → word < 2 ^ 64 → word / 2 ^ from ≢ 0
    → IsFirst (bit_is_set word) from 64 (from + trailing_zeros w64 (word / 2 ^ from))
unfolding bit_is_set
first_bit word from fits some =
    let rest : ℕ = word / 2 ^ from in
    let lowest = bit_at-trailing_zeros w64 rest (omega arith) (omega arith) in
    let at : from + trailing_zeros w64 rest - from ≡ trailing_zeros w64 rest = omega arith in
    let here : bit_at word (from + trailing_zeros w64 rest) ≡ 1 = bit_at_shifted word from _ (omega arith) ∙ ap (bit_at rest) at ∙ lowest.1 in
    record {
      low = omega arith;
      high = elim (cases_lt (from + trailing_zeros w64 rest) 64) [
        | inl below ↦ below
        | inr above ↦ absurd (let none = bit_at_above word 64 (from + trailing_zeros w64 rest) fits above in omega arith)
      ];
      holds = ap (λ b. b == 1) here;
      before = λ k low high. ap (λ b. b == 1) (bit_at_shifted word from k low ∙ lowest.2 (k - from) (omega arith));
    }

module _ (words : List ℕ) where
  -- the flags of a word are its bits
  pub flag-in : (k i : ℕ) → i / 64 ≡ k → flag words i ≡ bit_is_set (slice_index words k) (i % 64)
  unfolding flag bit_is_set
  flag-in k i at = ap (λ j. bit_at (slice_index words j) (i % 64) == 1) at

  -- where the word has no bit from a place on, none of its flags is set from there on
  pub none_here : (from : ℕ) → HoldsNowhere (bit_is_set (slice_index words (from / 64))) (from % 64) 64 → HoldsNowhere (flag words) from (from / 64 * 64 + 64)
  none_here from none i low high =
      let at : i / 64 ≡ from / 64 = omega arith in
      flag-in (from / 64) i at ∙ none (i % 64) (omega arith) (omega arith)

  -- and its first bit is its first flag
  pub first_here : (from k bit : ℕ) → from / 64 ≡ k → IsFirst (bit_is_set (slice_index words k)) (from % 64) 64 bit
      → IsFirst (flag words) from (k * 64 + 64) (k * 64 + bit)
  first_here from k bit at first =
      let low = first.low in
      let high = first.high in
      let place : (k * 64 + bit) % 64 ≡ bit = omega arith in
      record {
        low = omega arith;
        high = omega arith;
        holds = flag-in k (k * 64 + bit) (omega arith) ∙ ap (bit_is_set (slice_index words k)) place ∙ first.holds;
        before = λ i l h. flag-in k i (omega arith) ∙ first.before (i % 64) (omega arith) (omega arith);
      }

  -- the first of a word that isn't 0
  pub first_in : (k : ℕ) → slice_index words k < 2 ^ 64 → slice_index words k ≢ 0
      → IsFirst (flag words) (k * 64) (k * 64 + 64) (k * 64 + trailing_zeros w64 (slice_index words k))
  first_in k fits some =
      let word : ℕ = slice_index words k in
      let whole : word / 2 ^ 0 ≡ word = omega arith in
      let start : k * 64 % 64 ≡ 0 = omega arith in
      let here : 0 + trailing_zeros w64 (word / 2 ^ 0) ≡ trailing_zeros w64 word = omega (arith, ap (trailing_zeros w64) whole) in
      first_here (k * 64) k _ (omega arith)
      (rw start (subst (IsFirst (bit_is_set word) 0 64) here (first_bit word 0 fits (subst (λ w. w ≢ 0) (sym whole) some))))

  -- the test of a flag
  pub flag_tests : (i : ℕ) → (bit_and (slice_index words (i / 64) / 2 ^ (i % 64)) 1 == 1) ≡ flag words i
  unfolding flag
  flag_tests i = ap (λ b. b == 1) (shr_and_one (slice_index words (i / 64)) (i % 64))

  -- one word takes another value, in which one bit is as told and the others are as they were
  module _ (place value : ℕ) (within : place / 64 < length words) where
    changed : (to : Bool) → bit_is_set value (place % 64) ≡ to
        → ((i : ℕ) → i < 64 → i ≢ place % 64 → bit_at value i ≡ bit_at (slice_index words (place / 64)) i)
        → Changes words (slice_set words (place / 64) value) place to
    unfolding flag bit_is_set
    changed to own others = record {
      len = length-set words (place / 64) value;
      own = ap (λ w. bit_at w (place % 64) == 1) (get_or-set_same words (place / 64) value 0 within) ∙ own;
      others = λ i apart. elim (cases_eq (i / 64) (place / 64)) [
        | inl here ↦
            ap (λ k. bit_at (slice_index (slice_set words (place / 64) value) k) (i % 64) == 1) here
            ∙ ap (λ w. bit_at w (i % 64) == 1) (get_or-set_same words (place / 64) value 0 within)
            ∙ ap (λ b. b == 1) (others (i % 64) (omega arith) (λ same. apart (omega arith)))
            ∙ ap (λ k. bit_at (slice_index words k) (i % 64) == 1) (sym here)
        | inr other ↦ ap (λ w. bit_at w (i % 64) == 1) (get_or-set_other words (place / 64) (i / 64) value 0 other)
      ];
      words = λ k other. get_or-set_other words (place / 64) k value 0 other;
    }

  module _ (place : ℕ) (within : place / 64 < length words) where
    pub flag_set : Changes words (slice_set words (place / 64) (bit_or (slice_index words (place / 64)) (1 * 2 ^ (place % 64) % 2 ^ 64))) place true
    unfolding bit_is_set
    flag_set =
        let bit : place % 64 < 64 = omega arith in
        changed place _ within true (ap (λ b. b == 1) (bit_at_set_same w64 _ _ bit)) (λ i low other. bit_at_set_other w64 _ _ bit i other)

    pub flag_cleared : Changes words (slice_set words (place / 64) (bit_and (slice_index words (place / 64)) (bit_not w64 (1 * 2 ^ (place % 64) % 2 ^ 64)))) place false
    unfolding bit_is_set
    flag_cleared =
        let bit : place % 64 < 64 = omega arith in
        changed place _ within false (ap (λ b. b == 1) (bit_at_clear_same w64 _ _ bit)) (λ i low other. bit_at_clear_other w64 _ _ bit i low other)
