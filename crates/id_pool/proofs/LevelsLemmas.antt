-- From one level to the next: where a word has no flag, and what a changed word does to the level above it.
use Rattle.std.proofs.Common.{refl, ◌≡◌, ◌≢◌, ℕ, ◌+◌, ◌*◌, ◌/◌, ◌%◌, ◌^◌, ◌<◌, ◌≤◌, Bool, true, false, not, List, length, replicate, subst, ap, sym, ◌∙◌, inl, inr, arith, w64}
use Rattle.std.specs.Prelude.{◌==◌, slice_index, bit_or, bit_and}
use Rattle.std.specs.Int.{bit_at, bit_not}
use Rattle.std.specs.Slice.Scan.{HoldsNowhere}
use Rattle.std.proofs.lemmas.Bool.{cases_eq, cases_lt, ne_eqb, true≢false}
use Rattle.std.proofs.lemmas.Bool.Decides.{nat_tests}
use Rattle.std.proofs.lemmas.List.{get_or-replicate, length-replicate}
use Rattle.std.proofs.lemmas.Nat.Bits.{bit_at-zero, bit_at_ones, bit_at_ones_above, bit_at_set_same, bit_at_set_other, bit_at_clear_same, bit_at_clear_other}
use Rattle.id_pool.specs.Bitmap.{bit_is_set, flag, AllSet, IsFirst, Changes, Summarizes}
use Rattle.id_pool.specs.Levels.{AreUpper}

-- a word that is 0 has no flag
flag_of_zero : (words : List ℕ) (i : ℕ) → slice_index words (i / 64) ≡ 0 → flag words i ≡ false
unfolding flag
flag_of_zero words i zero = ap (λ w. bit_at w (i % 64) == 1) zero ∙ ap (λ b. b == 1) (bit_at-zero (i % 64))

-- a word with a flag isn't 0
word_of_flag : (words : List ℕ) (i : ℕ) → flag words i ≡ true → slice_index words (i / 64) ≢ 0
word_of_flag words i set zero = true≢false (sym set ∙ flag_of_zero words i zero)

module _ (upper : ℕ → Bool) (words : List ℕ) (n : ℕ) (len : length words ≡ n) (sums : Summarizes upper words) where
  no_flag : (i : ℕ) → i / 64 < n → upper (i / 64) ≡ false → flag words i ≡ false
  no_flag i within none =
      let zero : slice_index words (i / 64) ≡ 0 = grind (arith, nat_tests, sums (i / 64) (omega arith)) in
      flag_of_zero words i zero

  -- no flag in the word of a place from there on, and no word above it
  pub climbs_none : (from : ℕ) → HoldsNowhere (flag words) from (from / 64 * 64 + 64) → HoldsNowhere upper (from / 64 + 1) n → HoldsNowhere (flag words) from (n * 64)
  climbs_none from here above i low high = elim (cases_lt i (from / 64 * 64 + 64)) [
    | inl near ↦ here i low near
    | inr far ↦ no_flag i (omega arith) (above (i / 64) (omega arith) (omega arith))
  ]

  -- no flag in the word of a place from there on, and the first word above it
  pub climbs_some : (from k place : ℕ) → HoldsNowhere (flag words) from (from / 64 * 64 + 64) → IsFirst upper (from / 64 + 1) n k
      → IsFirst (flag words) (k * 64) (k * 64 + 64) place → IsFirst (flag words) from (n * 64) place
  climbs_some from k place here above first =
      let low = above.low in
      let high = above.high in
      let first_low = first.low in
      let first_high = first.high in
      record {
        low = omega arith;
        high = omega arith;
        holds = first.holds;
        before = λ i l h. elim (cases_lt i (from / 64 * 64 + 64)) [
          | inl near ↦ here i l near
          | inr far ↦ elim (cases_lt i (k * 64)) [
            | inl before ↦ no_flag i (omega arith) (above.before (i / 64) (omega arith) (omega arith))
            | inr within ↦ first.before i within h
          ]
        ];
      }

-- a first place below a bound is that below a later bound
pub first_widened : (p : ℕ → Bool) (from to later place : ℕ) → to ≤ later → IsFirst p from to place → IsFirst p from later place
first_widened p from to later place order first =
    let high = first.high in
    record { low = first.low; high = omega arith; holds = first.holds; before = first.before }

-- and of bits that stop at a bound, it is below that
pub first_narrowed : (p : ℕ → Bool) (from bound to place : ℕ) → HoldsNowhere p bound to → IsFirst p from to place → IsFirst p from bound place
first_narrowed p from bound to place beyond first = record {
  low = first.low;
  high = elim (cases_lt place bound) [
    | inl below ↦ below
    | inr above ↦ absurd (true≢false (sym first.holds ∙ beyond place above first.high))
  ];
  holds = first.holds;
  before = first.before;
}

-- the level above tells of the changed word whether it is 0 now
sums_changed : (upper after : ℕ → Bool) (old new : List ℕ) (place : ℕ) (to : Bool) → Summarizes upper old → Changes old new place to
    → after (place / 64) ≡ not (slice_index new (place / 64) == 0) → ((k : ℕ) → k < length old → k ≢ place / 64 → after k ≡ upper k)
    → Summarizes after new
sums_changed upper after old new place to sums changes own others k within = elim (cases_eq k (place / 64)) [
  | inl here ↦ subst (λ j. after j ≡ not (slice_index new j == 0)) (sym here) own
  | inr other ↦
      let len = changes.len in
      others k (omega arith) other ∙ sums k (omega arith) ∙ ap (λ w. not (w == 0)) (sym (changes.words k other))
]

module _ (upper after : ℕ → Bool) (old new : List ℕ) (place : ℕ) (sums : Summarizes upper old) where
  -- where a flag was set, the word isn't 0
  pub sums_set : Changes old new place true → after (place / 64) ≡ true → ((k : ℕ) → k < length old → k ≢ place / 64 → after k ≡ upper k) → Summarizes after new
  sums_set changes own others =
      sums_changed upper after old new place true sums changes
      (own ∙ sym (ap not (ne_eqb _ 0 (word_of_flag new place changes.own)))) others

  -- where one was cleared and the word is 0
  pub sums_emptied : Changes old new place false → slice_index new (place / 64) ≡ 0 → after (place / 64) ≡ false → ((k : ℕ) → k < length old → k ≢ place / 64 → after k ≡ upper k) → Summarizes after new
  sums_emptied changes empty own others =
      sums_changed upper after old new place false sums changes
      (own ∙ sym (ap (λ w. not (w == 0)) empty)) others

  -- where one was cleared and others are left, nothing changes above
  pub sums_kept : Changes old new place false → place / 64 < length old → slice_index new (place / 64) ≤ slice_index old (place / 64) → slice_index new (place / 64) ≢ 0 → Summarizes upper new
  sums_kept changes within less some =
      sums_changed upper upper old new place false sums changes
      (sums (place / 64) within ∙ ap not (ne_eqb _ 0 (λ zero. some (omega arith)) ∙ sym (ne_eqb _ 0 some))) (λ k _ _. refl)

module _ (blocks : ℕ) (old new : List ℕ) (word : ℕ) (upper : AreUpper blocks old) (within : word < 1024) where
  block_below : word / 64 < 64
  block_below = omega arith

  -- the bit of the word's block is set
  pub upper_set : Changes old new word true → AreUpper (bit_or blocks (1 * 2 ^ (word / 64) % 2 ^ 64)) new
  unfolding bit_is_set
  upper_set changes =
      let len = upper.len in
      let new_len = changes.len in
      record {
        len = omega arith;
        sums = sums_set (bit_is_set blocks) _ old new word upper.sums changes
            (ap (λ b. b == 1) (bit_at_set_same w64 blocks (word / 64) block_below))
            (λ k _ other. ap (λ b. b == 1) (bit_at_set_other w64 blocks (word / 64) block_below k other));
        beyond = λ k low high. ap (λ b. b == 1) (bit_at_set_other w64 blocks (word / 64) block_below k (λ same. omega arith)) ∙ upper.beyond k low high;
      }

  -- the block is empty, and its bit is cleared
  pub upper_emptied : Changes old new word false → slice_index new (word / 64) ≡ 0 → AreUpper (bit_and blocks (bit_not w64 (1 * 2 ^ (word / 64) % 2 ^ 64))) new
  unfolding bit_is_set
  upper_emptied changes empty =
      let len = upper.len in
      let new_len = changes.len in
      record {
        len = omega arith;
        sums = sums_emptied (bit_is_set blocks) _ old new word upper.sums changes empty
            (ap (λ b. b == 1) (bit_at_clear_same w64 blocks (word / 64) block_below))
            (λ k low other. ap (λ b. b == 1) (bit_at_clear_other w64 blocks (word / 64) block_below k (omega arith) other));
        beyond = λ k low high. ap (λ b. b == 1) (bit_at_clear_other w64 blocks (word / 64) block_below k high (λ same. omega arith)) ∙ upper.beyond k low high;
      }

  -- the block has other words
  pub upper_kept : Changes old new word false → slice_index new (word / 64) ≤ slice_index old (word / 64) → slice_index new (word / 64) ≢ 0 → AreUpper blocks new
  upper_kept changes less some =
      let len = upper.len in
      let new_len = changes.len in
      record {
        len = omega arith;
        sums = sums_kept (bit_is_set blocks) (bit_is_set blocks) old new word upper.sums changes (omega arith) less some;
        beyond = upper.beyond;
      }

-- ---- all flags are set

module _ (n : ℕ) (words : List ℕ) (all : words ≡ replicate n 18446744073709551615) where
  word_of_ones : (k : ℕ) → k < n → slice_index words k ≡ 18446744073709551615
  word_of_ones k within = ap (λ l. slice_index l k) all ∙ get_or-replicate n k _ 0 within

  pub length_of_ones : length words ≡ n
  length_of_ones = ap length all ∙ length-replicate n _

  pub flags_of_ones : AllSet words (n * 64)
  unfolding flag
  flags_of_ones i within = ap (λ w. bit_at w (i % 64) == 1) (word_of_ones (i / 64) (omega arith)) ∙ ap (λ b. b == 1) (bit_at_ones 64 (i % 64) (omega arith))

  pub sums_of_ones : (upper : ℕ → Bool) → ((k : ℕ) → k < n → upper k ≡ true) → Summarizes upper words
  sums_of_ones upper set k within = set k (omega (arith, length_of_ones)) ∙ sym (ap (λ w. not (w == 0)) (word_of_ones k (omega (arith, length_of_ones))))

pub upper_of_ones : (words : List ℕ) → words ≡ replicate 16 18446744073709551615 → AreUpper 65535 words
unfolding bit_is_set
upper_of_ones words all = record {
  len = length_of_ones 16 words all;
  sums = sums_of_ones 16 words all _ (λ k within. ap (λ b. b == 1) (bit_at_ones 16 k within));
  beyond = λ k low high. ap (λ b. b == 1) (bit_at_ones_above 16 k low);
}
