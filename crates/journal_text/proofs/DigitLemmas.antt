-- Decimal digits are read as they are printed.
use Rattle.std.proofs.Common.{◌≡◌, ℕ, zero, suc, ◌+◌, ◌-◌, ◌*◌, ◌/◌, ◌%◌, ◌^◌, ◌<◌, ◌≤◌, Bool, true, false, cond, ◌&&◌, leb, List, [], ◌∷◌, ◌++◌, length, Option, Some, None, refl, sym, ap, ◌∙◌, arith, rules}
use Rattle.std.specs.Prelude.{decimal}
use Rattle.std.specs.Char.{is_ascii_digit}
use Rattle.std.specs.List.{list_all}
use Rattle.std.specs.Str.Parse.{digits_value}
use Rattle.std.proofs.lemmas.Bool.{and_parts, and_from, le-leb}
use Rattle.std.proofs.lemmas.Fmt.{decimal_by_steps, decimal_nonempty, digits_decimal}
use Rattle.std.proofs.lemmas.Str.Parse.{IsDigitsTest, IsNumeralModel, numerals_by_value}
use Rattle.journal_text.specs.Words.{Word}
use Rattle.journal_text.specs.Reads.{◌>>=◌}
use Rattle.journal_text.specs.Atoms.{digits_on}

-- one digit more
one_digit : (most number d : ℕ) (digits : Word) → d < 10 → number * 10 + d ≤ most → digits_on most number ((48 + d) ∷ digits) ≡ digits_on most (number * 10 + d) digits
one_digit most number d digits small few =
    let minus : 48 + d - 48 ≡ d = omega arith in
    let is_digit : is_ascii_digit (48 + d) ≡ true = and_from (leb 48 (48 + d)) (leb (48 + d) 57) (le-leb _ _ (omega arith)) (le-leb _ _ (omega arith)) in
    rw (minus, is_digit, le-leb (number * 10 + d) most few) refl

cond_then : (test : Bool) (found : Option ℕ) (more : ℕ → Option ℕ) → (cond test found None >>= more) ≡ cond test (found >>= more) None
cond_then true found more = refl
cond_then false found more = refl

-- digits, and one behind them
digits_on-push : (most number : ℕ) (digits : Word) (d : ℕ) → digits_on most number (digits ++ d ∷ []) ≡ (digits_on most number digits >>= λ so_far. digits_on most so_far (d ∷ []))
digits_on-push most number [] d = refl
digits_on-push most number (x ∷ digits) d =
    ap (λ (found : Option ℕ). cond (is_ascii_digit x && leb (number * 10 + (x - 48)) most) found None) (digits_on-push most (number * 10 + (x - 48)) digits d)
    ∙ sym (cond_then (is_ascii_digit x && leb (number * 10 + (x - 48)) most) (digits_on most (number * 10 + (x - 48)) digits) (λ so_far. digits_on most so_far (d ∷ [])))

-- the digits of a number up to the most are read as the number
pub digits_again : (most n : ℕ) → n ≤ most → n < 2 ^ 64 → digits_on most 0 (decimal n) ≡ Some n
digits_again most n few small = decimal_by_steps (λ m digits. m ≤ most → digits_on most 0 digits ≡ Some m) one more n small few where
  one : (m : ℕ) → m < 10 → m ≤ most → digits_on most 0 ((48 + m) ∷ []) ≡ Some m
  one m digit few = let nothing : 0 * 10 + m ≡ m = omega arith in one_digit most 0 m [] digit (omega (arith, few)) ∙ ap Some nothing

  more : (m : ℕ) (digits : Word) → 10 ≤ m → (m / 10 ≤ most → digits_on most 0 digits ≡ Some (m / 10)) → m ≤ most → digits_on most 0 (digits ++ (48 + m % 10) ∷ []) ≡ Some m
  more m digits long before few =
      let whole : m / 10 * 10 + m % 10 ≡ m = omega arith in
      digits_on-push most 0 digits (48 + m % 10) ∙ rw (before (omega arith)) (one_digit most (m / 10) (m % 10) [] (omega arith) (omega arith) ∙ ap Some whole)

tells_digits : IsDigitsTest (λ digits. list_all is_ascii_digit digits ≡ true)
tells_digits = search rules

own : IsNumeralModel (λ digits. list_all is_ascii_digit digits ≡ true) (digits_value 10)
own = numerals_by_value _ tells_digits

-- each byte of a decimal number is a digit
pub all_digits : (n : ℕ) → n < 2 ^ 64 → list_all is_ascii_digit (decimal n) ≡ true
all_digits n small = digits_decimal own n small

-- what a list begins with
pub record BeginsWithDigit (word : Word) : Type 0 where
  pub first : ℕ
  pub others : Word
  pub parts : word ≡ first ∷ others
  pub is_digit : is_ascii_digit first ≡ true

front_digit : (word : Word) → list_all is_ascii_digit word ≡ true → 0 < length word → BeginsWithDigit word
front_digit [] all some = absurd (omega arith)
front_digit (first ∷ others) all some = record { first = first; others = others; parts = refl; is_digit = (and_parts (is_ascii_digit first) (list_all is_ascii_digit others) all).0 }

-- a decimal number begins with a digit
pub decimal_begins : (n : ℕ) → n < 2 ^ 64 → BeginsWithDigit (decimal n)
decimal_begins n small = front_digit (decimal n) (all_digits n small) (decimal_nonempty n small)
