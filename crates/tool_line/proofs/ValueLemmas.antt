-- Numbers are read as they are written, and lists of addresses one address after another.
use Rattle.std.proofs.Common.{◌≡◌, ℕ, ◌<◌, ◌≤◌, ◌^◌, zero, suc, Bool, true, false, cond, not, ◌&&◌, eqb, leb, [], ◌∷◌, length, get_or, Some, None, refl, sym, ap, arith, rules, Result, Err}
use Rattle.std.specs.Prelude.{IfSome, decimal}
use Rattle.std.specs.Char.{is_ascii_digit}
use Rattle.std.specs.List.{list_all}
use Rattle.std.specs.Str.Parse.{ParsesUnsigned, digits_value}
use Rattle.std.proofs.lemmas.Bool.{and_parts, and_from, and_right, eqb-true, eqb-false, leb-true, le-leb, not-true}
use Rattle.std.proofs.lemmas.Fmt.{decimal-digits_value, decimal_digit, decimal_nonempty, digits_decimal, digits_value-decimal, first_decimal}
use Rattle.std.proofs.lemmas.Str.Parse.{IsDigitsTest, IsNumeralModel, numerals_by_value, parse_digits}
use Rattle.tool_line.specs.Words.{Text}
use Rattle.tool_line.specs.Values.{is_plain_number, number_in, within}

-- ---- digits

tells_digits : IsDigitsTest (λ digits. list_all is_ascii_digit digits ≡ true)
tells_digits = search rules

own : IsNumeralModel (λ digits. list_all is_ascii_digit digits ≡ true) (digits_value 10)
own = numerals_by_value _ tells_digits

plain_digits : (word : Text) → is_plain_number word ≡ true → list_all is_ascii_digit word ≡ true
plain_digits [] plain = absurd cc
plain_digits (c ∷ []) plain = plain
plain_digits (c ∷ d ∷ cs) plain = (and_parts (not (eqb c 48)) (list_all is_ascii_digit (c ∷ d ∷ cs)) plain).1

plain_some : (word : Text) → is_plain_number word ≡ true → 0 < length word
plain_some [] plain = absurd cc
plain_some (c ∷ cs) plain = omega arith

plain_front : (word : Text) → is_plain_number word ≡ true → get_or word 0 0 ≡ 48 → length word ≡ 1
plain_front [] plain front = absurd cc
plain_front (c ∷ []) plain front = refl
plain_front (c ∷ d ∷ cs) plain front = absurd (eqb-false c 48 (not-true (eqb c 48) (and_parts (not (eqb c 48)) (list_all is_ascii_digit (c ∷ d ∷ cs)) plain).0) front)

plain_from : (word : Text) → list_all is_ascii_digit word ≡ true → 0 < length word → (get_or word 0 0 ≡ 48 → length word ≡ 1) → is_plain_number word ≡ true
plain_from [] digits some front = absurd (omega arith)
plain_from (c ∷ []) digits some front = digits
plain_from (c ∷ d ∷ cs) digits some front = tested (eqb c 48) refl where
  tested : (test : Bool) → eqb c 48 ≡ test → (not test && list_all is_ascii_digit (c ∷ d ∷ cs)) ≡ true
  tested true is = let zero_front : c ≡ 48 = eqb-true c 48 is in absurd (omega (arith, front zero_front))
  tested false is = digits

decimal_front : (n : ℕ) → n < 2 ^ 64 → get_or (decimal n) 0 0 ≡ 48 → length (decimal n) ≡ 1
decimal_front zero few front = ap length (decimal_digit 0 (omega arith))
decimal_front (suc n) few front = absurd (omega (arith, first_decimal (suc n) (omega arith) few))

decimal_plain : (n : ℕ) → n < 2 ^ 64 → is_plain_number (decimal n) ≡ true
decimal_plain n few = plain_from (decimal n) (digits_decimal own n few) (decimal_nonempty n few) (decimal_front n few)

-- ---- numbers between two

pub within_is : (least most n : ℕ) → least ≤ n → n ≤ most → within least most n ≡ Some n
within_is least most n low high = rw (and_from (leb least n) (leb n most) (le-leb least n low) (le-leb n most high)) refl

-- what is read is spelled so
pub number_spelled : (least most : ℕ) (word : Text) → most < 2 ^ 64 → IfSome (number_in least most word) (λ n. (word ≡ decimal n) × (least ≤ n) × (n ≤ most))
number_spelled least most word few = tested (is_plain_number word) refl where
  lies : is_plain_number word ≡ true → (test : Bool) → (leb least (digits_value 10 word) && leb (digits_value 10 word) most) ≡ test
      → IfSome (cond test (Some (digits_value 10 word)) None) (λ n. (word ≡ decimal n) × (least ≤ n) × (n ≤ most))
  lies plain true is =
      let both = and_parts (leb least (digits_value 10 word)) (leb (digits_value 10 word) most) is in
      let low : least ≤ digits_value 10 word = leb-true _ _ both.0 in
      let high : digits_value 10 word ≤ most = leb-true _ _ both.1 in
      (sym (decimal-digits_value own word (plain_digits word plain) (plain_some word plain) (plain_front word plain) (omega arith)), low, high)
  lies plain false is = tt

  tested : (test : Bool) → is_plain_number word ≡ test
      → IfSome (cond test (within least most (digits_value 10 word)) None) (λ n. (word ≡ decimal n) × (least ≤ n) × (n ≤ most))
  tested true plain = lies plain (leb least (digits_value 10 word) && leb (digits_value 10 word) most) refl
  tested false plain = tt

-- what is spelled so is read
pub spelled_number : (least most n : ℕ) (word : Text) → most < 2 ^ 64 → word ≡ decimal n → least ≤ n → n ≤ most → number_in least most word ≡ Some n
spelled_number least most n word few spelled low high =
    let small : n < 2 ^ 64 = omega arith in
    rw (spelled, decimal_plain n small, digits_value-decimal own n small) (within_is least most n low high)

-- a number that is too large for the parser is too large
pub too_large : {E : Type 0} (least most : ℕ) (word : Text) (r : Result ℕ E) (e : E) → most < 2 ^ 32 → is_plain_number word ≡ true → ParsesUnsigned 32 10 word r → r ≡ Err e → number_in least most word ≡ None
too_large least most word r e few plain parsed is =
    let ok = parse_digits own 32 word r parsed (plain_digits word plain) in
    let large = rw is at ok in
    tested plain large (leb (digits_value 10 word) most) refl
  where
    tested : is_plain_number word ≡ true → ¬ ((0 < length word) × (digits_value 10 word < 2 ^ 32)) → (high : Bool) → leb (digits_value 10 word) most ≡ high → number_in least most word ≡ None
    tested plain large true is = absurd (large (plain_some word plain, omega (arith, leb-true _ _ is)))
    tested plain large false is = rw (plain, and_right (leb least (digits_value 10 word)) (leb (digits_value 10 word) most) is) refl
