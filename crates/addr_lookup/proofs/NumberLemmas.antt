-- The number of bytes, the highest first: read byte by byte, or by place.
use Rattle.std.proofs.Common.{◌≡◌, ℕ, suc, zero, ◌+◌, ◌*◌, List, [], ◌∷◌, length, refl, ap, arith}
use Rattle.std.specs.Prelude.{◌^◌, fold, slice_index}
use Rattle.std.proofs.Math.Nat.{pow-succ', add-mul, mul_assoc}
use Rattle.byteorder.specs.Endian.{big_from}
use Rattle.net_addr.specs.Reading.{number_of}

-- behind a byte more each place is one further
big_behind : (x : ℕ) (xs : List ℕ) (i n : ℕ) → big_from (suc i) n (x ∷ xs) ≡ big_from i n xs
big_behind x xs i zero = refl
big_behind x xs i (suc n) = ap (λ r. slice_index xs i * 256 ^ n + r) (big_behind x xs (suc i) n)

-- reading goes on with a number
reads_on : (number : ℕ) (xs : List ℕ) → fold (λ n digit. n * 256 + digit) number xs ≡ number * 256 ^ length xs + big_from 0 (length xs) xs
reads_on number [] = omega arith
reads_on number (x ∷ xs) =
    let more = reads_on (number * 256 + x) xs in
    let behind = big_behind x xs 0 (length xs) in
    let parts = add-mul (number * 256) x (256 ^ length xs) in
    let shifted = mul_assoc number 256 (256 ^ length xs) in
    let power = ap (λ p. number * p) (pow-succ' 256 (length xs)) in
    omega (arith, more, behind, parts, shifted, power)

-- so many bytes are this number
pub number_is : (xs : List ℕ) (n : ℕ) → length xs ≡ n → number_of (2 ^ 8) xs ≡ big_from 0 n xs
number_is xs n e =
    let read = reads_on 0 xs in
    let places = ap (λ k. big_from 0 k xs) e in
    omega (arith, read, places)
