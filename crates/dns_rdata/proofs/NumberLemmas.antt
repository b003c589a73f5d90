-- Bytes are those of the number that is read from them.
use Rattle.std.proofs.Common.{◌≡◌, ℕ, zero, suc, ◌+◌, ◌*◌, ◌/◌, ◌^◌, ◌<◌, ◌≤◌, List, [], ◌∷◌, ◌++◌, length, take, drop, append-nil, refl, sym, ap, ◌∙◌, arith}
use Rattle.std.specs.Prelude.{slice_index}
use Rattle.std.proofs.lemmas.Nat.{div-mul-add}
use Rattle.std.proofs.lemmas.List.{length-drop, length-take-le, drop-drop, take-append-drop}
use Rattle.byteorder.specs.Endian.{big_from, big_bytes}
use Rattle.byteorder.specs.Numbers.{big_from-cons, big_from-take, big_from-lt, big_number-reads_back, length-bytes_high_first}

-- each item is a byte
abbrev pub AreBytes : List ℕ → Type 0
AreBytes bytes = (i : ℕ) → slice_index bytes i < 256

-- ---- parts of bytes are bytes

-- behind a byte
rest_bytes : (b : ℕ) (bytes : List ℕ) → AreBytes (b ∷ bytes) → AreBytes bytes
rest_bytes b bytes are i = are (suc i)

-- behind so many bytes
drop_bytes : (n : ℕ) (bytes : List ℕ) → AreBytes bytes → AreBytes (drop n bytes)
drop_bytes zero bytes are i = are i
drop_bytes (suc n) [] are i = omega arith
drop_bytes (suc n) (b ∷ bytes) are i = drop_bytes n bytes (rest_bytes b bytes are) i

-- so many bytes in front
take_bytes : (n : ℕ) (bytes : List ℕ) → AreBytes bytes → AreBytes (take n bytes)
take_bytes zero bytes are i = omega arith
take_bytes (suc n) [] are i = omega arith
take_bytes (suc n) (b ∷ bytes) are zero = are 0
take_bytes (suc n) (b ∷ bytes) are (suc i) = take_bytes n bytes (rest_bytes b bytes are) i

-- behind others
pub behind_bytes : (front bytes : List ℕ) → AreBytes (front ++ bytes) → AreBytes bytes
behind_bytes [] bytes are = are
behind_bytes (b ∷ front) bytes are = behind_bytes front bytes (rest_bytes b (front ++ bytes) are)

-- and so are the bytes of a number
number_bytes : (n x : ℕ) → AreBytes (big_bytes n x)
number_bytes zero x i = omega arith
number_bytes (suc zero) x zero = omega arith
number_bytes (suc (suc n)) x zero = omega arith
number_bytes (suc n) x (suc i) = number_bytes n x i

-- ---- bytes of one number are the same

-- digits to a base, of which there are two, are the same where the numbers are
same_parts : (p a b r s : ℕ) → r < p → s < p → a * p + r ≡ b * p + s → (a ≡ b) × (r ≡ s)
same_parts p a b r s few less same =
    let high : a ≡ b = sym (div-mul-add a p r few) ∙ ap (λ n. n / p) same ∙ div-mul-add b p s less in
    (high, omega (arith, same, ap (λ n. n * p) high))

-- so many bytes are the same where their numbers are
same_bytes : (n : ℕ) (xs ys : List ℕ) → length xs ≡ n → length ys ≡ n → AreBytes xs → AreBytes ys → big_from 0 n xs ≡ big_from 0 n ys → xs ≡ ys
same_bytes zero [] [] long many are others same = refl
same_bytes zero (x ∷ xs) ys long many are others same = absurd (omega arith)
same_bytes zero [] (y ∷ ys) long many are others same = absurd (omega arith)
same_bytes (suc n) [] ys long many are others same = absurd (omega arith)
same_bytes (suc n) (x ∷ xs) [] long many are others same = absurd (omega arith)
same_bytes (suc n) (x ∷ xs) (y ∷ ys) long many are others same =
    let first : big_from 0 (suc n) (x ∷ xs) ≡ x * 256 ^ n + big_from 0 n xs = ap (λ r. x * 256 ^ n + r) (big_from-cons 0 n x xs) in
    let second : big_from 0 (suc n) (y ∷ ys) ≡ y * 256 ^ n + big_from 0 n ys = ap (λ r. y * 256 ^ n + r) (big_from-cons 0 n y ys) in
    let parts = same_parts (256 ^ n) x y (big_from 0 n xs) (big_from 0 n ys)
    (big_from-lt 0 n xs (rest_bytes x xs are)) (big_from-lt 0 n ys (rest_bytes y ys others)) (sym first ∙ same ∙ second) in
    let more : xs ≡ ys = same_bytes n xs ys (omega arith) (omega arith) (rest_bytes x xs are) (rest_bytes y ys others) parts.1 in
    ap (λ b. b ∷ xs) parts.0 ∙ ap (λ bytes. y ∷ bytes) more

-- so many bytes are those of their number
pub number_spelled : (n : ℕ) (bytes : List ℕ) → length bytes ≡ n → AreBytes bytes → bytes ≡ big_bytes n (big_from 0 n bytes)
number_spelled n bytes long are =
    let number = big_from 0 n bytes in
    let again : big_from 0 n (big_bytes n number ++ []) ≡ number = big_number-reads_back n number [] (big_from-lt 0 n bytes are) in
    same_bytes n bytes (big_bytes n number) long (length-bytes_high_first n number) are (number_bytes n number) (sym again ∙ ap (big_from 0 n) (append-nil (big_bytes n number)))

-- a number in the bytes from an offset on is one in all of them
number_at : (n i : ℕ) (bytes : List ℕ) → i ≤ length bytes → big_from 0 n (drop i bytes) ≡ big_from i n bytes
number_at n zero bytes within = refl
number_at n (suc i) [] within = absurd (omega arith)
number_at n (suc i) (b ∷ bytes) within = number_at n i bytes (omega arith) ∙ sym (big_from-cons i n b bytes)

-- bytes from an offset on are those of the number there, and the rest
pub number_front : (n i j : ℕ) (bytes : List ℕ) → j ≡ i + n → j ≤ length bytes → AreBytes bytes → drop i bytes ≡ big_bytes n (big_from i n bytes) ++ drop j bytes
number_front n i j bytes is fits are =
    let behind = drop i bytes in
    let long : length (take n behind) ≡ n = length-take-le n behind (omega (arith, length-drop i bytes)) in
    let number : big_from 0 n (take n behind) ≡ big_from i n bytes = big_from-take 0 n n behind (omega arith) ∙ number_at n i bytes (omega arith) in
    let front : take n behind ≡ big_bytes n (big_from i n bytes) = number_spelled n (take n behind) long (take_bytes n behind (drop_bytes i bytes are)) ∙ ap (big_bytes n) number in
    let rest : drop n behind ≡ drop j bytes = drop-drop n i bytes ∙ ap (λ k. drop k bytes) (omega arith) in
    sym (take-append-drop n behind) ∙ ap (λ part. part ++ drop n behind) front ∙ ap (λ part. big_bytes n (big_from i n bytes) ++ part) rest
