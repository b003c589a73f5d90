-- The parts of an address as std's bytes of a number, and back.
use Rattle.std.proofs.Common.{◌≡◌, ℕ, zero, suc, ◌+◌, ◌*◌, ◌/◌, ◌%◌, ◌^◌, ◌<◌, List, [], ◌∷◌, length, get_or, sym, ap, ◌∙◌, arith}
use Rattle.std.proofs.lemmas.Nat.{shr-shr}
use Rattle.std.specs.Int.{w32, w128, to_be_bytes, from_be_bytes}
use Rattle.std.specs.Net.Addr.{segments_of, octets_of}
use Rattle.std.proofs.NetLemmas.Arrays.{four_items, eight_items}
use Rattle.net_addr.specs.Addr.{octets, groups}

-- lists of four and of eight numbers are equal where the numbers are
pub same_four : {a b c d p q r s : ℕ} → (a ≡ p) × (b ≡ q) × (c ≡ r) × (d ≡ s) → a ∷ b ∷ c ∷ d ∷ [] ≡ p ∷ q ∷ r ∷ s ∷ []
same_four e = cc

pub same_eight : {a b c d e f g h p q r s t u v w : ℕ}
    → (a ≡ p) × (b ≡ q) × (c ≡ r) × (d ≡ s) × (e ≡ t) × (f ≡ u) × (g ≡ v) × (h ≡ w)
    → a ∷ b ∷ c ∷ d ∷ e ∷ f ∷ g ∷ h ∷ [] ≡ p ∷ q ∷ r ∷ s ∷ t ∷ u ∷ v ∷ w ∷ []
same_eight e = cc

-- what holds of eight numbers holds at each index
eight_below : {a b c d e f g h n : ℕ}
    → (0 < n) × (a < n) × (b < n) × (c < n) × (d < n) × (e < n) × (f < n) × (g < n) × (h < n)
    → (k : ℕ) → get_or (a ∷ b ∷ c ∷ d ∷ e ∷ f ∷ g ∷ h ∷ []) k 0 < n
eight_below l zero = l.1
eight_below l (suc zero) = l.2
eight_below l (suc (suc zero)) = l.3
eight_below l (suc (suc (suc zero))) = l.4
eight_below l (suc (suc (suc (suc zero)))) = l.5
eight_below l (suc (suc (suc (suc (suc zero))))) = l.6
eight_below l (suc (suc (suc (suc (suc (suc zero)))))) = l.7
eight_below l (suc (suc (suc (suc (suc (suc (suc zero))))))) = l.8
eight_below l (suc (suc (suc (suc (suc (suc (suc (suc k)))))))) = l.0

-- the first of four bytes needs no remainder
pub octets-bytes : (n : ℕ) → n < 2 ^ 32 → to_be_bytes w32 n ≡ octets n
octets-bytes n small = same_four (omega arith)

-- two bytes are one group
pair : (n k : ℕ) → n / 2 ^ (k + 8) % 256 * 256 + n / 2 ^ k % 256 ≡ n / 2 ^ k % 2 ^ 16
pair n k = let e = shr-shr n k 8 in omega arith

pub groups-bytes : (n : ℕ) → n < 2 ^ 128 → segments_of (to_be_bytes w128 n) ≡ groups n
groups-bytes n small =
    let first : n / 2 ^ 112 % 2 ^ 16 ≡ n / 2 ^ 112 = omega arith in
    same_eight (pair n 112 ∙ first, pair n 96, pair n 80, pair n 64, pair n 48, pair n 32, pair n 16, omega arith)

-- the number of four bytes has these bytes
pub octets-number : (a b c d : ℕ) → a < 256 → b < 256 → c < 256 → d < 256
    → octets (from_be_bytes w32 (a ∷ b ∷ c ∷ d ∷ [])) ≡ a ∷ b ∷ c ∷ d ∷ []
octets-number a b c d fa fb fc fd = same_four (omega arith)

-- the number of eight groups
abbrev number : (a b c d e f g h : ℕ) → ℕ
number a b c d e f g h =
    a * 2 ^ 112 + b * 2 ^ 96 + c * 2 ^ 80 + d * 2 ^ 64 + e * 2 ^ 48 + f * 2 ^ 32 + g * 2 ^ 16 + h

groups-of_number : (a b c d e f g h : ℕ) → a < 2 ^ 16 → b < 2 ^ 16 → c < 2 ^ 16 → d < 2 ^ 16
    → e < 2 ^ 16 → f < 2 ^ 16 → g < 2 ^ 16 → h < 2 ^ 16
    → groups (number a b c d e f g h) ≡ a ∷ b ∷ c ∷ d ∷ e ∷ f ∷ g ∷ h ∷ []
groups-of_number a b c d e f g h fa fb fc fd fe ff fg fh = same_eight (omega arith)

bytes-number : (a b c d e f g h : ℕ)
    → from_be_bytes w128 (octets_of (a ∷ b ∷ c ∷ d ∷ e ∷ f ∷ g ∷ h ∷ [])) ≡ number a b c d e f g h
bytes-number a b c d e f g h = omega arith

pub octets-of_bytes : (o : List ℕ) → length o ≡ 4 → ((k : ℕ) → get_or o k 0 < 2 ^ 8) → octets (from_be_bytes w32 o) ≡ o
octets-of_bytes o four fits =
    octets-number (get_or o 0 0) (get_or o 1 0) (get_or o 2 0) (get_or o 3 0) (fits 0) (fits 1) (fits 2) (fits 3)
    ∙ sym (four_items o four)

pub groups-of_bytes : (s : List ℕ) → length s ≡ 8 → ((k : ℕ) → get_or s k 0 < 2 ^ 16) → groups (from_be_bytes w128 (octets_of s)) ≡ s
groups-of_bytes s eight fits =
    let all = eight_items s eight in
    let a = get_or s 0 0 in
    let b = get_or s 1 0 in
    let c = get_or s 2 0 in
    let d = get_or s 3 0 in
    let e = get_or s 4 0 in
    let f = get_or s 5 0 in
    let g = get_or s 6 0 in
    let h = get_or s 7 0 in
    ap (λ x. groups (from_be_bytes w128 (octets_of x))) all
    ∙ ap groups (bytes-number a b c d e f g h)
    ∙ groups-of_number a b c d e f g h (fits 0) (fits 1) (fits 2) (fits 3) (fits 4) (fits 5) (fits 6) (fits 7)
    ∙ sym all

-- numbers with the same parts are equal
pub octets_injective : (a b : ℕ) → octets a ≡ octets b → a ≡ b
octets_injective a b e =
    let first : a / 2 ^ 24 ≡ b / 2 ^ 24 = cc in
    let second : a / 2 ^ 16 % 2 ^ 8 ≡ b / 2 ^ 16 % 2 ^ 8 = cc in
    let third : a / 2 ^ 8 % 2 ^ 8 ≡ b / 2 ^ 8 % 2 ^ 8 = cc in
    let fourth : a % 2 ^ 8 ≡ b % 2 ^ 8 = cc in
    omega arith

pub groups_injective : (a b : ℕ) → groups a ≡ groups b → a ≡ b
groups_injective a b e =
    let g0 : a / 2 ^ 112 ≡ b / 2 ^ 112 = cc in
    let g1 : a / 2 ^ 96 % 2 ^ 16 ≡ b / 2 ^ 96 % 2 ^ 16 = cc in
    let g2 : a / 2 ^ 80 % 2 ^ 16 ≡ b / 2 ^ 80 % 2 ^ 16 = cc in
    let g3 : a / 2 ^ 64 % 2 ^ 16 ≡ b / 2 ^ 64 % 2 ^ 16 = cc in
    let g4 : a / 2 ^ 48 % 2 ^ 16 ≡ b / 2 ^ 48 % 2 ^ 16 = cc in
    let g5 : a / 2 ^ 32 % 2 ^ 16 ≡ b / 2 ^ 32 % 2 ^ 16 = cc in
    let g6 : a / 2 ^ 16 % 2 ^ 16 ≡ b / 2 ^ 16 % 2 ^ 16 = cc in
    let g7 : a % 2 ^ 16 ≡ b % 2 ^ 16 = cc in
    omega arith

-- each group has 16 bits
pub groups_fit : (a : ℕ) → a < 2 ^ 128 → (k : ℕ) → get_or (groups a) k 0 < 2 ^ 16
groups_fit a fits k = eight_below (omega arith) k
