-- Parts that stand in a message's bytes, and the numbers in them.
use Rattle.std.proofs.Common.{◌≡◌, ℕ, zero, suc, ◌+◌, ◌-◌, ◌*◌, ◌^◌, ◌<◌, ◌≤◌, List, ◌∷◌, ◌++◌, length, take, drop, get_or, refl, sym, ap, ◌∙◌, append_assoc, arith}
use Rattle.std.specs.Prelude.{slice_range}
use Rattle.std.proofs.lemmas.List.{length-take, length-drop, take_at, drop_at, drop-drop, take-append-drop, get_or-drop}
use Rattle.byteorder.specs.Endian.{big_from, big_bytes}
use Rattle.byteorder.specs.Numbers.{big_from-take, big_number-reads_back}
use Rattle.dns_message.specs.Grammar.{StandsAt}

-- the bytes from p on are the part and others
pub stands_parts : (bytes : List ℕ) (p : ℕ) (part : List ℕ) → StandsAt bytes p part → drop p bytes ≡ part ++ drop (length part) (drop p bytes)
stands_parts bytes p part here = sym (take-append-drop (length part) (drop p bytes)) ∙ ap (λ (front : List ℕ). front ++ drop (length part) (drop p bytes)) here

-- where the bytes from p on begin with the part, it stands there
pub stands_from : (bytes : List ℕ) (p : ℕ) (part rest : List ℕ) → drop p bytes ≡ part ++ rest → StandsAt bytes p part
stands_from bytes p part rest e = ap (take (length part)) e ∙ take_at part rest (length part) refl

-- a part has no more bytes than there are
pub stands_fits : (bytes : List ℕ) (p : ℕ) (part : List ℕ) → StandsAt bytes p part → length part ≤ length bytes - p
stands_fits bytes p part here = omega (arith, ap length here, length-take (length part) (drop p bytes), length-drop p bytes)

-- a part in two stands as two parts
pub stands_first : (bytes : List ℕ) (p : ℕ) (first second : List ℕ) → StandsAt bytes p (first ++ second) → StandsAt bytes p first
stands_first bytes p first second here =
    let rest = drop (length (first ++ second)) (drop p bytes) in
    stands_from bytes p first (second ++ rest) (stands_parts bytes p (first ++ second) here ∙ append_assoc first second rest)

pub stands_second : (bytes : List ℕ) (p : ℕ) (first second : List ℕ) (q : ℕ) → q ≡ p + length first → StandsAt bytes p (first ++ second) → StandsAt bytes q second
stands_second bytes p first second q e here =
    let rest = drop (length (first ++ second)) (drop p bytes) in
    let parts : drop p bytes ≡ first ++ (second ++ rest) = stands_parts bytes p (first ++ second) here ∙ append_assoc first second rest in
    stands_from bytes q second rest (ap (λ (k : ℕ). drop k bytes) e ∙ sym (drop-drop (length first) p bytes) ∙ ap (drop (length first)) parts ∙ drop_at first (second ++ rest) (length first) refl)

-- the byte of a part
pub stands_byte : (bytes : List ℕ) (p b : ℕ) (rest : List ℕ) → drop p bytes ≡ b ∷ rest → get_or bytes p 0 ≡ b
stands_byte bytes p b rest e =
    let here : p ≡ p + 0 = omega arith in
    ap (λ (k : ℕ). get_or bytes k 0) here ∙ sym (get_or-drop p bytes 0 0) ∙ ap (λ (l : List ℕ). get_or l 0 0) e

-- what follows a byte
pub behind_byte : (bytes : List ℕ) (p b : ℕ) (rest : List ℕ) → drop p bytes ≡ b ∷ rest → drop (p + 1) bytes ≡ rest
behind_byte bytes p b rest e = sym (drop-drop 1 p bytes) ∙ ap (drop 1) e

-- ---- numbers

-- a number in the bytes from p on is one in all of them
pub number_behind : (n i p q : ℕ) (bytes : List ℕ) → q ≡ p + i → big_from i n (drop p bytes) ≡ big_from q n bytes
number_behind zero i p q bytes e = refl
number_behind (suc n) i p q bytes e =
    let first : get_or (drop p bytes) i 0 ≡ get_or bytes q 0 = get_or-drop p bytes i 0 ∙ ap (λ (k : ℕ). get_or bytes k 0) (sym e) in
    let others : big_from (suc i) n (drop p bytes) ≡ big_from (suc q) n bytes = number_behind n (suc i) p (suc q) bytes (omega arith) in
    ap (λ (b : ℕ). b * 256 ^ n + big_from (suc i) n (drop p bytes)) first ∙ ap (λ (b : ℕ). get_or bytes q 0 * 256 ^ n + b) others

-- a number in a part is one in all of the bytes
pub number_in : (i n p len q : ℕ) (bytes : List ℕ) → i + n ≤ len → q ≡ p + i → big_from i n (slice_range bytes p (p + len)) ≡ big_from q n bytes
number_in i n p len q bytes fits e = big_from-take i n (p + len - p) (drop p bytes) (omega arith) ∙ number_behind n i p q bytes e

-- a number's bytes are read as the number
pub number_back : (n x p : ℕ) (bytes : List ℕ) → x < 256 ^ n → StandsAt bytes p (big_bytes n x) → big_from p n bytes ≡ x
number_back n x p bytes lt here =
    sym (number_behind n 0 p p bytes (omega arith)) ∙ ap (big_from 0 n) (stands_parts bytes p (big_bytes n x) here) ∙ big_number-reads_back n x (drop (length (big_bytes n x)) (drop p bytes)) lt
