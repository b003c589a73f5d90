-- Where bytes begin with a whole frame, and where no whole frame is among them.
use Rattle.event_runner.proofs.Base.{◌≡◌, ℕ, ◌+◌, ◌*◌, ◌-◌, ◌<◌, ◌≤◌, ◌==◌, true, false, List, [], ◌∷◌, ◌++◌, length, get_or, take, drop, refl, sym, arith, ne_eqb, eq-eqb, length-append, length-take, subst, suc, take-append-drop, left_in, messages_in, head-messages_in, part-left_in, part-messages_in, EndsAt, IsUncut}

-- the bytes that complete a frame leave nothing, and what is behind them is cut anew
whole-left_in : (high low : ℕ) (come : List ℕ) (byte : ℕ) (bytes rest : List ℕ) → length come + length bytes + 1 ≡ 256 * high + low →
    left_in (high ∷ low ∷ come) (byte ∷ bytes ++ rest) ≡ left_in [] rest
whole-left_in high low come byte [] rest fits =
    let yes : (length (come ++ byte ∷ []) == 256 * high + low) ≡ true = eq-eqb _ _ (omega (arith, length-append come (byte ∷ []))) in
    rw (yes, left_in) refl
whole-left_in high low come byte (next ∷ bytes) rest fits =
    let more : length (come ++ byte ∷ []) + length bytes + 1 ≡ 256 * high + low = omega (arith, length-append come (byte ∷ [])) in
    let no : (length (come ++ byte ∷ []) == 256 * high + low) ≡ false = ne_eqb _ _ (omega arith) in
    rw (no, left_in) (whole-left_in high low (come ++ byte ∷ []) next bytes rest more)

head-left_in : (high low byte : ℕ) (bytes rest : List ℕ) → length bytes + 1 ≡ 256 * high + low →
    left_in [] (high ∷ low ∷ byte ∷ bytes ++ rest) ≡ left_in [] rest
head-left_in high low byte bytes rest fits =
    let no : (0 == 256 * high + low) ≡ false = ne_eqb _ _ (omega arith) in
    rw (no, left_in) (whole-left_in high low [] byte bytes rest (omega arith))

-- a frame without a byte
none-messages_in : (high low : ℕ) (rest : List ℕ) → 256 * high + low ≡ 0 → messages_in [] (high ∷ low ∷ rest) ≡ [] ∷ messages_in [] rest
none-messages_in high low rest none =
    let yes : (0 == 256 * high + low) ≡ true = eq-eqb _ _ (sym none) in rw (yes, messages_in) refl

none-left_in : (high low : ℕ) (rest : List ℕ) → 256 * high + low ≡ 0 → left_in [] (high ∷ low ∷ rest) ≡ left_in [] rest
none-left_in high low rest none =
    let yes : (0 == 256 * high + low) ≡ true = eq-eqb _ _ (sym none) in rw (yes, left_in) refl

-- a frame whose message stands apart from what is behind it
frame-messages_in : (high low : ℕ) (message rest : List ℕ) → length message ≡ 256 * high + low → messages_in [] (high ∷ low ∷ message ++ rest) ≡ message ∷ messages_in [] rest
frame-messages_in high low [] rest fits = none-messages_in high low rest (sym fits)
frame-messages_in high low (byte ∷ message) rest fits = head-messages_in high low byte message rest (omega arith)

frame-left_in : (high low : ℕ) (message rest : List ℕ) → length message ≡ 256 * high + low → left_in [] (high ∷ low ∷ message ++ rest) ≡ left_in [] rest
frame-left_in high low [] rest fits = none-left_in high low rest (sym fits)
frame-left_in high low (byte ∷ message) rest fits = head-left_in high low byte message rest (omega arith)

take_length : (n : ℕ) (bytes : List ℕ) → n ≤ length bytes → length (take n bytes) ≡ n
take_length n bytes fits = simp length-take (omega arith)

-- bytes with a whole frame
whole : (high low : ℕ) (rest : List ℕ) → 256 * high + low ≤ length rest → EndsAt (high ∷ low ∷ rest) (2 + 256 * high + low)
whole high low rest fits =
    let n : ℕ = 256 * high + low in
    let end : 2 + 256 * high + low ≡ suc (suc (256 * high + low)) = omega arith in
    let back : suc (suc (256 * high + low)) - 2 ≡ 256 * high + low = omega arith in
    let split : take (256 * high + low) rest ++ drop (256 * high + low) rest ≡ rest = take-append-drop (256 * high + low) rest in
    let size = take_length (256 * high + low) rest fits in
    subst (λ k. EndsAt (high ∷ low ∷ rest) k) (sym end) (record {
      some = omega arith;
      within = omega arith;
      message = rw back
          (subst (λ r. messages_in [] (high ∷ low ∷ r) ≡ take (256 * high + low) rest ∷ messages_in [] (drop (256 * high + low) rest)) split
          (frame-messages_in high low (take (256 * high + low) rest) (drop (256 * high + low) rest) size));
      left = subst (λ r. left_in [] (high ∷ low ∷ r) ≡ left_in [] (drop (256 * high + low) rest)) split
          (frame-left_in high low (take (256 * high + low) rest) (drop (256 * high + low) rest) size);
    })

-- bytes that are shorter than their frame
pub part : (bytes : List ℕ) → 2 ≤ length bytes → length bytes < 2 + 256 * get_or bytes 0 0 + get_or bytes 1 0 → IsUncut bytes
part [] some short = absurd (omega arith)
part (high ∷ []) some short = absurd (omega arith)
part (high ∷ low ∷ rest) some short =
    let no : (0 == 256 * high + low) ≡ false = ne_eqb _ _ (omega arith) in
    let below : 0 + length rest < 256 * high + low = omega arith in
    record {
      none = rw (no, messages_in) (part-messages_in high low [] rest below);
      all_left = rw (no, left_in) (part-left_in high low [] rest below);
    }

-- bytes that are too few for a length
pub few : (bytes : List ℕ) → length bytes < 2 → IsUncut bytes
few [] short = record { none = refl; all_left = refl }
few (high ∷ []) short = record { none = refl; all_left = refl }
few (high ∷ low ∷ rest) short = absurd (omega arith)

-- bytes that are as long as their frame, or longer
pub ends_at : (bytes : List ℕ) → 2 ≤ length bytes → 2 + 256 * get_or bytes 0 0 + get_or bytes 1 0 ≤ length bytes → EndsAt bytes (2 + 256 * get_or bytes 0 0 + get_or bytes 1 0)
ends_at [] some fits = absurd (omega arith)
ends_at (high ∷ []) some fits = absurd (omega arith)
ends_at (high ∷ low ∷ rest) some fits = whole high low rest (omega arith)
