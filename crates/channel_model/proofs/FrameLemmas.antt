-- Cutting frames: it goes on, bytes short of a frame are left, a whole frame brings its message, and what was framed comes back.
use Rattle.std.proofs.Common.{◌≡◌, ℕ, ◌+◌, ◌*◌, ◌<◌, ◌/◌, ◌%◌, ◌==◌, List, [], ◌∷◌, ◌++◌, length, true, false, refl, sym, ap, ◌∙◌, arith, ne_eqb, eq-eqb}
use Rattle.std.specs.List.{flat_map}
use Rattle.std.proofs.lemmas.List.{append-nil, append_assoc, length-append}
use Rattle.channel_model.specs.Frames.{framed, is_frame, message_if, unless_frame, messages_in, left_in}

-- what two stretches of bytes bring is what the first brings, and then the second behind what that left
pub messages_in-append : (unread xs ys : List ℕ) → messages_in unread (xs ++ ys) ≡ messages_in unread xs ++ messages_in (left_in unread xs) ys
messages_in-append unread [] ys = refl
messages_in-append unread (x ∷ xs) ys =
    let come = unread ++ x ∷ [] in
    let rest = unless_frame (is_frame come) come in
    ap (λ l. message_if (is_frame come) come ++ l) (messages_in-append rest xs ys) ∙ sym (append_assoc (message_if (is_frame come) come) (messages_in rest xs) (messages_in (left_in rest xs) ys))

-- what two stretches of bytes leave is what the second leaves behind the first
pub left_in-append : (unread xs ys : List ℕ) → left_in unread (xs ++ ys) ≡ left_in (left_in unread xs) ys
left_in-append unread [] ys = refl
left_in-append unread (x ∷ xs) ys = let come = unread ++ x ∷ [] in left_in-append (unless_frame (is_frame come) come) xs ys

-- bytes that don't complete a frame bring no message
pub part-messages_in : (high low : ℕ) (come bytes : List ℕ) → length come + length bytes < 256 * high + low → messages_in (high ∷ low ∷ come) bytes ≡ []
part-messages_in high low come [] short = refl
part-messages_in high low come (byte ∷ bytes) short =
    let more : length (come ++ byte ∷ []) + length bytes < 256 * high + low = omega (arith, length-append come (byte ∷ [])) in
    let no : (length (come ++ byte ∷ []) == 256 * high + low) ≡ false = ne_eqb _ _ (omega arith) in
    rw (no, messages_in) (part-messages_in high low (come ++ byte ∷ []) bytes more)

-- they are all left
pub part-left_in : (high low : ℕ) (come bytes : List ℕ) → length come + length bytes < 256 * high + low → left_in (high ∷ low ∷ come) bytes ≡ high ∷ low ∷ come ++ bytes
part-left_in high low come [] short = ap (λ l. high ∷ low ∷ l) (sym (append-nil come))
part-left_in high low come (byte ∷ bytes) short =
    let more : length (come ++ byte ∷ []) + length bytes < 256 * high + low = omega (arith, length-append come (byte ∷ [])) in
    let no : (length (come ++ byte ∷ []) == 256 * high + low) ≡ false = ne_eqb _ _ (omega arith) in
    rw (no, left_in) (part-left_in high low (come ++ byte ∷ []) bytes more ∙ ap (λ l. high ∷ low ∷ l) (append_assoc come (byte ∷ []) bytes))

-- bytes that complete a frame bring its message, and what is behind them is cut anew
pub whole-messages_in : (high low : ℕ) (come : List ℕ) (byte : ℕ) (bytes rest : List ℕ) → length come + length bytes + 1 ≡ 256 * high + low →
    messages_in (high ∷ low ∷ come) (byte ∷ bytes ++ rest) ≡ (come ++ byte ∷ bytes) ∷ messages_in [] rest
whole-messages_in high low come byte [] rest fits =
    let yes : (length (come ++ byte ∷ []) == 256 * high + low) ≡ true = eq-eqb _ _ (omega (arith, length-append come (byte ∷ []))) in
    rw (yes, messages_in) refl
whole-messages_in high low come byte (next ∷ bytes) rest fits =
    let more : length (come ++ byte ∷ []) + length bytes + 1 ≡ 256 * high + low = omega (arith, length-append come (byte ∷ [])) in
    let no : (length (come ++ byte ∷ []) == 256 * high + low) ≡ false = ne_eqb _ _ (omega arith) in
    rw (no, messages_in) (whole-messages_in high low (come ++ byte ∷ []) next bytes rest more ∙ ap (λ l. l ∷ messages_in [] rest) (append_assoc come (byte ∷ []) (next ∷ bytes)))

-- a whole frame with a message of a byte or more
pub head-messages_in : (high low byte : ℕ) (bytes rest : List ℕ) → length bytes + 1 ≡ 256 * high + low →
    messages_in [] (high ∷ low ∷ byte ∷ bytes ++ rest) ≡ (byte ∷ bytes) ∷ messages_in [] rest
head-messages_in high low byte bytes rest fits =
    let no : (0 == 256 * high + low) ≡ false = ne_eqb _ _ (omega arith) in
    rw (no, messages_in) (whole-messages_in high low [] byte bytes rest (omega arith))

-- what was framed comes back, whatever stands behind it
pub messages_in-framed : (message rest : List ℕ) → messages_in [] (framed message ++ rest) ≡ message ∷ messages_in [] rest
messages_in-framed [] rest = refl
messages_in-framed (byte ∷ message) rest = head-messages_in (length (byte ∷ message) / 256) (length (byte ∷ message) % 256) byte message rest (omega arith)

-- so do several messages
pub messages_in-all : (messages : List (List ℕ)) (rest : List ℕ) → messages_in [] (flat_map framed messages ++ rest) ≡ messages ++ messages_in [] rest
messages_in-all [] rest = refl
messages_in-all (message ∷ messages) rest =
    ap (λ l. messages_in [] l) (append_assoc (framed message) (flat_map framed messages) rest)
    ∙ messages_in-framed message (flat_map framed messages ++ rest)
    ∙ ap (λ l. message ∷ l) (messages_in-all messages rest)

-- and where nothing stands behind them, they are all
pub messages_back : (messages : List (List ℕ)) → messages_in [] (flat_map framed messages) ≡ messages
messages_back messages =
    ap (λ l. messages_in [] l) (sym (append-nil (flat_map framed messages)))
    ∙ messages_in-all messages [] ∙ append-nil messages
