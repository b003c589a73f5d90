-- Messages on a link: each stands behind two bytes with its length, the higher one first (RFC 1035, section 4.2.2).
use Rattle.std.specs.Prelude.{Bool, List, [], drop, false, length, true, ℕ, ◌%◌, ◌*◌, ◌++◌, ◌+◌, ◌/◌, ◌==◌, ◌∷◌}

-- a message as it is written to a link
abbrev pub framed : List ℕ → List ℕ
framed message = length message / 256 ∷ length message % 256 ∷ message

-- the bytes are one whole frame
abbrev pub is_frame : List ℕ → Bool
is_frame [] = false
is_frame (high ∷ []) = false
is_frame (high ∷ low ∷ message) = length message == 256 * high + low

-- the message of the bytes, where they are a frame
abbrev pub message_if : Bool → List ℕ → List (List ℕ)
message_if true bytes = drop 2 bytes ∷ []
message_if false bytes = []

-- what is left of the bytes: nothing, where they are a frame
abbrev pub unless_frame : Bool → List ℕ → List ℕ
unless_frame true bytes = []
unless_frame false bytes = bytes

-- the messages that become whole with these bytes, where others that are no whole frame came before
abbrev pub messages_in : List ℕ → List ℕ → List (List ℕ)
messages_in unread [] = []
messages_in unread (byte ∷ bytes) =
    let come = unread ++ byte ∷ [] in
    message_if (is_frame come) come ++ messages_in (unless_frame (is_frame come) come) bytes

-- the bytes that are then left, which are no whole frame
abbrev pub left_in : List ℕ → List ℕ → List ℕ
left_in unread [] = unread
left_in unread (byte ∷ bytes) = let come = unread ++ byte ∷ [] in left_in (unless_frame (is_frame come) come) bytes
