-- What the inbox keeps where a link is closed, and how many bytes its items have.
use Rattle.std.proofs.Common.{◌≡◌, ℕ, ◌+◌, ◌-◌, ◌≤◌, List, [], ◌∷◌, ◌++◌, Bool, not, Option, Some, None, refl, filter, All, length, take, arith}
use Rattle.std.proofs.lemmas.Grind.{common_steps}
use Rattle.std.proofs.lemmas.List.{length-take}
use Rattle.std.proofs.lemmas.List.Elements.{filter-append, All-filter}
use Rattle.net_world.specs.declared.answers.Got.{Got}
use Rattle.net_world.specs.World.{is_of_link}
use Rattle.sock_engine.specs.declared.inbox.Held.{Held}
use Rattle.sock_engine.specs.declared.inbox.Held.TheVariants.{HeldDatagram, HeldPiece}
use Rattle.sock_engine.specs.Inbox.{held_items, IsHeld, IsTaken, held_other_than, held_bytes, byte_count, size_of}

-- what the buffer holds is dropped where it is of the link
filter_held : (link : ℕ) (buffer : List ℕ) (held : Option Held) → filter (λ got. not (is_of_link link got)) (held_items buffer held) ≡ held_items buffer (held_other_than link held)
filter_held link buffer None = refl
filter_held link buffer (Some (HeldDatagram server count)) = refl
filter_held link buffer (Some (HeldPiece other count)) = grind (arith, common_steps)

-- the items without those of a link, and behind them what the buffer holds of others
pub others_left : (link : ℕ) (buffer : List ℕ) (held : Option Held) (items : List Got) → filter (λ got. not (is_of_link link got)) (items ++ held_items buffer held) ≡ filter (λ got. not (is_of_link link got)) items ++ held_items buffer (held_other_than link held)
others_left link buffer held items = rw (filter-append (λ got. not (is_of_link link got)) items (held_items buffer held), filter_held link buffer held) refl

-- the items that are left are such as may be taken
pub others_taken : (link : ℕ) (items : List Got) → All IsTaken items → All IsTaken (filter (λ got. not (is_of_link link got)) items)
others_taken link items each = All-filter (λ got. not (is_of_link link got)) IsTaken items each

-- what is held of others is in the buffer
pub other_held : (link : ℕ) (buffer : List ℕ) (held : Option Held) → IsHeld buffer held → IsHeld buffer (held_other_than link held)
other_held link buffer None is = is
other_held link buffer (Some (HeldDatagram server count)) is = is
other_held link buffer (Some (HeldPiece other count)) is = grind (arith, common_steps, is)

-- the bytes of one list and of another behind it
pub bytes_append : (items others : List Got) → byte_count (items ++ others) ≡ byte_count items + byte_count others
bytes_append [] others = omega arith
bytes_append (got ∷ items) others = omega (arith, bytes_append items others)

-- what is left of a list has no more bytes
pub bytes_filter : (keeps : Got → Bool) (items : List Got) → byte_count (filter keeps items) ≤ byte_count items
bytes_filter keeps [] = omega arith
bytes_filter keeps (got ∷ items) = grind (arith, common_steps, bytes_filter keeps items)

-- the bytes behind the first item
pub behind_first : (got : Got) (items : List Got) (bytes : ℕ) → byte_count (got ∷ items) ≤ bytes → byte_count items ≤ bytes - size_of got
behind_first got items bytes fits = omega (arith, fits)

-- the bytes of a list with one more item behind it
pub bytes_behind : (items : List Got) (got : Got) → byte_count (items ++ got ∷ []) ≡ byte_count items + size_of got
bytes_behind items got = omega (arith, bytes_append items (got ∷ []))

-- what the buffer holds has as many bytes as it says
bytes_held : (buffer : List ℕ) (held : Option Held) → IsHeld buffer held → byte_count (held_items buffer held) ≡ held_bytes held
bytes_held buffer None is = refl
bytes_held buffer (Some (HeldDatagram server count)) is = omega (arith, length-take count buffer, is.0)
bytes_held buffer (Some (HeldPiece link count)) is = omega (arith, length-take count buffer, is.2)

-- the bytes of all: of the items, and of what the buffer holds
pub bytes_of_all : (items : List Got) (buffer : List ℕ) (held : Option Held) → IsHeld buffer held → byte_count (items ++ held_items buffer held) ≡ byte_count items + held_bytes held
bytes_of_all items buffer held is = omega (arith, bytes_append items (held_items buffer held), bytes_held buffer held is)

-- what the buffer holds of others has no more bytes
bytes_held_other : (link : ℕ) (held : Option Held) → held_bytes (held_other_than link held) ≤ held_bytes held
bytes_held_other link None = omega arith
bytes_held_other link (Some (HeldDatagram server count)) = omega arith
bytes_held_other link (Some (HeldPiece other count)) = grind (arith, common_steps)

-- the bytes of what is left where a link is closed
pub bytes_left : (link : ℕ) (held : Option Held) (items : List Got) (bytes : ℕ) → byte_count items + held_bytes held ≤ bytes → byte_count (filter (λ got. not (is_of_link link got)) items) + held_bytes (held_other_than link held) ≤ bytes
bytes_left link held items bytes fits =
    omega (arith, bytes_filter (λ got. not (is_of_link link got)) items, bytes_held_other link held, fits)

-- a buffer has room for the longest piece
pub piece_room : (buffer : List ℕ) → length buffer ≡ 65535 → length (take 16384 buffer) ≡ 16384
piece_room buffer is = omega (arith, length-take 16384 buffer, is)
