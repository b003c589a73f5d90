-- What was received and not given yet, and what a look at a socket adds to it.
use Rattle.std.specs.Prelude.{◌≡◌, ◌≢◌, ℕ, ◌+◌, ◌<◌, ◌≤◌, List, [], ◌∷◌, ◌++◌, length, take, All, Bool, true, false, Option, None, Some, ◌==◌, nat_lt, not, ◌||◌, if◌then◌else◌, ⊤}
use Rattle.net_world.specs.declared.answers.Got.{Got}
use Rattle.net_world.specs.declared.answers.Got.TheVariants.{Datagram, Piece, Ended, Nothing, Failed as LinkFailed}
use Rattle.sock_engine.specs.declared.inbox.Held.{Held}
use Rattle.sock_engine.specs.declared.inbox.Held.TheVariants.{HeldDatagram, HeldPiece}
use Rattle.sock_engine.specs.declared.inbox.Found.{Found}
use Rattle.sock_engine.specs.declared.inbox.Found.TheVariants.{Came, Stray, Full, Blocked, Again, Over, Failed}
use Rattle.sock_engine.specs.declared.ends.Moved.{Moved}
use Rattle.sock_engine.specs.declared.ends.Moved.TheVariants.{Done, Blocked as WouldWait, Again as CutOff, Failed as NotMoved}
use Rattle.sock_engine.specs.Reply.{IsReply}

-- what is taken: a datagram may answer something, and a piece has a byte, and at most 16 KiB; that there is nothing is no item
abbrev pub IsTaken : Got → Type 0
IsTaken (Datagram server bytes) = IsReply bytes
IsTaken (Piece link bytes) = (0 < length bytes) × (length bytes ≤ 16384)
IsTaken (Ended link) = ⊤
IsTaken Nothing = ⊥
IsTaken (LinkFailed server link) = ⊤

-- what is received: an item that was taken, or that there is none
abbrev pub IsReceived : Got → Type 0
IsReceived (Datagram server bytes) = IsTaken (Datagram server bytes)
IsReceived (Piece link bytes) = IsTaken (Piece link bytes)
IsReceived (Ended link) = IsTaken (Ended link)
IsReceived Nothing = ⊤
IsReceived (LinkFailed server link) = IsTaken (LinkFailed server link)

-- how many bytes an item has
abbrev pub size_of : Got → ℕ
size_of (Datagram server bytes) = length bytes
size_of (Piece link bytes) = length bytes
size_of (Ended link) = 0
size_of Nothing = 0
size_of (LinkFailed server link) = 0

-- how many bytes items have
abbrev pub byte_count : List Got → ℕ
byte_count [] = 0
byte_count (got ∷ items) = size_of got + byte_count items

-- nothing more is taken behind so many items, or behind so many bytes
abbrev pub is_room_taken : ℕ → ℕ → Bool
is_room_taken items bytes = not (nat_lt items 16384) || not (nat_lt bytes 4194304)

-- what the buffer holds of a socket, as it will be received
abbrev pub held_items : List ℕ → Option Held → List Got
held_items buffer None = []
held_items buffer (Some (HeldDatagram server count)) = Datagram server (take count buffer) ∷ []
held_items buffer (Some (HeldPiece link count)) = Piece link (take count buffer) ∷ []

-- what is held is in the buffer, and is what may be taken
abbrev pub IsHeld : List ℕ → Option Held → Type 0
IsHeld buffer None = ⊤
IsHeld buffer (Some (HeldDatagram server count)) = (count ≤ length buffer) × IsReply (take count buffer)
IsHeld buffer (Some (HeldPiece link count)) = (0 < count) × (count ≤ 16384) × (count ≤ length buffer)

-- how many bytes the buffer holds
abbrev pub held_bytes : Option Held → ℕ
held_bytes None = 0
held_bytes (Some (HeldDatagram server count)) = count
held_bytes (Some (HeldPiece link count)) = count

-- what was moved has at most so many bytes
abbrev pub IsInBuffer : ℕ → Moved → Type 0
IsInBuffer most (Done count) = count ≤ most
IsInBuffer most WouldWait = ⊤
IsInBuffer most CutOff = ⊤
IsInBuffer most (NotMoved failure) = ⊤

-- what the buffer holds, if it isn't a piece of this link
abbrev pub held_other_than : ℕ → Option Held → Option Held
held_other_than link None = None
held_other_than link (Some (HeldDatagram server count)) = Some (HeldDatagram server count)
held_other_than link (Some (HeldPiece other count)) = if other == link then None else Some (HeldPiece other count)

-- what was added at the end, each item of which has the property
abbrev pub BringsOnly : (Got → Type 0) → List Got → List Got → Type 0
BringsOnly P old new = (more : List Got) × (new ≡ old ++ more) × All P more

-- it is a datagram of this server, or that its datagrams were refused
abbrev pub IsOfServer : ℕ → Got → Type 0
IsOfServer server (Datagram number bytes) = number ≡ server
IsOfServer server (Piece link bytes) = ⊥
IsOfServer server (Ended link) = ⊥
IsOfServer server Nothing = ⊥
IsOfServer server (LinkFailed number link) = (number ≡ server) × (link ≡ 0)

-- it is a piece of this link to this server, its end or its failure
abbrev pub IsOfLink : ℕ → ℕ → Got → Type 0
IsOfLink server link (Datagram number bytes) = ⊥
IsOfLink server link (Piece number bytes) = number ≡ link
IsOfLink server link (Ended number) = number ≡ link
IsOfLink server link Nothing = ⊥
IsOfLink server link (LinkFailed number other) = (number ≡ server) × (other ≡ link)

-- it is a piece of this link
abbrev pub IsPieceOf : ℕ → Got → Type 0
IsPieceOf link (Datagram number bytes) = ⊥
IsPieceOf link (Piece number bytes) = number ≡ link
IsPieceOf link (Ended number) = ⊥
IsPieceOf link Nothing = ⊥
IsPieceOf link (LinkFailed number other) = ⊥

-- a socket may have more after a look: only one that found nothing says that it has not
abbrev pub has_more : Found → Bool
has_more Came = true
has_more Stray = true
has_more Full = true
has_more Blocked = false
has_more Again = true
has_more Over = true
has_more Failed = true

-- the first item is taken, and none only where there is none
abbrev pub Pops : List Got → List Got → Option Got → Type 0
Pops old new (Some got) = old ≡ got ∷ new
Pops old new None = (old ≡ []) × (new ≡ [])

-- the items that an answer gives: one, or none
abbrev pub items_given : Got → List Got
items_given (Datagram server bytes) = Datagram server bytes ∷ []
items_given (Piece link bytes) = Piece link bytes ∷ []
items_given (Ended link) = Ended link ∷ []
items_given Nothing = []
items_given (LinkFailed server link) = LinkFailed server link ∷ []

-- what had come, or where nothing had what comes now, is what is given and then what is left; nothing is given only where none is left
pub record GivesFirst (old new : List Got) (got : Got) : Type 0 where
  pub all : List Got
  pub held : old ≢ [] → all ≡ old
  pub first : all ≡ items_given got ++ new
  pub none : got ≡ Nothing → new ≡ []

-- a look at a server's socket brings one datagram of it, which may answer something, or nothing
abbrev pub LooksAtServer : ℕ → List Got → List Got → Found → Type 0
LooksAtServer server old new Came = (bytes : List ℕ) × IsReply bytes × (new ≡ old ++ Datagram server bytes ∷ [])
LooksAtServer server old new Stray = new ≡ old
LooksAtServer server old new Full = new ≡ old
LooksAtServer server old new Blocked = new ≡ old
LooksAtServer server old new Again = new ≡ old
LooksAtServer server old new Over = ⊥
LooksAtServer server old new Failed = new ≡ old

-- a look at a link's stream brings some bytes of it, at most 16 KiB, or its end, its failure, or nothing
abbrev pub LooksAtLink : ℕ → ℕ → List Got → List Got → Found → Type 0
LooksAtLink server link old new Came = (bytes : List ℕ) × (0 < length bytes) × (length bytes ≤ 16384) × (new ≡ old ++ Piece link bytes ∷ [])
LooksAtLink server link old new Stray = ⊥
LooksAtLink server link old new Full = new ≡ old
LooksAtLink server link old new Blocked = new ≡ old
LooksAtLink server link old new Again = new ≡ old
LooksAtLink server link old new Over = new ≡ old ++ Ended link ∷ []
LooksAtLink server link old new Failed = new ≡ old ++ LinkFailed server link ∷ []
