-- What each call of such a network answers, and how it leaves it. No call fails.
use Rattle.std.specs.Prelude.{◌≡◌, ℕ, ◌+◌, ◌*◌, ◌%◌, ◌^◌, ◌==◌, max, not, Bool, if◌then◌else◌, List, [], ◌∷◌, ◌++◌, length, drop, filter, find, filter_map, Option, Some, None}
use Rattle.net_world.specs.declared.answers.Sent.{Sent}
use Rattle.net_world.specs.declared.answers.Sent.TheVariants.{Sent as WasSent}
use Rattle.net_world.specs.declared.answers.Wrote.{Wrote}
use Rattle.net_world.specs.declared.answers.Wrote.TheVariants.{Count}
use Rattle.net_world.specs.declared.answers.Got.{Got}
use Rattle.net_world.specs.declared.answers.Got.TheVariants.{Nothing}
use Rattle.net_world.specs.declared.answers.Waited.{Waited}
use Rattle.net_world.specs.declared.answers.Waited.TheVariants.{Woken}
use Rattle.net_world.specs.declared.log.WorldCall.{WorldCall}
use Rattle.net_world.specs.declared.log.WorldCall.TheVariants.{Now, Word, Send, Connect, Write, Receive, Close, Wait}
use Rattle.net_world.specs.World.{is_of_link}
use Rattle.test_nameserver.specs.Query.{asked_by}
use Rattle.test_nameserver.specs.Peer.{PeerState, heard_datagram, heard_messages, messages_in}
use Rattle.test_nameserver.specs.declared.links.OpenLink.{OpenLink}

-- the state with this call and its answer in the log
abbrev pub logged : WorldCall → PeerState → PeerState
logged call state = record state { log = state.log ++ call ∷ [] }

-- it answers the clock, which is then the last reading
pub record ReadsClock (old new : PeerState) (answer : ℕ) : Type 0 where
  pub clock : answer ≡ old.clock
  pub state : new ≡ record (logged (Now answer) old) { reading = answer }

-- the random word with this number, from 0 (this project's profile)
abbrev pub word_number : ℕ → ℕ → ℕ
word_number seed number = (40503 * number + seed) % 65536

-- it draws the next word; behind the greatest number of 64 bits numbers begin at 0 again, where the words do too
pub record DrawsNext (old new : PeerState) (word : ℕ) : Type 0 where
  pub next : word ≡ word_number old.seed old.drawn
  pub state : new ≡ record (logged (Word word) old) { drawn = (old.drawn + 1) % 2 ^ 64 }

-- a datagram is sent to the server, which hears it
pub record Sends (server : ℕ) (bytes : List ℕ) (old new : PeerState) (sent : Sent) : Type 0 where
  pub answer : sent ≡ WasSent
  pub state : new ≡ logged (Send server bytes WasSent) (heard_datagram server (asked_by bytes) old)

-- a link is begun
pub record Connects (server link : ℕ) (old new : PeerState) (sent : Sent) : Type 0 where
  pub answer : sent ≡ WasSent
  pub state : new ≡ record (logged (Connect server link WasSent) old) { links = old.links ++ record { number = link; unread = [] } ∷ [] }

-- the link has this number
abbrev pub has_number : ℕ → OpenLink → Bool
has_number link open_link = open_link.number == link

-- the links, the first of this number with these bytes unread
abbrev pub with_unread : ℕ → List ℕ → List OpenLink → List OpenLink
with_unread link unread [] = []
with_unread link unread (first ∷ links) =
    if has_number link first then record { number = first.number; unread = unread } ∷ links else first ∷ with_unread link unread links

-- what is behind the messages stays unread, and the messages are heard
abbrev pub carried : ℕ → PeerState → List (List ℕ) × List ℕ → PeerState
carried link state found = heard_messages link (filter_map asked_by found.0) (record state { links = with_unread link found.1 state.links })

-- an open link carries bytes: those that were unread, and these; one that isn't open carries nothing
abbrev pub written : ℕ → List ℕ → Option OpenLink → PeerState → PeerState
written link bytes None state = state
written link bytes (Some found) state = carried link state (messages_in (found.unread ++ bytes))

-- all bytes are taken, and the other end of an open link hears what is whole
pub record WritesAll (link : ℕ) (bytes : List ℕ) (old new : PeerState) (wrote : Wrote) : Type 0 where
  pub answer : wrote ≡ Count (length bytes)
  pub state : new ≡ logged (Write link bytes (Count (length bytes))) (written link bytes (find (has_number link) old.links) old)

-- the first of these, or that there is none
abbrev pub first_item : List Got → Got
first_item [] = Nothing
first_item (got ∷ items) = got

-- the first reply is taken
pub record ReceivesFirst (old new : PeerState) (got : Got) : Type 0 where
  pub answer : got ≡ first_item old.items
  pub state : new ≡ record (logged (Receive got) old) { items = drop 1 old.items }

-- the link is open no more, and its replies vanish
pub record ClosesLink (link : ℕ) (old new : PeerState) : Type 0 where
  pub state : new ≡ record (logged (Close link) old) {
    links = filter (λ open_link. not (has_number link open_link)) old.links;
    items = filter (λ got. not (is_of_link link got)) old.items;
  }

-- the clock goes to the moment, where nothing can be received, and never back
pub record WaitsUntil (until : ℕ) (old new : PeerState) (waited : Waited) : Type 0 where
  pub answer : waited ≡ Woken
  pub state : new ≡ record (logged (Wait until Woken) old) { clock = if length old.items == 0 then max old.clock until else old.clock }
