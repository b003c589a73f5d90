-- A network in memory whose servers all answer from one zone, and lose queries by a plan: where it stands, and what it hears.
use Rattle.std.specs.Prelude.{ℕ, zero, suc, fold, true, false, ◌+◌, ◌*◌, ◌%◌, ◌==◌, nat_lt, not, Bool, ◌&&◌, if◌then◌else◌, List, [], ◌∷◌, ◌++◌, length, take, drop, map, bytes_eq, Option, Some, None}
use Rattle.std.specs.List.{list_any}
use Rattle.byteorder.specs.Endian.{big_bytes}
use Rattle.dns_message.specs.declared.message.Record.{Record}
use Rattle.dns_message.specs.declared.message.Question.{Question}
use Rattle.net_world.specs.declared.answers.Got.{Got}
use Rattle.net_world.specs.declared.answers.Got.TheVariants.{Datagram, Piece}
use Rattle.net_world.specs.declared.log.WorldCall.{WorldCall}
use Rattle.test_nameserver.specs.Index.{key_of}
use Rattle.test_nameserver.specs.Reply.{reply_bytes}
use Rattle.test_nameserver.specs.declared.query.Query.{Query}
use Rattle.test_nameserver.specs.declared.links.OpenLink.{OpenLink}

-- where the network stands
pub record PeerState : Type 0 where
  pub zone : List Record
  pub seed : ℕ
  -- the questions that were asked, each once, in the order of their first queries
  pub asked : List (List ℕ)
  -- the replies that can be received, the oldest first
  pub items : List Got
  -- the open links, each with what was written to it and not read yet
  pub links : List OpenLink
  -- how many random words were drawn, as a number of 64 bits
  pub drawn : ℕ
  pub clock : ℕ
  -- the clock's last reading
  pub reading : ℕ
  pub log : List WorldCall

-- the network before the first call
abbrev pub at_start : List Record → ℕ → PeerState
at_start zone seed = record { zone = zone; seed = seed; asked = []; items = []; links = []; drawn = 0; clock = 0; reading = 0; log = [] }

-- what tells a question from others: its name in lower case, its type and its class
abbrev pub question_key : Question → List ℕ
question_key question = key_of question.name ++ big_bytes 2 question.kind ++ big_bytes 2 question.class

-- the question was asked before
abbrev pub was_asked : List (List ℕ) → List ℕ → Bool
was_asked asked key = list_any (bytes_eq key) asked

-- the questions asked, with this one behind them where it is new: so it gets the number of those before it
abbrev pub noted : List (List ℕ) → List ℕ → List (List ℕ)
noted asked key = if was_asked asked key then asked else asked ++ key ∷ []

-- the plan: the first query of a question is lost where its number and the seed make a multiple of three (this project's profile)
abbrev pub is_lost : ℕ → List (List ℕ) → List ℕ → Bool
is_lost seed asked key = not (was_asked asked key) && (length asked + seed) % 3 == 0

-- a message over TCP: its length, and its bytes (RFC 1035, section 4.2.2)
abbrev pub framed : List ℕ → List ℕ
framed bytes = big_bytes 2 (length bytes) ++ bytes

-- a datagram that is a query: its question is noted, and it is answered unless it is lost
abbrev pub heard_datagram : ℕ → Option Query → PeerState → PeerState
heard_datagram server None state = state
heard_datagram server (Some query) state = record state {
  asked = noted state.asked (question_key query.question);
  items = if is_lost state.seed state.asked (question_key query.question) then state.items
      else state.items ++ Datagram server (reply_bytes state.zone query false) ∷ [];
}

-- the message that stands whole in front of what a link carries, and what stands behind it
abbrev pub first_message : List ℕ → Option (List ℕ × List ℕ)
first_message [] = None
first_message (high ∷ []) = None
first_message (high ∷ low ∷ bytes) =
    if nat_lt (length bytes) (high * 256 + low) then None else Some (take (high * 256 + low) bytes, drop (high * 256 + low) bytes)

-- a message in front of others, if there is one; else nothing but the bytes
abbrev pub message_and : (List ℕ → List (List ℕ) × List ℕ) → List ℕ → Option (List ℕ × List ℕ) → List (List ℕ) × List ℕ
message_and behind bytes None = ([], bytes)
message_and behind bytes (Some first) = (first.0 ∷ (behind first.1).0, (behind first.1).1)

-- the messages, of at most so many, that stand whole in front of what a link carries, and what stands behind them
abbrev pub messages_within : ℕ → List ℕ → List (List ℕ) × List ℕ
messages_within zero bytes = ([], bytes)
messages_within (suc n) bytes = message_and (messages_within n) bytes (first_message bytes)

-- the messages that stand whole in front of what a link carries, and what stands behind them
unfoldable pub messages_in : List ℕ → List (List ℕ) × List ℕ
messages_in bytes = messages_within (length bytes) bytes

-- the question of a query, by what tells it from others
abbrev pub key_asked : Query → List ℕ
key_asked query = question_key query.question

-- the reply to a query over a link
abbrev pub link_reply : List Record → ℕ → Query → Got
link_reply zone link query = Piece link (framed (reply_bytes zone query true))

-- messages over a link: the question of each that is a query is noted, and each is answered
abbrev pub heard_messages : ℕ → List Query → PeerState → PeerState
heard_messages link queries state = record state {
  asked = fold noted state.asked (map key_asked queries);
  items = state.items ++ map (link_reply state.zone link) queries;
}
