-- What a World with cookies keeps, and what it finds there.
use Rattle.std.specs.Prelude.{ℕ, ◌+◌, ◌*◌, ◌<◌, ◌==◌, nat_eq, not, Bool, List, [], ◌∷◌, ◌++◌, length, filter, find, Option, Some, None, option_map, ⊤}
use Rattle.std.specs.Map.{lookup}
use Rattle.indexmap.specs.IndexMap.{insert_entry}
use Rattle.net_world.specs.declared.answers.Got.{Got}
use Rattle.net_world.specs.declared.answers.Got.TheVariants.{Datagram, Piece, Ended, Nothing, Failed as LinkFailed}
use Rattle.net_world.specs.declared.log.WorldCall.{WorldCall}
use Rattle.cookie_world.specs.declared.state.Kept.{Kept}
use Rattle.cookie_world.specs.declared.state.Peer.{Peer}
use Rattle.cookie_world.specs.declared.state.Query.{Query}

-- where a World with cookies stands
pub record CookieState : Type 0 where
  -- each server with its cookie
  pub peers : List Peer
  -- the last query of each server and identifier, under its key
  pub queries : List (ℕ × Query)
  -- what came, and was neither judged nor handed on for want of memory
  pub held : Option Got
  -- how often a failure was told, waits apart
  pub failures : ℕ
  -- its calls with their answers
  pub log : List WorldCall

-- where it stands that keeps this
abbrev pub state_of : Kept → CookieState
state_of kept = record { peers = kept.peers.items; queries = kept.queries.entries; held = kept.held; failures = kept.failures; log = kept.log.items }

-- before the first call
abbrev pub at_start : CookieState
at_start = record { peers = []; queries = []; held = None; failures = 0; log = [] }

-- it is the server with this number
abbrev pub is_server : ℕ → Peer → Bool
is_server server peer = peer.server == server

-- the server with this number
abbrev pub peer_of : ℕ → List Peer → Option Peer
peer_of server peers = find (is_server server) peers

-- the cookie of a server, where it was told
abbrev pub known_cookie : ℕ → List Peer → Option (List ℕ)
known_cookie server peers = option_map (λ peer. peer.cookie) (peer_of server peers)

-- the servers, where this one stands in place of the one with its number
abbrev pub with_peer : Peer → List Peer → List Peer
with_peer peer peers = filter (λ other. not (is_server peer.server other)) peers ++ peer ∷ []

-- what the last query of this server and identifier is kept under: no two of them have one key, since an identifier is below 65,536
abbrev pub query_key : ℕ → ℕ → ℕ
query_key server id = server * 65536 + id

-- the last query of this server and identifier
abbrev pub last_query : ℕ → ℕ → List (ℕ × Query) → Option Query
last_query server id queries = lookup (nat_eq (query_key server id)) queries

-- the queries, where this one, if there is one, stands in place of the one with its server and identifier
abbrev pub with_noted : Option Query → List (ℕ × Query) → List (ℕ × Query)
with_noted None queries = queries
with_noted (Some query) queries = insert_entry nat_eq queries (query_key query.server query.id) query

-- it can be held: a datagram, or a piece with a byte
abbrev pub CanHold : Got → Type 0
CanHold (Datagram server bytes) = ⊤
CanHold (Piece link bytes) = 0 < length bytes
CanHold (Ended link) = ⊥
CanHold Nothing = ⊥
CanHold (LinkFailed server link) = ⊥

-- nothing is held, or what can be
abbrev pub MayHold : Option Got → Type 0
MayHold None = ⊤
MayHold (Some got) = CanHold got
