-- What each call of a World with cookies makes of the World that it stands around: which calls of that it is, what it answers,
-- and what is kept behind it.
use Rattle.std.specs.Prelude.{◌≡◌, ◌⊎◌, ℕ, ◌≤◌, Bool, false, if◌then◌else◌, List, [], ◌∷◌, ◌++◌, length, map, Option, Some, None, option_map, Result, MatchResult, ⊤}
use Rattle.std.specs.List.{flat_map}
use Rattle.std.specs.Int.{w16, to_be_bytes}
use Rattle.item_list.specs.declared.no_memory.NoMemory.{NoMemory}
use Rattle.net_addr.specs.declared.addr.ServerAddr.{ServerAddr}
use Rattle.net_world.specs.declared.answers.Got.{Got}
use Rattle.net_world.specs.declared.answers.Got.TheVariants.{Datagram, Piece, Ended, Nothing, Failed as LinkFailed}
use Rattle.net_world.specs.declared.answers.Sent.{Sent}
use Rattle.net_world.specs.declared.answers.Sent.TheVariants.{Sent as WasSent, Failed as NotSent}
use Rattle.net_world.specs.declared.log.WorldCall.{WorldCall}
use Rattle.net_world.specs.declared.log.WorldCall.TheVariants.{Serve, Now, Word, Send, Connect, Write, Receive, Close, Wait}
use Rattle.net_world.specs.Cause.{raised, is_not_sent, is_not_written, is_link_failed}
use Rattle.net_world.specs.World.{is_of_link}
use Rattle.cookie_world.specs.Sending.{wire_of, noted}
use Rattle.cookie_world.specs.State.{CookieState, CanHold, with_peer, with_noted}
use Rattle.cookie_world.specs.Verdict.{verdict_of}
use Rattle.cookie_world.specs.declared.state.Peer.{Peer}
use Rattle.cookie_world.specs.declared.state.Query.{Query}
use Rattle.cookie_world.specs.declared.verdict.Verdict.{Verdict}
use Rattle.cookie_world.specs.declared.verdict.Verdict.TheVariants.{Pass, Lose, Teach, Again}

-- the call tells a failure, and isn't a wait
abbrev pub tells_failure : WorldCall → Bool
tells_failure (Serve server address) = false
tells_failure (Now reading) = false
tells_failure (Word word) = false
tells_failure (Send server bytes sent) = is_not_sent sent
tells_failure (Connect server link sent) = is_not_sent sent
tells_failure (Write link bytes wrote) = is_not_written wrote
tells_failure (Receive got) = is_link_failed got
tells_failure (Close link) = false
tells_failure (Wait until answer) = false

-- the state behind a call: the call is in the log, and counts where it tells a failure
abbrev pub told : WorldCall → CookieState → CookieState
told call state = record state { failures = raised (tells_failure call) state.failures; log = state.log ++ call ∷ [] }

-- the call is passed on alone
pub record Passes (call : WorldCall) (old : CookieState) (inner : List WorldCall) (new : CookieState) : Type 0 where
  pub alone : inner ≡ call ∷ []
  pub state : new ≡ told call old

-- the bytes of a client cookie: those of its words, the high byte of each first
abbrev pub bytes_of_words : List ℕ → List ℕ
bytes_of_words words = flat_map (to_be_bytes w16) words

-- the calls that draw these words
abbrev pub draws_of : List ℕ → List WorldCall
draws_of words = map (λ word. Word word) words

-- four words are drawn as the server's client cookie, and then its address is told; its server cookie is forgotten
pub record Serves (server : ℕ) (address : ServerAddr) (old : CookieState) (inner : List WorldCall) (new : CookieState) : Type 0 where
  pub words : List ℕ
  pub four : length words ≡ 4
  pub calls : inner ≡ draws_of words ++ Serve server address ∷ []
  pub state : new ≡ told (Serve server address) (record old { peers = with_peer (record { server = server; cookie = bytes_of_words words }) old.peers })

-- the query is sent as it goes to this server, and noted
pub record Sends (server : ℕ) (bytes : List ℕ) (sent : Sent) (old : CookieState) (inner : List WorldCall) (new : CookieState) : Type 0 where
  pub calls : inner ≡ Send server (wire_of old.peers server bytes).bytes sent ∷ []
  pub state : new ≡ told (Send server bytes sent) (record old { queries = with_noted (noted server bytes (wire_of old.peers server bytes).way) old.queries })

-- what is held, unless it is of this link
abbrev pub not_of : ℕ → Option Got → Option Got
not_of link None = None
not_of link (Some got) = if is_of_link link got then None else Some got

-- the link is closed, and what is held of it is dropped
pub record Closes (link : ℕ) (old : CookieState) (inner : List WorldCall) (new : CookieState) : Type 0 where
  pub calls : inner ≡ Close link ∷ []
  pub state : new ≡ told (Close link) (record old { held = not_of link old.held })

-- what the caller is given for a datagram whose query is sent again: a datagram without a byte, or that its server failed
abbrev pub given_again : ℕ → Sent → Got
given_again server WasSent = Datagram server []
given_again server NotSent = LinkFailed server 0

-- the server has this cookie now
abbrev pub with_cookie : Peer → CookieState → CookieState
with_cookie peer state = record state { peers = with_peer peer state.peers }

-- the server has this cookie now, and this is its last query with that identifier
abbrev pub with_repeat : Peer → Query → CookieState → CookieState
with_repeat peer query state = record state { peers = with_peer peer state.peers; queries = with_noted (Some query) state.queries }

-- the datagram becomes this: what the caller is given, which calls that takes, and what is known behind it
abbrev pub Becomes : ℕ → List ℕ → Verdict → Got → List WorldCall → CookieState → CookieState → Type 0
Becomes server bytes Pass got calls old new = (got ≡ Datagram server bytes) × (calls ≡ []) × (new ≡ old)
Becomes server bytes Lose got calls old new = (got ≡ Datagram server []) × (calls ≡ []) × (new ≡ old)
Becomes server bytes (Teach peer) got calls old new = (got ≡ Datagram server bytes) × (calls ≡ []) × (new ≡ with_cookie peer old)
Becomes server bytes (Again peer query sent) got calls old new =
    (outcome : Sent) × (got ≡ given_again server outcome) × (calls ≡ Send server sent outcome ∷ [])
    × (new ≡ with_repeat peer query old)

-- what came is judged, where it is a datagram, and else handed on
abbrev pub Answers : Got → Got → List WorldCall → CookieState → CookieState → Type 0
Answers (Datagram server bytes) got calls old new = Becomes server bytes (verdict_of old.peers old.queries server bytes) got calls old new
Answers (Piece link bytes) got calls old new = (got ≡ Piece link bytes) × (calls ≡ []) × (new ≡ old)
Answers (Ended link) got calls old new = (got ≡ Ended link) × (calls ≡ []) × (new ≡ old)
Answers Nothing got calls old new = (got ≡ Nothing) × (calls ≡ []) × (new ≡ old)
Answers (LinkFailed server link) got calls old new = (got ≡ LinkFailed server link) × (calls ≡ []) × (new ≡ old)

-- what is received: what is held, and else what the inner World gives
abbrev pub receiving : Option Got → Got → List WorldCall
receiving None came = Receive came ∷ []
receiving (Some held) came = []

-- what comes is what is held, where something is
abbrev pub IsNext : Option Got → Got → Type 0
IsNext None came = ⊤
IsNext (Some held) came = came ≡ held

-- what is held, or else received, is judged or handed on
pub record Receives (got : Got) (old : CookieState) (inner : List WorldCall) (new : CookieState) : Type 0 where
  pub came : Got
  pub calls : List WorldCall
  pub judged : CookieState
  pub next : IsNext old.held came
  pub answers : Answers came got calls (record old { held = None }) judged
  pub inner_is : inner ≡ receiving old.held came ++ calls
  pub state : new ≡ told (Receive got) judged

-- what a call with its answer makes of the calls of the inner World
abbrev pub Makes : WorldCall → CookieState → List WorldCall → CookieState → Type 0
Makes (Serve server address) old inner new = Serves server address old inner new
Makes (Now reading) old inner new = Passes (Now reading) old inner new
Makes (Word word) old inner new = Passes (Word word) old inner new
Makes (Send server bytes sent) old inner new = Sends server bytes sent old inner new
Makes (Connect server link sent) old inner new = Passes (Connect server link sent) old inner new
Makes (Write link bytes wrote) old inner new = Passes (Write link bytes wrote) old inner new
Makes (Receive got) old inner new = Receives got old inner new
Makes (Close link) old inner new = Closes link old inner new
Makes (Wait until waited) old inner new = Passes (Wait until waited) old inner new

-- a datagram or a piece was received, and is held
pub record Holds (old : CookieState) (inner : List WorldCall) (new : CookieState) : Type 0 where
  pub came : Got
  pub can : CanHold came
  pub empty : old.held ≡ None
  pub calls : inner ≡ Receive came ∷ []
  pub state : new ≡ record old { held = Some came }

-- words were drawn, four at most, and nothing else was done: those of a serve, or none
pub record Draws (old : CookieState) (inner : List WorldCall) (new : CookieState) : Type 0 where
  pub words : List ℕ
  pub few : length words ≤ 4
  pub calls : inner ≡ draws_of words
  pub state : new ≡ old

-- a call that answers want of memory: words were drawn, or none and nothing was done; or what came is held
abbrev pub IsCut : CookieState → List WorldCall → CookieState → Type 0
IsCut old inner new = Draws old inner new ⊎ Holds old inner new

-- a call with this answer made so many calls of the inner World, which it tells where it tells its log
pub record Goes {T : Type 0} (call : T → WorldCall) (result : Result T NoMemory) (log_old log_new : Option (List WorldCall)) (old new : CookieState) : Type 0 where
  pub inner : List WorldCall
  pub log : log_new ≡ option_map (λ calls. calls ++ inner) log_old
  pub makes : MatchResult result (λ answer. Makes (call answer) old inner new) (λ _. IsCut old inner new)
