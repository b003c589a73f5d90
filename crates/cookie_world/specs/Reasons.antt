-- Why a caller is given a datagram with bytes, in plain words.
use Rattle.std.specs.Prelude.{ℕ, nat_lt, List, length, Option, Some, None, ⊤}
use Rattle.dns_cookie.specs.Judging.{MayReach}
use Rattle.dns_cookie.specs.Reply.{reply_in}
use Rattle.cookie_world.specs.State.{CookieState, peer_of, last_query}
use Rattle.cookie_world.specs.Verdict.{client_of}
use Rattle.dns_cookie.specs.declared.reply.CookieReply.{CookieReply}
use Rattle.cookie_world.specs.declared.state.Peer.{Peer}
use Rattle.cookie_world.specs.declared.state.Query.{Query}

-- its query was never sent to its server, or the server never told; or it may reach the caller by the cookies that are known
abbrev pub HasReasonBy : Option Query → Option Peer → CookieReply → Type 0
HasReasonBy None peer reply = ⊤
HasReasonBy (Some query) None reply = ⊤
HasReasonBy (Some query) (Some peer) reply = MayReach query.way (client_of peer.cookie) (nat_lt 8 (length peer.cookie)) reply

-- a datagram that can't be read needs no reason
abbrev pub HasReasonOf : CookieState → ℕ → Option CookieReply → Type 0
HasReasonOf state server None = ⊤
HasReasonOf state server (Some reply) = HasReasonBy (last_query server reply.id state.queries) (peer_of server state.peers) reply

-- the datagram of this server can't be read, or answers no query that carried a cookie, or carries the client cookie, or has none
-- while no server cookie is known
abbrev pub HasReason : CookieState → ℕ → List ℕ → Type 0
HasReason state server bytes = HasReasonOf state server (reply_in bytes)
