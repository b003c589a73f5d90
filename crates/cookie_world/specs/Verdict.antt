-- What becomes of a datagram, with all that it takes: the rules of judging, where these servers were told and these queries sent.
use Rattle.std.specs.Prelude.{ℕ, nat_lt, List, [], length, take, Option, Some, None}
use Rattle.dns_cookie.specs.Cookie.{cookied}
use Rattle.dns_cookie.specs.Judging.{judged_reply}
use Rattle.dns_cookie.specs.Reply.{reply_in}
use Rattle.cookie_world.specs.State.{peer_of, last_query}
use Rattle.dns_cookie.specs.declared.judging.Judgement.{Judgement}
use Rattle.dns_cookie.specs.declared.judging.Judgement.TheVariants.{HandOn, Discard, Learn, Repeat}
use Rattle.dns_cookie.specs.declared.judging.Way.TheVariants.{Repeated}
use Rattle.dns_cookie.specs.declared.reply.CookieReply.{CookieReply}
use Rattle.cookie_world.specs.declared.state.Peer.{Peer}
use Rattle.cookie_world.specs.declared.state.Query.{Query}
use Rattle.cookie_world.specs.declared.verdict.Verdict.{Verdict}
use Rattle.cookie_world.specs.declared.verdict.Verdict.TheVariants.{Pass, Lose, Teach, Again}

-- the client's part of a cookie: its first 8 bytes (RFC 7873, section 4)
abbrev pub client_of : List ℕ → List ℕ
client_of cookie = take 8 cookie

-- the cookie of a reply; no byte, where it has none
abbrev pub taught : Option (List ℕ) → List ℕ
taught None = []
taught (Some cookie) = cookie

-- the server with the cookie of this reply
abbrev pub taught_peer : ℕ → CookieReply → Peer
taught_peer server reply = record { server = server; cookie = taught reply.cookie }

-- the same query, repeated
abbrev pub repeated : Query → Query
repeated query = record query { way = Repeated }

-- the query is sent again so, unless it can't carry the cookie: one that carried a cookie can carry any
abbrev pub again_by : Query → Peer → Option (List ℕ) → Verdict
again_by query peer None = Teach peer
again_by query peer (Some sent) = Again peer (repeated query) sent

-- the query is sent again with this server's cookie
abbrev pub again : Query → Peer → Verdict
again query peer = again_by query peer (cookied peer.cookie query.bytes)

-- what becomes of a reply that is judged so, with the server as it teaches it
abbrev pub verdict_for : Query → Peer → Judgement → Verdict
verdict_for query peer HandOn = Pass
verdict_for query peer Discard = Lose
verdict_for query peer Learn = Teach peer
verdict_for query peer Repeat = again query peer

-- what becomes of a reply to this query, of this server
abbrev pub verdict_by : Query → Peer → CookieReply → Verdict
verdict_by query peer reply =
    verdict_for query (taught_peer peer.server reply) (judged_reply query.way (client_of peer.cookie) (nat_lt 8 (length peer.cookie)) reply)

-- what becomes of a reply; it is handed on, where its query was never sent to its server, or its server never told
abbrev pub verdict_found : Option Query → Option Peer → CookieReply → Verdict
verdict_found None peer reply = Pass
verdict_found (Some query) None reply = Pass
verdict_found (Some query) (Some peer) reply = verdict_by query peer reply

-- what becomes of a reply of this server
abbrev pub verdict_on : List Peer → List (ℕ × Query) → ℕ → CookieReply → Verdict
verdict_on peers queries server reply = verdict_found (last_query server reply.id queries) (peer_of server peers) reply

-- the same of what could be read, or couldn't
abbrev pub verdict_read : List Peer → List (ℕ × Query) → ℕ → Option CookieReply → Verdict
verdict_read peers queries server None = Pass
verdict_read peers queries server (Some reply) = verdict_on peers queries server reply

-- what becomes of a datagram of this server
abbrev pub verdict_of : List Peer → List (ℕ × Query) → ℕ → List ℕ → Verdict
verdict_of peers queries server bytes = verdict_read peers queries server (reply_in bytes)
