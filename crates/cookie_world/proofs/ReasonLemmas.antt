-- A datagram with bytes that a caller is given has a reason.
use Rattle.std.proofs.Common.{◌≡◌, ◌≢◌, ℕ, List, [], length, Option, Some, None, ap, subst}
use Rattle.std.specs.Prelude.{nat_lt}
use Rattle.net_world.specs.declared.answers.Got.{Got}
use Rattle.net_world.specs.declared.answers.Got.TheVariants.{Datagram, Piece, Ended, Nothing, Failed as LinkFailed}
use Rattle.net_world.specs.declared.answers.Sent.{Sent}
use Rattle.net_world.specs.declared.answers.Sent.TheVariants.{Sent as WasSent, Failed as NotSent}
use Rattle.net_world.specs.declared.log.WorldCall.{WorldCall}
use Rattle.net_world.specs.declared.log.WorldCall.TheVariants.{Receive}
use Rattle.dns_cookie.specs.Judging.{judged_reply}
use Rattle.cookie_world.specs.Reasons.{HasReason, HasReasonOf, HasReasonBy}
use Rattle.dns_cookie.specs.Reply.{reply_in}
use Rattle.cookie_world.specs.Rounds.{Becomes, Answers, Makes, given_again}
use Rattle.cookie_world.specs.State.{CookieState, peer_of, last_query}
use Rattle.cookie_world.specs.Verdict.{client_of, taught_peer, verdict_for, verdict_found, verdict_read, verdict_of}
use Rattle.dns_cookie.specs.declared.judging.Judgement.{Judgement}
use Rattle.dns_cookie.specs.declared.judging.Judgement.TheVariants.{Discard}
use Rattle.dns_cookie.specs.declared.reply.CookieReply.{CookieReply}
use Rattle.cookie_world.specs.declared.state.Peer.{Peer}
use Rattle.cookie_world.specs.declared.state.Query.{Query}
use Rattle.cookie_world.specs.declared.verdict.Verdict.{Verdict}
use Rattle.cookie_world.specs.declared.verdict.Verdict.TheVariants.{Pass, Lose, Teach, Again}
use Rattle.dns_cookie.proofs.JudgingLemmas.{reaches}

-- what is judged to be dropped is lost
lost : (query : Query) (peer : Peer) (judgement : Judgement) → verdict_for query peer judgement ≢ Lose → judgement ≢ Discard
lost query peer judgement kept is = kept (ap (verdict_for query peer) is)

reason_by : (query : Option Query) (peer : Option Peer) (reply : CookieReply) → verdict_found query peer reply ≢ Lose → HasReasonBy query peer reply
reason_by None peer reply kept = tt
reason_by (Some query) None reply kept = tt
reason_by (Some query) (Some peer) reply kept =
    let client = client_of peer.cookie in
    let known = nat_lt 8 (length peer.cookie) in
    reaches query.way client known reply (lost query (taught_peer peer.server reply) (judged_reply query.way client known reply) kept)

reason_of : (state : CookieState) (server : ℕ) (reply : Option CookieReply) → verdict_read state.peers state.queries server reply ≢ Lose → HasReasonOf state server reply
reason_of state server None kept = tt
reason_of state server (Some reply) kept = reason_by (last_query server reply.id state.queries) (peer_of server state.peers) reply kept

-- a datagram that isn't lost has a reason
has_reason : (state : CookieState) (server : ℕ) (bytes : List ℕ) → verdict_of state.peers state.queries server bytes ≢ Lose → HasReason state server bytes
has_reason state server bytes kept = reason_of state server (reply_in bytes) kept

module _ (server : ℕ) (bytes : List ℕ) (some : bytes ≢ []) where
  -- what the caller is given with bytes is what came, and wasn't lost
  given : (from : ℕ) (came : List ℕ) (verdict : Verdict) (calls : List WorldCall) (old new : CookieState) → Becomes from came verdict (Datagram server bytes) calls old new → (Datagram server bytes ≡ Datagram from came) × (verdict ≢ Lose)
  given from came Pass calls old new b = (b.0, λ is. absurd cc)
  given from came Lose calls old new b = let none : bytes ≡ [] = cc b.0 in absurd (some none)
  given from came (Teach peer) calls old new b = (b.0, λ is. absurd cc)
  given from came (Again peer query sent) calls old new b = absurd (by_outcome b.0 b.1) where
    by_outcome : (outcome : Sent) → Datagram server bytes ≡ given_again from outcome → ⊥
    by_outcome WasSent is = let none : bytes ≡ [] = cc is in some none
    by_outcome NotSent is = absurd cc

  reason_for : (came : Got) (calls : List WorldCall) (old new : CookieState) → Answers came (Datagram server bytes) calls old new → HasReason old server bytes
  reason_for (Datagram from other) calls old new answers =
      let g = given from other (verdict_of old.peers old.queries from other) calls old new answers in
      let here : from ≡ server = cc g.0 in
      let same : other ≡ bytes = cc g.0 in
      has_reason old server bytes (subst (λ (b : List ℕ). verdict_of old.peers old.queries server b ≢ Lose) same (subst (λ (n : ℕ). verdict_of old.peers old.queries n other ≢ Lose) here g.1))
  reason_for (Piece link other) calls old new answers = absurd (cc answers.0)
  reason_for (Ended link) calls old new answers = absurd (cc answers.0)
  reason_for Nothing calls old new answers = absurd (cc answers.0)
  reason_for (LinkFailed from link) calls old new answers = absurd (cc answers.0)

  -- so has each that a receive gives
  pub received_reason : (old : CookieState) (inner : List WorldCall) (new : CookieState) → Makes (Receive (Datagram server bytes)) old inner new → HasReason old server bytes
  received_reason old inner new m = reason_for m.came m.calls (record old { held = None }) m.judged m.answers
