-- No query goes out a third time: what can be sent again is a query that went with a cookie, once, and only a send makes one more.
use Rattle.std.proofs.Common.{◌≡◌, ⊎_elim, ℕ, ◌+◌, ◌≤◌, Bool, true, false, cond, List, [], ◌∷◌, ◌++◌, Option, Some, None, refl, sym, ap, subst, ◌∙◌, arith}
use Rattle.std.specs.Prelude.{nat_eq, nat_lt, length, ⊤}
use Rattle.std.specs.Map.{lookup}
use Rattle.std.specs.Option.{option_to_list}
use Rattle.std.proofs.lemmas.Bool.{eqb-true}
use Rattle.indexmap.specs.IndexMap.{insert_entry}
use Rattle.net_world.specs.declared.answers.Got.{Got}
use Rattle.net_world.specs.declared.answers.Got.TheVariants.{Datagram, Piece, Ended, Nothing, Failed as LinkFailed}
use Rattle.net_world.specs.declared.log.WorldCall.{WorldCall}
use Rattle.net_world.specs.declared.log.WorldCall.TheVariants.{Serve, Now, Word, Send, Connect, Write, Receive, Close, Wait}
use Rattle.dns_cookie.specs.Cookie.{cookied}
use Rattle.dns_cookie.specs.Judging.{judged_reply}
use Rattle.dns_cookie.specs.Reply.{reply_in}
use Rattle.dns_cookie.specs.declared.judging.Judgement.{Judgement}
use Rattle.dns_cookie.specs.declared.judging.Judgement.TheVariants.{HandOn, Discard, Learn, Repeat}
use Rattle.dns_cookie.specs.declared.judging.Way.{Way}
use Rattle.dns_cookie.specs.declared.judging.Way.TheVariants.{Never, Plain, Cookied, Repeated}
use Rattle.dns_cookie.specs.declared.reply.CookieReply.{CookieReply}
use Rattle.dns_cookie.proofs.JudgingLemmas.{are_rules}
use Rattle.cookie_world.specs.Agreement.{Round, IsMade, AreMade, CookieLogsAgree, inner_calls, outer_calls}
use Rattle.cookie_world.specs.Repeats.{counts, sends}
use Rattle.cookie_world.specs.Rounds.{Becomes, Answers, Makes, IsCut, Draws, Holds, draws_of, receiving}
use Rattle.cookie_world.specs.Sending.{noted, wire_of}
use Rattle.cookie_world.specs.State.{CookieState, at_start, last_query, peer_of, query_key, with_noted}
use Rattle.cookie_world.specs.Verdict.{client_of, taught_peer, repeated, again_by, verdict_for, verdict_found, verdict_read, verdict_of}
use Rattle.cookie_world.specs.declared.state.Peer.{Peer}
use Rattle.cookie_world.specs.declared.state.Query.{Query}
use Rattle.cookie_world.specs.declared.verdict.Verdict.{Verdict}
use Rattle.cookie_world.specs.declared.verdict.Verdict.TheVariants.{Pass, Lose, Teach, Again}

-- a query that went in this way may be sent again
abbrev one : Way → ℕ
one Never = 0
one Plain = 0
one Cookied = 1
one Repeated = 0

one_most : (way : Way) → one way ≤ 1
one_most Never = omega arith
one_most Plain = omega arith
one_most Cookied = omega arith
one_most Repeated = omega arith

-- how many of these may be
abbrev open_queries : List (ℕ × Query) → ℕ
open_queries [] = 0
open_queries (entry ∷ entries) = one entry.1.way + open_queries entries

-- each of these stands under the key of its server and identifier
abbrev AreKeyed : List (ℕ × Query) → Type 0
AreKeyed [] = ⊤
AreKeyed (entry ∷ entries) = (entry.0 ≡ query_key entry.1.server entry.1.id) × AreKeyed entries

module _ (key : ℕ) (query : Query) where
  -- with one that is put under a key, one more at most
  put_more : (entries : List (ℕ × Query)) → open_queries (insert_entry nat_eq entries key query) ≤ open_queries entries + one query.way
  put_more [] = omega arith
  put_more (entry ∷ entries) = by_test (nat_eq key entry.0) (put_more entries) where
    by_test : (b : Bool) → open_queries (insert_entry nat_eq entries key query) ≤ open_queries entries + one query.way
        → open_queries (cond b ((entry.0, query) ∷ entries) (entry ∷ insert_entry nat_eq entries key query)) ≤ (one entry.1.way + open_queries entries) + one query.way
    by_test true more = omega arith
    by_test false more = omega (arith, more)

  -- with one that may not be sent again in the place of one that may, one fewer
  put_fewer : one query.way ≡ 0 → (entries : List (ℕ × Query)) (was : Query) → lookup (nat_eq key) entries ≡ Some was → one was.way ≡ 1 → open_queries (insert_entry nat_eq entries key query) + 1 ≤ open_queries entries
  put_fewer none [] was is may = absurd cc
  put_fewer none (entry ∷ entries) was is may = by_test (nat_eq key entry.0) is (λ same. put_fewer none entries was same may) where
    by_test : (b : Bool) → cond b (Some entry.1) (lookup (nat_eq key) entries) ≡ Some was → (lookup (nat_eq key) entries ≡ Some was → open_queries (insert_entry nat_eq entries key query) + 1 ≤ open_queries entries)
        → open_queries (cond b ((entry.0, query) ∷ entries) (entry ∷ insert_entry nat_eq entries key query)) + 1 ≤ one entry.1.way + open_queries entries
    by_test true same fewer =
        let here : entry.1 ≡ was = cc same in
        let first : one entry.1.way ≡ 1 = ap (λ (q : Query). one q.way) here ∙ may in
        omega (arith, first, none)
    by_test false same fewer = omega (arith, fewer same)

  -- one that is put under its own key leaves each under its own
  put_keyed : key ≡ query_key query.server query.id → (entries : List (ℕ × Query)) → AreKeyed entries → AreKeyed (insert_entry nat_eq entries key query)
  put_keyed own [] keyed = (own, tt)
  put_keyed own (entry ∷ entries) keyed = by_test (nat_eq key entry.0) refl (put_keyed own entries keyed.1) where
    by_test : (b : Bool) → nat_eq key entry.0 ≡ b → AreKeyed (insert_entry nat_eq entries key query) → AreKeyed (cond b ((entry.0, query) ∷ entries) (entry ∷ insert_entry nat_eq entries key query))
    by_test true same rest = (sym (eqb-true key entry.0 same) ∙ own, keyed.1)
    by_test false same rest = (keyed.0, rest)

  -- what is found under a key has it
  found_keyed : (entries : List (ℕ × Query)) → AreKeyed entries → lookup (nat_eq key) entries ≡ Some query → key ≡ query_key query.server query.id
  found_keyed [] keyed is = absurd cc
  found_keyed (entry ∷ entries) keyed is = by_test (nat_eq key entry.0) refl is (found_keyed entries keyed.1) where
    by_test : (b : Bool) → nat_eq key entry.0 ≡ b → cond b (Some entry.1) (lookup (nat_eq key) entries) ≡ Some query → (lookup (nat_eq key) entries ≡ Some query → key ≡ query_key query.server query.id) → key ≡ query_key query.server query.id
    by_test true same found rest =
        let here : entry.1 ≡ query = cc found in
        eqb-true key entry.0 same ∙ keyed.0 ∙ ap (λ (q : Query). query_key q.server q.id) here
    by_test false same found rest = rest found

-- a noted query is one more at most
noted_more : (query : Option Query) (queries : List (ℕ × Query)) → open_queries (with_noted query queries) ≤ open_queries queries + 1
noted_more None queries = omega arith
noted_more (Some query) queries = omega (arith, put_more (query_key query.server query.id) query queries, one_most query.way)

-- and stands under its own key
noted_keyed : (query : Option Query) (queries : List (ℕ × Query)) → AreKeyed queries → AreKeyed (with_noted query queries)
noted_keyed None queries keyed = keyed
noted_keyed (Some query) queries keyed = put_keyed (query_key query.server query.id) query refl queries keyed

-- the query that is sent again: the last one with the identifier of a reply, which went with a cookie, once
record IsAsked (server : ℕ) (queries : List (ℕ × Query)) (query : Query) : Type 0 where
  id : ℕ
  was : Query
  last : last_query server id queries ≡ Some was
  cookie : was.way ≡ Cookied
  is : query ≡ repeated was

module _ (server : ℕ) (peer : Peer) (query : Query) (sent : List ℕ) where
  -- a verdict that sends a query again is of a reply that is judged so
  again_for : (was : Query) (taught : Peer) (bytes : Option (List ℕ)) → again_by was taught bytes ≡ Again peer query sent → query ≡ repeated was
  again_for was taught None is = absurd cc
  again_for was taught (Some bytes) is = let same : repeated was ≡ query = cc is in sym same

  repeat_for : (was : Query) (taught : Peer) (judgement : Judgement) → verdict_for was taught judgement ≡ Again peer query sent → (judgement ≡ Repeat) × (query ≡ repeated was)
  repeat_for was taught HandOn is = absurd cc
  repeat_for was taught Discard is = absurd cc
  repeat_for was taught Learn is = absurd cc
  repeat_for was taught Repeat is = (refl, again_for was taught (cookied taught.cookie was.bytes) is)

  asked_found : (queries : List (ℕ × Query)) (reply : CookieReply) (was : Option Query) (from : Option Peer) → last_query server reply.id queries ≡ was → verdict_found was from reply ≡ Again peer query sent → IsAsked server queries query
  asked_found queries reply None from last is = absurd cc
  asked_found queries reply (Some was) None last is = absurd cc
  asked_found queries reply (Some was) (Some from) last is =
      let client = client_of from.cookie in
      let known = nat_lt 8 (length from.cookie) in
      let parts = repeat_for was (taught_peer from.server reply) (judged_reply was.way client known reply) is in
      record { id = reply.id; was = was; last = last; cookie = (are_rules was.way client known reply).once parts.0; is = parts.1 }

  asked_read : (peers : List Peer) (queries : List (ℕ × Query)) (reply : Option CookieReply) → verdict_read peers queries server reply ≡ Again peer query sent → IsAsked server queries query
  asked_read peers queries None is = absurd cc
  asked_read peers queries (Some reply) is = asked_found queries reply (last_query server reply.id queries) (peer_of server peers) refl is

  -- behind a repeat, by one fewer may be sent again
  repeat_fewer : (queries : List (ℕ × Query)) → AreKeyed queries → IsAsked server queries query → open_queries (with_noted (Some query) queries) + 1 ≤ open_queries queries
  repeat_fewer queries keyed asked =
      let key = query_key server asked.id in
      let own : key ≡ query_key query.server query.id = found_keyed key asked.was queries keyed asked.last ∙ ap (λ (q : Query). query_key q.server q.id) (sym asked.is) in
      let none : one query.way ≡ 0 = ap (λ (q : Query). one q.way) asked.is in
      subst (λ (k : ℕ). open_queries (insert_entry nat_eq queries k query) + 1 ≤ open_queries queries) own (put_fewer key query none queries asked.was asked.last (ap one asked.cookie))

sends_more : (some more : List WorldCall) → sends (some ++ more) ≡ sends some + sends more
sends_more [] more = omega arith
sends_more (call ∷ some) more = omega (arith, sends_more some more)

-- drawing words sends nothing
draws_none : (words : List ℕ) → sends (draws_of words) ≡ 0
draws_none [] = refl
draws_none (word ∷ words) = omega (arith, draws_none words)

-- so many sends, and so many queries that may be sent again, and no more
abbrev Spends : List WorldCall → List (ℕ × Query) → ℕ → Type 0
Spends calls queries count = sends calls + open_queries queries ≤ count

-- calls without a send, which leave the queries
spends_none : (calls : List WorldCall) (old new : List (ℕ × Query)) (more : ℕ) → sends calls ≡ 0 → new ≡ old → Spends calls new (open_queries old + more)
spends_none calls old new more none same = let is : open_queries new ≡ open_queries old = ap open_queries same in omega (arith, none, is)

becomes_spends : (server : ℕ) (bytes : List ℕ) (verdict : Verdict) (got : Got) (calls : List WorldCall) (old new : CookieState) → AreKeyed old.queries → verdict_of old.peers old.queries server bytes ≡ verdict → Becomes server bytes verdict got calls old new
    → Spends calls new.queries (open_queries old.queries)
becomes_spends server bytes Pass got calls old new keyed is b = let s = spends_none calls old.queries new.queries 0 (ap sends b.1) (ap (λ (s : CookieState). s.queries) b.2) in omega (arith, s)
becomes_spends server bytes Lose got calls old new keyed is b = let s = spends_none calls old.queries new.queries 0 (ap sends b.1) (ap (λ (s : CookieState). s.queries) b.2) in omega (arith, s)
becomes_spends server bytes (Teach peer) got calls old new keyed is b = let s = spends_none calls old.queries new.queries 0 (ap sends b.1) (ap (λ (s : CookieState). s.queries) b.2) in omega (arith, s)
becomes_spends server bytes (Again peer query sent) got calls old new keyed is b =
    let asked = asked_read server peer query sent old.peers old.queries (reply_in bytes) is in
    let one_send : sends calls ≡ 1 = ap sends b.2 in
    let left : open_queries new.queries ≡ open_queries (with_noted (Some query) old.queries) = ap (λ (s : CookieState). open_queries s.queries) b.3 in
    omega (arith, one_send, left, repeat_fewer server peer query sent old.queries keyed asked)

answers_spends : (came got : Got) (calls : List WorldCall) (old new : CookieState) → AreKeyed old.queries → Answers came got calls old new → Spends calls new.queries (open_queries old.queries)
answers_spends (Datagram server bytes) got calls old new keyed a = becomes_spends server bytes (verdict_of old.peers old.queries server bytes) got calls old new keyed refl a
answers_spends (Piece link bytes) got calls old new keyed a = let s = spends_none calls old.queries new.queries 0 (ap sends a.1) (ap (λ (s : CookieState). s.queries) a.2) in omega (arith, s)
answers_spends (Ended link) got calls old new keyed a = let s = spends_none calls old.queries new.queries 0 (ap sends a.1) (ap (λ (s : CookieState). s.queries) a.2) in omega (arith, s)
answers_spends Nothing got calls old new keyed a = let s = spends_none calls old.queries new.queries 0 (ap sends a.1) (ap (λ (s : CookieState). s.queries) a.2) in omega (arith, s)
answers_spends (LinkFailed server link) got calls old new keyed a = let s = spends_none calls old.queries new.queries 0 (ap sends a.1) (ap (λ (s : CookieState). s.queries) a.2) in omega (arith, s)

receiving_none : (held : Option Got) (came : Got) → sends (receiving held came) ≡ 0
receiving_none None came = refl
receiving_none (Some got) came = refl

-- a send may bring one more query that may be sent again; no other call does
makes_spends : (call : WorldCall) (old : CookieState) (inner : List WorldCall) (new : CookieState) → AreKeyed old.queries → Makes call old inner new → Spends inner new.queries (open_queries old.queries + (counts call + counts call))
makes_spends (Serve server address) old inner new keyed m =
    spends_none inner old.queries new.queries 0 (ap sends m.calls ∙ sends_more (draws_of m.words) (Serve server address ∷ []) ∙ ap (λ n. n + 0) (draws_none m.words)) (ap (λ (s : CookieState). s.queries) m.state)
makes_spends (Now reading) old inner new keyed m = spends_none inner old.queries new.queries 0 (ap sends m.alone) (ap (λ (s : CookieState). s.queries) m.state)
makes_spends (Word word) old inner new keyed m = spends_none inner old.queries new.queries 0 (ap sends m.alone) (ap (λ (s : CookieState). s.queries) m.state)
makes_spends (Send server bytes answer) old inner new keyed m =
    let one_send : sends inner ≡ 1 = ap sends m.calls in
    let left : open_queries new.queries ≡ open_queries (with_noted (noted server bytes (wire_of old.peers server bytes).way) old.queries) = ap (λ (s : CookieState). open_queries s.queries) m.state in
    omega (arith, one_send, left, noted_more (noted server bytes (wire_of old.peers server bytes).way) old.queries)
makes_spends (Connect server link answer) old inner new keyed m = spends_none inner old.queries new.queries 0 (ap sends m.alone) (ap (λ (s : CookieState). s.queries) m.state)
makes_spends (Write link bytes wrote) old inner new keyed m = spends_none inner old.queries new.queries 0 (ap sends m.alone) (ap (λ (s : CookieState). s.queries) m.state)
makes_spends (Receive got) old inner new keyed m =
    let all : sends inner ≡ sends (receiving old.held m.came) + sends m.calls = ap sends m.inner_is ∙ sends_more (receiving old.held m.came) m.calls in
    let left : open_queries new.queries ≡ open_queries m.judged.queries = ap (λ (s : CookieState). open_queries s.queries) m.state in
    omega (arith, all, left, receiving_none old.held m.came, answers_spends m.came got m.calls (record old { held = None }) m.judged keyed m.answers)
makes_spends (Close link) old inner new keyed m = spends_none inner old.queries new.queries 0 (ap sends m.calls) (ap (λ (s : CookieState). s.queries) m.state)
makes_spends (Wait until answer) old inner new keyed m = spends_none inner old.queries new.queries 0 (ap sends m.alone) (ap (λ (s : CookieState). s.queries) m.state)

cut_spends : (old : CookieState) (inner : List WorldCall) (new : CookieState) → IsCut old inner new → Spends inner new.queries (open_queries old.queries + 0)
cut_spends old inner new cut =
    ⊎_elim
    (λ (draws : Draws old inner new). spends_none inner old.queries new.queries 0 (ap sends draws.calls ∙ draws_none draws.words) (ap (λ (s : CookieState). s.queries) draws.state))
    (λ (holds : Holds old inner new). spends_none inner old.queries new.queries 0 (ap sends holds.calls) (ap (λ (s : CookieState). s.queries) holds.state))
    cut

-- each query stands under its own key behind a call too
becomes_keyed : (server : ℕ) (bytes : List ℕ) (verdict : Verdict) (got : Got) (calls : List WorldCall) (old new : CookieState) → AreKeyed old.queries → Becomes server bytes verdict got calls old new → AreKeyed new.queries
becomes_keyed server bytes Pass got calls old new keyed b = subst (λ (s : CookieState). AreKeyed s.queries) (sym b.2) keyed
becomes_keyed server bytes Lose got calls old new keyed b = subst (λ (s : CookieState). AreKeyed s.queries) (sym b.2) keyed
becomes_keyed server bytes (Teach peer) got calls old new keyed b = subst (λ (s : CookieState). AreKeyed s.queries) (sym b.2) keyed
becomes_keyed server bytes (Again peer query sent) got calls old new keyed b = subst (λ (s : CookieState). AreKeyed s.queries) (sym b.3) (noted_keyed (Some query) old.queries keyed)

answers_keyed : (came got : Got) (calls : List WorldCall) (old new : CookieState) → AreKeyed old.queries → Answers came got calls old new → AreKeyed new.queries
answers_keyed (Datagram server bytes) got calls old new keyed a = becomes_keyed server bytes (verdict_of old.peers old.queries server bytes) got calls old new keyed a
answers_keyed (Piece link bytes) got calls old new keyed a = subst (λ (s : CookieState). AreKeyed s.queries) (sym a.2) keyed
answers_keyed (Ended link) got calls old new keyed a = subst (λ (s : CookieState). AreKeyed s.queries) (sym a.2) keyed
answers_keyed Nothing got calls old new keyed a = subst (λ (s : CookieState). AreKeyed s.queries) (sym a.2) keyed
answers_keyed (LinkFailed server link) got calls old new keyed a = subst (λ (s : CookieState). AreKeyed s.queries) (sym a.2) keyed

makes_keyed : (call : WorldCall) (old : CookieState) (inner : List WorldCall) (new : CookieState) → AreKeyed old.queries → Makes call old inner new → AreKeyed new.queries
makes_keyed (Serve server address) old inner new keyed m = subst (λ (s : CookieState). AreKeyed s.queries) (sym m.state) keyed
makes_keyed (Now reading) old inner new keyed m = subst (λ (s : CookieState). AreKeyed s.queries) (sym m.state) keyed
makes_keyed (Word word) old inner new keyed m = subst (λ (s : CookieState). AreKeyed s.queries) (sym m.state) keyed
makes_keyed (Send server bytes answer) old inner new keyed m = subst (λ (s : CookieState). AreKeyed s.queries) (sym m.state) (noted_keyed (noted server bytes (wire_of old.peers server bytes).way) old.queries keyed)
makes_keyed (Connect server link answer) old inner new keyed m = subst (λ (s : CookieState). AreKeyed s.queries) (sym m.state) keyed
makes_keyed (Write link bytes wrote) old inner new keyed m = subst (λ (s : CookieState). AreKeyed s.queries) (sym m.state) keyed
makes_keyed (Receive got) old inner new keyed m = subst (λ (s : CookieState). AreKeyed s.queries) (sym m.state) (answers_keyed m.came got m.calls (record old { held = None }) m.judged keyed m.answers)
makes_keyed (Close link) old inner new keyed m = subst (λ (s : CookieState). AreKeyed s.queries) (sym m.state) keyed
makes_keyed (Wait until answer) old inner new keyed m = subst (λ (s : CookieState). AreKeyed s.queries) (sym m.state) keyed

cut_keyed : (old : CookieState) (inner : List WorldCall) (new : CookieState) → AreKeyed old.queries → IsCut old inner new → AreKeyed new.queries
cut_keyed old inner new keyed cut =
    ⊎_elim
    (λ (draws : Draws old inner new). subst (λ (s : CookieState). AreKeyed s.queries) (sym draws.state) keyed)
    (λ (holds : Holds old inner new). subst (λ (s : CookieState). AreKeyed s.queries) (sym holds.state) keyed)
    cut

round_spends : (outer : Option WorldCall) (old : CookieState) (inner : List WorldCall) (new : CookieState) → AreKeyed old.queries → IsMade outer old inner new
    → Spends inner new.queries (open_queries old.queries + (sends (option_to_list outer) + sends (option_to_list outer))) × AreKeyed new.queries
round_spends None old inner new keyed made = (cut_spends old inner new made, cut_keyed old inner new keyed made)
round_spends (Some call) old inner new keyed made = (omega (arith, makes_spends call old inner new keyed made), makes_keyed call old inner new keyed made)

rounds_spend : (rounds : List Round) (old new : CookieState) → AreKeyed old.queries → AreMade rounds old new → Spends (inner_calls rounds) new.queries (open_queries old.queries + (sends (outer_calls rounds) + sends (outer_calls rounds)))
rounds_spend [] old new keyed made = let same : open_queries new.queries ≡ open_queries old.queries = ap (λ (s : CookieState). open_queries s.queries) made in omega (arith, same)
rounds_spend (round ∷ rounds) old new keyed made =
    let first = round_spends round.outer old round.inner made.0 keyed made.1 in
    let spends = first.0 in
    omega (
      arith,
      sends_more round.inner (inner_calls rounds),
      sends_more (option_to_list round.outer) (outer_calls rounds),
      spends,
      rounds_spend rounds made.0 new first.1 made.2,
    )

-- in all, at most two sends are made of one
pub twice_at_most : (inner outer : List WorldCall) (state : CookieState) → CookieLogsAgree inner outer state → sends inner ≤ sends outer + sends outer
twice_at_most inner outer state agree =
    let all = rounds_spend agree.rounds at_start state tt agree.made in
    omega (arith, ap sends agree.inner_is, ap sends agree.outer_is, all)
