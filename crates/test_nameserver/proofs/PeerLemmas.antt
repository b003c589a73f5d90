-- Replies that can be received, and what is heard of a datagram.
use Rattle.std.proofs.Common.{◌≡◌, ℕ, Bool, true, false, cond, if◌then◌else◌, List, [], ◌∷◌, ◌++◌, length, map, filter, Option, Some, None, refl, ap, sym, subst, ◌∙◌, arith}
use Rattle.std.specs.Prelude.{find, option_map}
use Rattle.std.specs.List.{AllByRecursion}
use Rattle.net_world.specs.declared.answers.Got.{Got}
use Rattle.net_world.specs.declared.answers.Got.TheVariants.{Datagram}
use Rattle.net_world.specs.Script.{MayCome}
use Rattle.dns_message.specs.declared.message.Record.{Record}
use Rattle.test_nameserver.specs.declared.query.Query.{Query}
use Rattle.net_world.specs.declared.log.WorldCall.{WorldCall}
use Rattle.test_nameserver.specs.Reply.{reply_bytes}
use Rattle.test_nameserver.specs.Peer.{PeerState, link_reply, question_key, noted, is_lost, heard_datagram}
use Rattle.test_nameserver.specs.Query.{asked_by}
use Rattle.test_nameserver.specs.PeerCalls.{Sends, WritesAll, has_number, logged, written}
use Rattle.test_nameserver.specs.declared.links.OpenLink.{OpenLink}
use Rattle.net_world.specs.declared.answers.Sent.TheVariants.{Sent as WasSent}
use Rattle.net_world.specs.declared.log.WorldCall.TheVariants.{Send, Write}
use Rattle.net_world.specs.declared.answers.Wrote.TheVariants.{Count}

module _ {X : Type 0} (P : X → Type 0) where
  -- what holds of each of two lists holds of each of both together
  pub each_both : (xs ys : List X) → AllByRecursion P xs → AllByRecursion P ys → AllByRecursion P (xs ++ ys)
  each_both [] ys first second = second
  each_both (x ∷ xs) ys first second = (first.0, each_both xs ys first.1 second)

  kept_by : (test : X → Bool) (b : Bool) (x : X) (xs : List X) → P x → AllByRecursion P (filter test xs) → AllByRecursion P (cond b (x ∷ filter test xs) (filter test xs))
  kept_by test true x xs here rest = (here, rest)
  kept_by test false x xs here rest = rest

  -- and of each that is kept
  pub each_kept : (test : X → Bool) (xs : List X) → AllByRecursion P xs → AllByRecursion P (filter test xs)
  each_kept test [] each = each
  each_kept test (x ∷ xs) each = kept_by test (test x) x xs each.0 (each_kept test xs each.1)

-- replies over a link may come
pub replies_may_come : (zone : List Record) (link : ℕ) (queries : List Query) → AllByRecursion MayCome (map (link_reply zone link) queries)
replies_may_come zone link [] = tt
replies_may_come zone link (query ∷ queries) = (omega arith, replies_may_come zone link queries)

-- so may what stood before, with replies over a link
pub carried_may_come : (old new gots : List Got) (zone : List Record) (link : ℕ) (queries : List Query) → new ≡ old ++ gots → gots ≡ map (link_reply zone link) queries → AllByRecursion MayCome old → AllByRecursion MayCome new
carried_may_come old new gots zone link queries is are each = rw (is, are) (each_both MayCome old (map (link_reply zone link) queries) each (replies_may_come zone link queries))

-- a query of a datagram that was noted and answered by its parts is what the network hears
pub datagram_heard : (old : PeerState) (server : ℕ) (query : Query) (call : WorldCall) (keys : List (List ℕ)) (key : List ℕ) (before : List Got) (reply : List ℕ) (asked : List (List ℕ)) (items : List Got) (log : List WorldCall)
    → keys ≡ old.asked → key ≡ question_key query.question → before ≡ old.items → reply ≡ reply_bytes old.zone query false
    → asked ≡ noted keys key → items ≡ (if is_lost old.seed keys key then before else before ++ Datagram server reply ∷ []) → log ≡ old.log ++ call ∷ []
    → let new : PeerState = record old { asked = asked; items = items; log = log } in new ≡ logged call (heard_datagram server (Some query) old)
datagram_heard old server query call keys key before reply asked items log same_keys same_key same_items same_reply is_asked are_items is_log =
    let all_asked : asked ≡ noted old.asked (question_key query.question) = is_asked ∙ ap (λ (l : List (List ℕ)). noted l key) same_keys ∙ ap (noted old.asked) same_key in
    let all_items : items ≡ (if is_lost old.seed old.asked (question_key query.question) then old.items else old.items ++ Datagram server (reply_bytes old.zone query false) ∷ []) =
    are_items ∙ ap (λ (l : List (List ℕ)). if is_lost old.seed l key then before else before ++ Datagram server reply ∷ []) same_keys
    ∙ ap (λ (l : List ℕ). if is_lost old.seed old.asked l then before else before ++ Datagram server reply ∷ []) same_key
    ∙ ap (λ (l : List Got). if is_lost old.seed old.asked (question_key query.question) then l else l ++ Datagram server reply ∷ []) same_items
    ∙ ap (λ (l : List ℕ). if is_lost old.seed old.asked (question_key query.question) then old.items else old.items ++ Datagram server l ∷ []) same_reply in
    λ i. record old { asked = all_asked i; items = all_items i; log = is_log i }

-- a datagram that was sent, whose query was noted and answered by its parts
pub datagram_sent : (old : PeerState) (server : ℕ) (bytes : List ℕ) (query : Query) (call : WorldCall) (keys : List (List ℕ)) (key : List ℕ) (before : List Got) (reply : List ℕ) (asked : List (List ℕ)) (items : List Got) (log : List WorldCall)
    → asked_by bytes ≡ Some query → call ≡ Send server bytes WasSent
    → keys ≡ old.asked → key ≡ question_key query.question → before ≡ old.items → reply ≡ reply_bytes old.zone query false
    → asked ≡ noted keys key → items ≡ (if is_lost old.seed keys key then before else before ++ Datagram server reply ∷ []) → log ≡ old.log ++ call ∷ []
    → let new : PeerState = record old { asked = asked; items = items; log = log } in Sends server bytes old new WasSent
datagram_sent old server bytes query call keys key before reply asked items log is_query is_call same_keys same_key same_items same_reply is_asked are_items is_log = record {
  answer = refl;
  state =
      datagram_heard old server query call keys key before reply asked items log same_keys same_key same_items same_reply is_asked are_items is_log
      ∙ ap (λ (found : Option Query). logged call (heard_datagram server found old)) (sym is_query)
      ∙ ap (λ (made : WorldCall). logged made (heard_datagram server (asked_by bytes) old)) is_call;
}

-- one that is no query is heard by nobody
pub sent_aside : (old : PeerState) (server : ℕ) (bytes : List ℕ) (call : WorldCall) (log : List WorldCall) → asked_by bytes ≡ None → call ≡ Send server bytes WasSent → log ≡ old.log ++ call ∷ []
    → Sends server bytes old (record old { log = log }) WasSent
sent_aside old server bytes call log none is_call is_log = record {
  answer = refl;
  state =
      ap (λ (l : List WorldCall). record old { log = l }) (is_log ∙ ap (λ (made : WorldCall). old.log ++ made ∷ []) is_call)
      ∙ ap (λ (found : Option Query). logged (Send server bytes WasSent) (heard_datagram server found old)) (sym none);
}

-- what was received may come, and so may it with a reply, unless that is to a query that is lost
pub reply_may_come : (lost : Bool) (old before items : List Got) (got : Got) → before ≡ old → items ≡ (if lost then before else before ++ got ∷ []) → MayCome got → AllByRecursion MayCome old → AllByRecursion MayCome items
reply_may_come true old before items got same are may each = subst (AllByRecursion MayCome) (sym (are ∙ same)) each
reply_may_come false old before items got same are may each =
    subst (AllByRecursion MayCome) (sym (are ∙ ap (λ (gots : List Got). gots ++ got ∷ []) same)) (each_both MayCome old (got ∷ []) each (may, tt))

-- bytes that are written to a link that isn't open are heard by nobody
pub written_aside : (link : ℕ) (bytes : List ℕ) (found : Option OpenLink) (old : PeerState) (call : WorldCall) (log : List WorldCall) → found ≡ find (has_number link) old.links
    → option_map (λ open_link. open_link.unread ++ bytes) found ≡ None → call ≡ Write link bytes (Count (length bytes)) → log ≡ old.log ++ call ∷ []
    → WritesAll link bytes old (record old { log = log }) (Count (length bytes))
written_aside link bytes None old call log is none is_call is_log = record {
  answer = refl;
  state =
      ap (λ (l : List WorldCall). record old { log = l }) (is_log ∙ ap (λ (made : WorldCall). old.log ++ made ∷ []) is_call)
      ∙ ap (λ (found : Option OpenLink). logged (Write link bytes (Count (length bytes))) (written link bytes found old)) is;
}
written_aside link bytes (Some found) old call log is none is_call is_log = absurd (cc none)
