-- How such a network goes on from call to call: its clock never goes back, and what can be received stays there until it is received or its link is closed.
use Rattle.std.proofs.Common.{◌≡◌, ◌≢◌, ℕ, ◌≤◌, ◌⊎◌, inl, inr, Bool, true, false, if◌then◌else◌, not, max, List, [], ◌∷◌, ◌++◌, length, drop, Option, Some, None, refl, sym, subst, arith}
use Rattle.std.specs.List.{AllByRecursion}
use Rattle.std.specs.Prelude.{find, filter_map, ◌==◌}
use Rattle.net_world.specs.Script.{MayCome}
use Rattle.net_world.specs.World.{is_of_link}
use Rattle.net_world.specs.declared.answers.Got.{Got}
use Rattle.net_world.specs.declared.answers.Waited.{Waited}
use Rattle.net_world.specs.declared.answers.Waited.TheVariants.{Woken}
use Rattle.net_world.specs.declared.log.WorldCall.{WorldCall}
use Rattle.net_world.specs.declared.log.WorldCall.TheVariants.{Serve, Now, Word, Send, Connect, Write, Receive, Close, Wait}
use Rattle.test_nameserver.specs.Query.{asked_by}
use Rattle.test_nameserver.specs.Peer.{PeerState, heard_datagram, is_lost, messages_in, question_key}
use Rattle.test_nameserver.specs.PeerCalls.{first_item, has_number, written}
use Rattle.test_nameserver.specs.PeerLog.{Makes}
use Rattle.test_nameserver.specs.declared.links.OpenLink.{OpenLink}
use Rattle.test_nameserver.specs.declared.query.Query.{Query}
use Rattle.test_nameserver.proofs.PeerLemmas.{carried_may_come, each_kept, reply_may_come}

-- what holds of each item but the first holds of each that is left without it
left_may_come : (items : List Got) → AllByRecursion MayCome items → AllByRecursion MayCome (drop 1 items)
left_may_come [] each = each
left_may_come (got ∷ items) each = each.1

-- with more behind them items are some
more_some : {X : Type 0} (xs ys : List X) → xs ≢ [] → xs ++ ys ≢ []
more_some [] ys some = absurd (some refl)
more_some (x ∷ xs) ys some = λ none. absurd (cc none)

reply_some : (lost : Bool) (items : List Got) (got : Got) → items ≢ [] → (if lost then items else items ++ got ∷ []) ≢ []
reply_some true items got some = some
reply_some false items got some = more_some items (got ∷ []) some

-- ---- what is heard of a datagram, and of bytes that are written

module _ (old : PeerState) where
  heard_may_come : (server : ℕ) (query : Option Query) → AllByRecursion MayCome old.items → AllByRecursion MayCome (heard_datagram server query old).items
  heard_may_come server None each = each
  heard_may_come server (Some query) each = reply_may_come (is_lost old.seed old.asked (question_key query.question)) old.items old.items _ _ refl refl tt each

  heard_some : (server : ℕ) (query : Option Query) → old.items ≢ [] → (heard_datagram server query old).items ≢ []
  heard_some server None some = some
  heard_some server (Some query) some = reply_some (is_lost old.seed old.asked (question_key query.question)) old.items _ some

  heard_clock : (server : ℕ) (query : Option Query) → old.clock ≤ (heard_datagram server query old).clock
  heard_clock server None = omega arith
  heard_clock server (Some query) = omega arith

  written_may_come : (link : ℕ) (bytes : List ℕ) (found : Option OpenLink) → AllByRecursion MayCome old.items → AllByRecursion MayCome (written link bytes found old).items
  written_may_come link bytes None each = each
  written_may_come link bytes (Some found) each =
      carried_may_come old.items _ _ old.zone link (filter_map asked_by (messages_in (found.unread ++ bytes)).0) refl refl each

  written_some : (link : ℕ) (bytes : List ℕ) (found : Option OpenLink) → old.items ≢ [] → (written link bytes found old).items ≢ []
  written_some link bytes None some = some
  written_some link bytes (Some found) some = more_some old.items _ some

  written_clock : (link : ℕ) (bytes : List ℕ) (found : Option OpenLink) → old.clock ≤ (written link bytes found old).clock
  written_clock link bytes None = omega arith
  written_clock link bytes (Some found) = omega arith

  waited_clock : (until : ℕ) (none : Bool) → old.clock ≤ (if none then max old.clock until else old.clock)
  waited_clock until true = omega arith
  waited_clock until false = omega arith

-- what can be received behind a call may come
pub still_may_come : (call : WorldCall) (old new : PeerState) → Makes call old new → AllByRecursion MayCome old.items → AllByRecursion MayCome new.items
still_may_come (Serve server address) old new made each = subst (λ (s : PeerState). AllByRecursion MayCome s.items) (sym made) each
still_may_come (Now reading) old new made each = subst (λ (s : PeerState). AllByRecursion MayCome s.items) (sym made.state) each
still_may_come (Word word) old new made each = subst (λ (s : PeerState). AllByRecursion MayCome s.items) (sym made.state) each
still_may_come (Send server bytes outcome) old new made each =
    subst (λ (s : PeerState). AllByRecursion MayCome s.items) (sym made.state) (heard_may_come old server (asked_by bytes) each)
still_may_come (Connect server link outcome) old new made each = subst (λ (s : PeerState). AllByRecursion MayCome s.items) (sym made.state) each
still_may_come (Write link bytes outcome) old new made each =
    subst (λ (s : PeerState). AllByRecursion MayCome s.items) (sym made.state) (written_may_come old link bytes (find (has_number link) old.links) each)
still_may_come (Receive got) old new made each = subst (λ (s : PeerState). AllByRecursion MayCome s.items) (sym made.state) (left_may_come old.items each)
still_may_come (Close link) old new made each =
    subst (λ (s : PeerState). AllByRecursion MayCome s.items) (sym made.state) (each_kept MayCome (λ got. not (is_of_link link got)) old.items each)
still_may_come (Wait until outcome) old new made each = subst (λ (s : PeerState). AllByRecursion MayCome s.items) (sym made.state) each

-- the clock doesn't go back with a call
pub clock_goes_on : (call : WorldCall) (old new : PeerState) → Makes call old new → old.clock ≤ new.clock
clock_goes_on (Serve server address) old new made = subst (λ (s : PeerState). old.clock ≤ s.clock) (sym made) (omega arith)
clock_goes_on (Now reading) old new made = subst (λ (s : PeerState). old.clock ≤ s.clock) (sym made.state) (omega arith)
clock_goes_on (Word word) old new made = subst (λ (s : PeerState). old.clock ≤ s.clock) (sym made.state) (omega arith)
clock_goes_on (Send server bytes outcome) old new made = subst (λ (s : PeerState). old.clock ≤ s.clock) (sym made.state) (heard_clock old server (asked_by bytes))
clock_goes_on (Connect server link outcome) old new made = subst (λ (s : PeerState). old.clock ≤ s.clock) (sym made.state) (omega arith)
clock_goes_on (Write link bytes outcome) old new made =
    subst (λ (s : PeerState). old.clock ≤ s.clock) (sym made.state) (written_clock old link bytes (find (has_number link) old.links))
clock_goes_on (Receive got) old new made = subst (λ (s : PeerState). old.clock ≤ s.clock) (sym made.state) (omega arith)
clock_goes_on (Close link) old new made = subst (λ (s : PeerState). old.clock ≤ s.clock) (sym made.state) (omega arith)
clock_goes_on (Wait until outcome) old new made = subst (λ (s : PeerState). old.clock ≤ s.clock) (sym made.state) (waited_clock old until (length old.items == 0))

-- the call receives, or closes a link
abbrev pub may_take : WorldCall → Bool
may_take (Serve server address) = false
may_take (Now reading) = false
may_take (Word word) = false
may_take (Send server bytes outcome) = false
may_take (Connect server link outcome) = false
may_take (Write link bytes outcome) = false
may_take (Receive got) = true
may_take (Close link) = true
may_take (Wait until outcome) = false

-- with another call what can be received stays
pub stays_some : (call : WorldCall) (old new : PeerState) → may_take call ≡ false → Makes call old new → old.items ≢ [] → new.items ≢ []
stays_some (Serve server address) old new takes made some = subst (λ (s : PeerState). s.items ≢ []) (sym made) some
stays_some (Now reading) old new takes made some = subst (λ (s : PeerState). s.items ≢ []) (sym made.state) some
stays_some (Word word) old new takes made some = subst (λ (s : PeerState). s.items ≢ []) (sym made.state) some
stays_some (Send server bytes outcome) old new takes made some = subst (λ (s : PeerState). s.items ≢ []) (sym made.state) (heard_some old server (asked_by bytes) some)
stays_some (Connect server link outcome) old new takes made some = subst (λ (s : PeerState). s.items ≢ []) (sym made.state) some
stays_some (Write link bytes outcome) old new takes made some =
    subst (λ (s : PeerState). s.items ≢ []) (sym made.state) (written_some old link bytes (find (has_number link) old.links) some)
stays_some (Receive got) old new takes made some = absurd (cc takes)
stays_some (Close link) old new takes made some = absurd (cc takes)
stays_some (Wait until outcome) old new takes made some = subst (λ (s : PeerState). s.items ≢ []) (sym made.state) some

-- ---- waits and receives

-- no item is there, by their number
none_by : (items : List Got) → (length items == 0) ≡ false → items ≢ []
none_by [] is = absurd (cc is)
none_by (got ∷ items) is = λ none. absurd (cc none)

-- a wait is woken
pub is_woken : (until : ℕ) (old new : PeerState) (waited : Waited) → Makes (Wait until waited) old new → waited ≡ Woken
is_woken until old new waited made = made.answer

-- and behind it something can be received, or the clock has come to the moment
pub woken_well : (until : ℕ) (old new : PeerState) (waited : Waited) → Makes (Wait until waited) old new → (new.items ≢ []) ⊎ (until ≤ new.clock)
woken_well until old new waited made = subst (λ (s : PeerState). (s.items ≢ []) ⊎ (until ≤ s.clock)) (sym made.state) (by (length old.items == 0) refl)
  where
    by : (none : Bool) → (length old.items == 0) ≡ none → (old.items ≢ []) ⊎ (until ≤ (if none then max old.clock until else old.clock))
    by true is = inr (omega arith)
    by false is = inl (none_by old.items is)

-- both of a wait
pub waits_well : (until : ℕ) (old new : PeerState) (waited : Waited) → Makes (Wait until waited) old new → (waited ≡ Woken) × ((new.items ≢ []) ⊎ (until ≤ new.clock))
waits_well until old new waited made = (is_woken until old new waited made, woken_well until old new waited made)

-- where something can be received, what is received is something
pub receives_some : (got : Got) (old new : PeerState) → Makes (Receive got) old new → AllByRecursion MayCome old.items → old.items ≢ [] → MayCome got
receives_some got old new made each some = subst MayCome (sym made.answer) (by old.items each some)
  where
    by : (items : List Got) → AllByRecursion MayCome items → items ≢ [] → MayCome (first_item items)
    by [] each some = absurd (some refl)
    by (got ∷ items) each some = each.0
