-- The answers that are called for, by the network's calls alone.
use Rattle.std.proofs.Common.{◌≡◌, ◌≢◌, ℕ, ◌==◌, ◌&&◌, List, [], ◌∷◌, ◌++◌, refl, sym, ap, ap₂, subst, ◌∙◌, map, Bool, true, false, if◌then◌else◌, inl, inr, arith, eqb-true}
use Rattle.std.specs.Bool.{then_some}
use Rattle.std.specs.Cmp.Lexicographic.{bytes_decides, pointwise_decides}
use Rattle.std.specs.List.{AllByRecursion, Contains, list_all}
use Rattle.std.specs.Option.{option_map_or}
use Rattle.std.specs.Prelude.{Err, IfOk, None, Ok, Option, Result, Some, filter, find, flat_map, is_some, option_and_then, option_map, slice_get, unwrap_or, ◌⊎◌, ⊤}
use Rattle.std.specs.Char.{to_ascii_lowercase}
use Rattle.std.proofs.lemmas.List.{append_assoc}
use mathlib.Core.List.{IsPrefix}
use Rattle.chan_types.specs.declared.answer.Answer.{Answer}
use Rattle.chan_types.specs.declared.journal.Entry.{Entry}
use Rattle.chan_types.specs.declared.journal.What.{What}
use Rattle.chan_types.specs.declared.journal.What.TheVariants.{Arrive}
use Rattle.chan_types.specs.declared.spec.Spec.{Spec}
use Rattle.chan_types.specs.declared.spec.Spec.TheVariants.{Address, Query, Reverse, Search}
use Rattle.chan_types.specs.declared.status.Status.{Status}
use Rattle.dns_message.specs.Mixing.{mixed_question}
use Rattle.dns_message.specs.Name.{same_name}
use Rattle.dns_message.specs.Numbers.{is_response, is_standard}
use Rattle.dns_message.specs.Question.{same_question}
use Rattle.dns_message.specs.Spelling.{message_bytes}
use Rattle.dns_message.specs.declared.message.Message.{Message}
use Rattle.dns_message.specs.declared.message.Question.{Question}
use Rattle.dns_message.specs.declared.name.Name.{Name}
use Rattle.net_addr.specs.declared.addr.Family.{Family}
use Rattle.dns_message.proofs.Theorems.{mixed_is_same, same_name_says, same_question_says}
use Rattle.net_world.specs.declared.log.WorldCall.{WorldCall}
use Rattle.channel_model.specs.Completion.{fate, requests, waiting_of, is_idle, legs_at, pending}
use Rattle.channel_model.specs.Course.{IsCourse}
use Rattle.channel_model.specs.Flight.{Attempt, answers, asked_question, asked_with, asks_only, begun_by, equal_name, repeats}
use Rattle.channel_model.specs.Journal.{Accepted, Past, accepted, followed_by, past_of, spec_of}
use Rattle.channel_model.specs.Lawful.{IsLawfulPast, first}
use Rattle.channel_model.specs.Legs.{Leg, candidate_of, leg_of, legs_of}
use Rattle.channel_model.specs.Past.{closings, offered_size, query_for, query_of}
use Rattle.channel_model.specs.Questions.{candidates_of, question_for, question_of, wanted_kind}
use Rattle.channel_model.specs.Replies.{Reply, read_reply}
use Rattle.channel_model.specs.Search.{Stand, answer_of_search, asking, goes_on, over, search_answer, stand_of}
use Rattle.channel_model.specs.Setting.{Setting}
use Rattle.channel_model.specs.Traffic.{query_bytes}
use Rattle.channel_model.proofs.Theorems.{flies_by_position}
use Rattle.channel_model.proofs.Theorems.{followed_by-append, spec_of-later, start_allowed}
use Rattle.net_world.specs.Logs.{LogGets}
use Rattle.tool_line.specs.declared.ending.Exit.TheVariants.{OutOfMemory}
use Rattle.adig_tool.specs.Answered.{AreAnswered, IsAnswered, IsMeantBy, IsQuestionOf, WasExchanged, opens_no_link, status_meant}
use Rattle.adig_tool.specs.Entries.{first_request, is_own, is_steady}
use Rattle.tool_line.specs.Outside.{Outside}
use Rattle.adig_tool.specs.Running.{Comes, setting_with}
use Rattle.resolv_options.specs.Values.{OptionValues}
use Rattle.tool_line.specs.declared.files.FileFault.{FileFault as FaultOfFile}
use Rattle.adig_tool.specs.Output.{book_of, page_for, text_at}
use Rattle.tool_line.specs.Put.{PutsText}
use Rattle.adig_tool.specs.Promise.{IsTraffic, Promise}
use Rattle.owner_laws.specs.Sessions.{longest_slice}
use Rattle.run_end.specs.declared.ended.Ended.{Ended}
use Rattle.owner_laws.proofs.ListLemmas.{heads, tails}
use Rattle.event_runner.proofs.Theorems.{told_as}
use Rattle.adig_tool.proofs.ExchangeLemmas.{exchanged}
use Rattle.adig_tool.proofs.ListLemmas.{both_hold, item_passes, one_at_most, three_hold, two_pass}
use Rattle.adig_tool.proofs.ReplyLemmas.{ToldStatus, replied, search_tells, searched}
use Rattle.adig_tool.proofs.SentLemmas.{no_fault}

-- the request isn't one for addresses
abbrev IsAsk : Spec → Type 0
IsAsk (Query text kind class) = ⊤
IsAsk (Search text kind class) = ⊤
IsAsk (Address host family nosort) = ⊥
IsAsk (Reverse address) = ⊤

-- ---- entries of a past, in its journal

-- what happened stands in the journal, or in the past before it
record Stands (past : Past) (journal : List Entry) (what : What) (older : Past) : Type 0 where
  front : List Entry
  entry : Entry
  back : List Entry
  parts : journal ≡ front ++ entry ∷ back
  is : entry.what ≡ what
  older_is : followed_by past front ≡ older

stands : (past : Past) (journal : List Entry) (newer : List What) (what : What) (older : Past) → followed_by past journal ≡ newer ++ what ∷ older →
    ((before : List What) × (past ≡ before ++ what ∷ older)) ⊎ Stands past journal what older
stands past [] newer what older is = inl (newer, is)
stands past (e ∷ journal) newer what older is = by (stands (e.what ∷ past) journal newer what older is)
  where
    now : (before : List What) → e.what ∷ past ≡ before ++ what ∷ older → ((b : List What) × (past ≡ b ++ what ∷ older)) ⊎ Stands past (e ∷ journal) what older
    now [] h = inr (record { front = []; entry = e; back = journal; parts = refl; is = heads e.what what past older h; older_is = tails e.what what past older h })
    now (w ∷ before) h = inl (before, tails e.what w past (before ++ what ∷ older) h)

    by : ((before : List What) × (e.what ∷ past ≡ before ++ what ∷ older)) ⊎ Stands (e.what ∷ past) journal what older → ((b : List What) × (past ≡ b ++ what ∷ older)) ⊎ Stands past (e ∷ journal) what older
    by (inl a) = now a.0 a.1
    by (inr s) = inr (record { front = e ∷ s.front; entry = s.entry; back = s.back; parts = ap (λ l. e ∷ l) s.parts; is = s.is; older_is = s.older_is })

-- in a journal from its beginning on it stands there
stands_there : (journal : List Entry) (newer : List What) (what : What) (older : Past) → past_of journal ≡ newer ++ what ∷ older → Stands [] journal what older
stands_there journal newer what older is = by (stands [] journal newer what older is)
  where
    none : (before : List What) → [] ≡ before ++ what ∷ older → Stands [] journal what older
    none [] h = absurd (cc h)
    none (w ∷ before) h = absurd (cc h)

    by : ((before : List What) × ([] ≡ before ++ what ∷ older)) ⊎ Stands [] journal what older → Stands [] journal what older
    by (inl a) = none a.0 a.1
    by (inr s) = s

-- ---- what a request asks

-- it stays
spec_stays : (request : ℕ) (newer : List What) (older : Past) (spec : Spec) → spec_of request older ≡ Some spec → spec_of request (newer ++ older) ≡ Some spec
spec_stays request [] older spec is = is
spec_stays request (what ∷ newer) older spec is = spec_of-later request what (newer ++ older) spec (spec_stays request newer older spec is)

-- it is that of the one request
spec_first : (spec s : Spec) (past : Past) (request : ℕ) → IsPrefix (accepted past) (first_request spec ∷ []) → spec_of request past ≡ Some s → s ≡ spec
spec_first spec s past request at_most is = by (one_at_most (first_request spec) (accepted past) at_most)
  where
    of : (b : Bool) → option_map (λ r. r.spec) (if b then Some (first_request spec) else None) ≡ Some s → s ≡ spec
    of true h = (let e : Some spec ≡ Some s = h in cc)
    of false h = absurd (cc h)

    by : (accepted past ≡ []) ⊎ (accepted past ≡ first_request spec ∷ []) → s ≡ spec
    by (inl none) = absurd (let h : None ≡ Some s = subst (λ rs. option_map (λ (r : Accepted). r.spec) (find (λ r. r.number == request) rs) ≡ Some s) none is in cc)
    by (inr one) = of (1 == request) (subst (λ rs. option_map (λ (r : Accepted). r.spec) (find (λ r. r.number == request) rs) ≡ Some s) one is)

-- a request whose search has an answer was accepted
asks_some : (setting : Setting) (request : ℕ) (past : Past) (answer : Answer) → search_answer setting request past ≡ Some answer → (s : Spec) × (spec_of request past ≡ Some s)
asks_some setting request past answer is = by (spec_of request past) refl is
  where
    by : (found : Option Spec) → spec_of request past ≡ found → option_and_then (answer_of_search setting request past) found ≡ Some answer → (s : Spec) × (spec_of request past ≡ Some s)
    by None none h = absurd (cc h)
    by (Some s) it h = (s, it)

-- the first of several lists' items is the first of one
first_of : (f : ℕ → List Leg) (ns : List ℕ) (leg : Leg) → first (flat_map f ns) ≡ Some leg → (n : ℕ) × (rest : List Leg) × (f n ≡ leg ∷ rest)
first_of f [] leg is = absurd (cc is)
first_of f (n ∷ ns) leg is = by (f n) refl (λ h. first_of f ns leg h) is
  where
    by : (xs : List Leg) → f n ≡ xs → (first (flat_map f ns) ≡ Some leg → (n : ℕ) × (rest : List Leg) × (f n ≡ leg ∷ rest)) → first (xs ++ flat_map f ns) ≡ Some leg → (n : ℕ) × (rest : List Leg) × (f n ≡ leg ∷ rest)
    by [] it later h = later h
    by (x ∷ xs) it later h = (n, xs, it ∙ ap (λ y. y ∷ xs) (let e : Some x ≡ Some leg = h in cc))

-- a leg of a candidate
abbrev IsLegOf : Spec → ℕ → ℕ → Type 0
IsLegOf spec c number = Contains (legs_of spec c) number × (candidate_of number ≡ c)

-- each of a candidate's legs is one
each_leg : (spec : Spec) (c : ℕ) → AllByRecursion (IsLegOf spec c) (legs_of spec c)
each_leg (Query text kind class) c = (((0, omega arith, refl), omega arith), tt)
each_leg (Search text kind class) c = (((0, omega arith, refl), omega arith), tt)
each_leg (Address host Family.Any nosort) c = (((0, omega arith, refl), omega arith), (((1, omega arith, refl), omega arith), tt))
each_leg (Address host Family.V4 nosort) c = (((0, omega arith, refl), omega arith), tt)
each_leg (Address host Family.V6 nosort) c = (((0, omega arith, refl), omega arith), tt)
each_leg (Reverse address) c = (((0, omega arith, refl), omega arith), tt)

-- what a test leaves of these legs of a request is of the request, and one of them
kept_leg : (request : ℕ) (test : Leg → Bool) (P : ℕ → Type 0) (ns : List ℕ) (leg : Leg) (rest : List Leg) → AllByRecursion P ns → filter test (map (leg_of request) ns) ≡ leg ∷ rest →
    (request ≡ leg.request) × P leg.number
kept_leg request test P [] leg rest each h = absurd (cc h)
kept_leg request test P (n ∷ ns) leg rest each h = pass (test (leg_of request n)) (λ k. kept_leg request test P ns leg rest each.1 k) h
  where
    pass : (b : Bool) → (filter test (map (leg_of request) ns) ≡ leg ∷ rest → (request ≡ leg.request) × P leg.number) →
        (if b then leg_of request n ∷ filter test (map (leg_of request) ns) else filter test (map (leg_of request) ns)) ≡ leg ∷ rest → (request ≡ leg.request) × P leg.number
    pass true later k =
        let same : leg_of request n ≡ leg = heads (leg_of request n) leg (filter test (map (leg_of request) ns)) rest k in
        (ap (λ l. l.request) same, subst P (ap (λ l. l.number) same) each.0)
    pass false later k = later k

-- a leg that waits is its request's, and one of its current candidate's
record IsAskedBy (spec : Spec) (request : ℕ) (leg : Leg) : Type 0 where
  candidate : ℕ
  own : request ≡ leg.request
  is_leg : IsLegOf spec candidate leg.number

stand_leg : (setting : Setting) (past : Past) (request : ℕ) (s : Spec) (leg : Leg) (rest : List Leg) (stand : Stand) → filter (is_idle setting past) (legs_at setting request s stand) ≡ leg ∷ rest → IsAskedBy s request leg
stand_leg setting past request s leg rest (asking c) h =
    let k = kept_leg request (is_idle setting past) (IsLegOf s c) (legs_of s c) leg rest (each_leg s c) h in
    record { candidate = c; own = k.0; is_leg = k.1 }
stand_leg setting past request s leg rest (over a) h = absurd (cc h)

-- a request of which a leg waits was accepted
record Accepts (past : Past) (leg : Leg) : Type 0 where
  spec : Spec
  asks : spec_of leg.request past ≡ Some spec
  candidate : ℕ
  is_leg : IsLegOf spec candidate leg.number

leg_of_spec : (setting : Setting) (past : Past) (request : ℕ) (leg : Leg) (rest : List Leg) → waiting_of setting past request ≡ leg ∷ rest → Accepts past leg
leg_of_spec setting past request leg rest is = by (spec_of request past) refl is
  where
    by : (found : Option Spec) → spec_of request past ≡ found →
        filter (is_idle setting past) (unwrap_or (option_map (λ spec. legs_at setting request spec (stand_of setting request spec past)) found) []) ≡ leg ∷ rest → Accepts past leg
    by None none h = absurd (cc h)
    by (Some s) it h =
        let k = stand_leg setting past request s leg rest (stand_of setting request s past) h in
        record { spec = s; asks = subst (λ n. spec_of n past ≡ Some s) k.own it; candidate = k.candidate; is_leg = k.is_leg }

-- an attempt that may start is of an accepted request
started_spec : (setting : Setting) (past : Past) (what : What) (a : Attempt) → IsLawfulPast setting (what ∷ past) → begun_by what ≡ Some a → Accepts past a.leg
started_spec setting past what a lawful begun =
    let may = start_allowed setting past what a lawful.0 begun in
    let f = first_of (waiting_of setting past) (pending setting past) a.leg may.waits in
    leg_of_spec setting past f.0 a.leg f.1 f.2

-- ---- what answers a query

-- a value behind two tests
option_of : (found : Option Reply) (test : Reply → Bool) (reply : Reply) → option_and_then (λ r. then_some (test r) r) found ≡ Some reply → (found ≡ Some reply) × (test reply ≡ true)
option_of None test reply is = absurd (cc is)
option_of (Some r) test reply is = by (test r) refl is
  where
    by : (b : Bool) → test r ≡ b → then_some b r ≡ Some reply → (Some r ≡ Some reply) × (test reply ≡ true)
    by true it h = let same : r ≡ reply = (let e : Some r ≡ Some reply = h in cc) in (ap Some same, subst (λ x. test x ≡ true) same it)
    by false it h = absurd (cc h)

-- names that are equal are the same, and so are names that are repeated
name_same : (exact : Bool) (name other : Name) → (if exact then equal_name name other else same_name name other) ≡ true → same_name name other ≡ true
name_same true name other is = (same_name_says name other).1 (ap (map (map to_ascii_lowercase)) ((pointwise_decides bytes_decides name other).0 is))
name_same false name other is = is

-- a question that repeats the one that was asked is the same
question_same : (exact : Bool) (question asked : Question) → repeats exact question asked ≡ true → same_question question asked ≡ true
question_same exact question asked is =
    let outer = both_hold ((if exact then equal_name question.name asked.name else same_name question.name asked.name) && (question.kind == asked.kind)) (question.class == asked.class) is in
    let inner = both_hold (if exact then equal_name question.name asked.name else same_name question.name asked.name) (question.kind == asked.kind) outer.0 in
    rw (name_same exact question.name asked.name inner.0, inner.1, outer.1) refl

-- the one question of a message that asks it alone
record AsksOne (questions : List Question) (asked : Option Question) : Type 0 where
  question : Question
  wanted : Question
  questions_are : questions ≡ question ∷ []
  asked_is : asked ≡ Some wanted
  same : same_question question wanted ≡ true

asks_one : (exact : Bool) (asked : Option Question) (questions : List Question) → asks_only exact asked questions ≡ true → AsksOne questions asked
asks_one exact None questions h = absurd (cc h)
asks_one exact (Some asked) [] h = absurd (cc h)
asks_one exact (Some asked) (question ∷ []) h = record { question = question; wanted = asked; questions_are = refl; asked_is = refl; same = question_same exact question asked h }
asks_one exact (Some asked) (question ∷ another ∷ rest) h = absurd (cc h)

-- a value that was made of another
made_of : {A B : Type 0} (f : A → B) (found : Option A) (b : B) → option_map f found ≡ Some b → (a : A) × (found ≡ Some a) × (f a ≡ b)
made_of f None b is = absurd (cc is)
made_of f (Some a) b is = (a, refl, (let e : Some (f a) ≡ Some b = is in cc))

-- a query has its identifier and its question
query_shape : (id : ℕ) (question : Question) (norecurse : Bool) (size : Option ℕ) → ((query_for id question norecurse size).id ≡ id) × ((query_for id question norecurse size).questions ≡ question ∷ [])
query_shape id question norecurse None = (refl, refl)
query_shape id question norecurse (Some size) = (refl, refl)

-- a question in any case of letters is the same
asked_same : (mix : Option ℕ) (question : Question) → same_question (asked_with mix question) question ≡ true
asked_same None question = (same_question_says question question).1 (record { name = refl; kind = refl; class = refl })
asked_same (Some bits) question = (same_question_says (mixed_question bits question) question).1 (record { name = mixed_is_same bits question.name; kind = refl; class = refl })

-- the question of a leg is its request's
leg_asks : (setting : Setting) (spec : Spec) (past : Past) (leg : Leg) (candidate : ℕ) (mix : Option ℕ) (question wanted : Question) → spec_of leg.request past ≡ Some spec → IsLegOf spec candidate leg.number →
    question_of setting leg past ≡ Some question → asked_with mix question ≡ wanted → IsQuestionOf setting spec wanted
leg_asks setting spec past leg candidate mix question wanted asks is_leg is as_asked =
    let made = made_of (question_for spec leg.number) (slice_get (candidates_of setting spec) (candidate_of leg.number)) question
    (subst (λ o. option_and_then (λ s. option_map (question_for s leg.number) (slice_get (candidates_of setting s) (candidate_of leg.number))) o ≡ Some question) asks is) in
    record {
      candidate = candidate;
      name = made.0;
      is_candidate = subst (λ c. slice_get (candidates_of setting spec) c ≡ Some made.0) is_leg.1 made.1;
      leg = leg.number;
      is_leg = is_leg.0;
      same = subst (λ q. same_question wanted q ≡ true) (sym made.2) (subst (λ w. same_question w question ≡ true) as_asked (asked_same mix question));
    }

-- the question of a request's leg stays
question_stays : (setting : Setting) (leg : Leg) (newer : List What) (older : Past) (s : Spec) → spec_of leg.request older ≡ Some s → question_of setting leg (newer ++ older) ≡ question_of setting leg older
question_stays setting leg newer older s is =
    ap (λ o. option_and_then (λ spec. option_map (question_for spec leg.number) (slice_get (candidates_of setting spec) (candidate_of leg.number))) o) (spec_stays leg.request newer older s is ∙ sym is)

-- no kind is wanted of requests that aren't for addresses
any_kind : (spec : Spec) (number : ℕ) → IsAsk spec → wanted_kind (Some spec) number ≡ None
any_kind (Query text kind class) number asks = refl
any_kind (Search text kind class) number asks = refl
any_kind (Address host family nosort) number asks = absurd asks
any_kind (Reverse address) number asks = refl

-- ---- one answer

module _ (spec : Spec) (setting : Setting) (turns : ℕ) (journal : List Entry) (calls : List WorldCall) (course : IsCourse setting 0 longest_slice journal calls turns 0) (opens : opens_no_link calls ≡ true)
    (lawful : IsLawfulPast setting (past_of journal)) (own : list_all is_own journal ≡ true) (at_most : IsPrefix (accepted (past_of journal)) (first_request spec ∷ [])) where
  -- an entry is of seat 0
  seat_none : (e : Entry) → is_own e ≡ true → e.seat ≡ 0
  seat_none e h = eqb-true e.seat 0 (three_hold (e.seat == 0) (e.by == 0) (is_steady e.what) h).0

  -- the status that is told, by the reply of the leg
  meant_by : (status end : Status) (reply : Reply) → ToldStatus spec status end → (IsAsk spec → end ≡ status_meant reply) → IsMeantBy spec reply status
  meant_by status end reply told meant = by spec told meant
    where
      by : (s : Spec) → ToldStatus s status end → (IsAsk s → end ≡ status_meant reply) → IsMeantBy s reply status
      by (Query text kind class) t m = t ∙ m tt
      by (Search text kind class) (inl t) m = inl (t ∙ m tt)
      by (Search text kind class) (inr t) m = inr (t.0, subst (λ st. goes_on st ≡ true) (m tt) t.1)
      by (Address host family nosort) t m = tt
      by (Reverse address) t m = t ∙ m tt

  one_answer : (request : ℕ) (answer : Answer) → fate setting request (past_of journal) ≡ Some answer → answer.message ≢ [] → IsAnswered setting spec calls answer
  one_answer request answer is some =
      let se = searched setting request (past_of journal) answer is some in
      let accepted_as = asks_some setting request se.older answer se.searched in
      let whole_spec : spec_of request (past_of journal) ≡ Some accepted_as.0 = subst (λ p. spec_of request p ≡ Some accepted_as.0) (sym se.parts) (spec_stays request se.newer se.older accepted_as.0 accepted_as.1) in
      let same_spec : accepted_as.0 ≡ spec = spec_first spec accepted_as.0 (past_of journal) request at_most whole_spec in
      let asked : spec_of request se.older ≡ Some spec = accepted_as.1 ∙ ap Some same_spec in
      let t = search_tells setting request spec se.older answer asked se.searched some in
      let r = replied setting (leg_of request t.number) se.older t.end t.ends (λ none. some (t.message ∙ none)) in
      let f = flies_by_position setting r.older (leg_of request t.number) r.attempt r.flies in
      let there : Stands [] journal (Arrive r.server r.link t.end.reply) r.older =
      stands_there journal (se.newer ++ r.newer) (Arrive r.server r.link t.end.reply) r.older (se.parts ∙ ap (λ p. se.newer ++ p) r.parts ∙ sym (append_assoc se.newer r.newer (Arrive r.server r.link t.end.reply ∷ r.older))) in
      let begins : Stands [] there.front f.start f.older = stands_there there.front f.newer f.start f.older (there.older_is ∙ f.parts) in
      let all_own : list_all is_own (there.front ++ there.entry ∷ there.back) ≡ true = subst (λ j. list_all is_own j ≡ true) there.parts own in
      let front_own : list_all is_own (begins.front ++ begins.entry ∷ begins.back) ≡ true = subst (λ j. list_all is_own j ≡ true) begins.parts (two_pass is_own there.front (there.entry ∷ there.back) all_own).0 in
      let over = both_hold (r.attempt.server == r.server) (r.attempt.link == r.link) r.over in
      let lawful_older : IsLawfulPast setting (f.start ∷ f.older) =
      IsLawful_within (se.newer ++ r.newer) (Arrive r.server r.link t.end.reply) r.older f.newer f.start f.older
      (se.parts ∙ ap (λ p. se.newer ++ p) r.parts ∙ sym (append_assoc se.newer r.newer (Arrive r.server r.link t.end.reply ∷ r.older))) f.parts in
      let start_spec = started_spec setting f.older f.start r.attempt lawful_older f.begun in
      let reads = option_of (read_reply t.end.reply) (λ x. answers r.attempt.id (is_some r.attempt.mix) (asked_question setting r.attempt r.older) x.message) r.reply r.replies in
      let shown = answer_shown r.attempt.id (is_some r.attempt.mix) (asked_question setting r.attempt r.older) r.reply.message reads.1 in
      let one = asks_one (is_some r.attempt.mix) (asked_question setting r.attempt r.older) r.reply.message.questions shown.1 in
      let q = made_of (asked_with r.attempt.mix) (question_of setting r.attempt.leg r.older) one.wanted one.asked_is in
      let question : question_of setting r.attempt.leg f.older ≡ Some q.0 =
      sym (question_stays setting r.attempt.leg (f.newer ++ f.start ∷ []) f.older start_spec.spec start_spec.asks) ∙ ap (question_of setting r.attempt.leg) (append_assoc f.newer (f.start ∷ []) f.older ∙ sym f.parts) ∙ q.1 in
      let later : List What = se.newer ++ r.newer ++ Arrive r.server r.link t.end.reply ∷ [] in
      let since : List What = later ++ (f.newer ++ f.start ∷ []) in
      let start_whole : past_of journal ≡ since ++ f.older =
      whole_parts se.newer r.newer (Arrive r.server r.link t.end.reply) r.older se.parts r.parts
      ∙ ap (λ p. later ++ p) (f.parts ∙ sym (append_assoc f.newer (f.start ∷ []) f.older)) ∙ sym (append_assoc later (f.newer ++ f.start ∷ []) f.older) in
      let asks_same : start_spec.spec ≡ spec = own_spec r.attempt.leg.request f.older since start_spec.spec start_whole start_spec.asks in
      let started_behind : followed_by (f.start ∷ f.older) begins.back ≡ f.newer ++ f.start ∷ f.older =
      sym (followed_by-append [] begins.front (begins.entry ∷ begins.back) ∙ ap₂ (λ w p. followed_by (w ∷ p) begins.back) begins.is begins.older_is)
      ∙ sym (ap (followed_by []) begins.parts) ∙ there.older_is ∙ f.parts in
      let query : Message = query_of setting r.attempt.id (asked_with r.attempt.mix q.0) (closings setting r.attempt.leg f.older) in
      let shape = query_shape r.attempt.id (asked_with r.attempt.mix q.0) setting.options.flags.norecurse (offered_size setting (closings setting r.attempt.leg f.older)) in
      let sent : query_bytes setting f.older r.attempt ≡ message_bytes query =
      ap (λ o. option_map_or message_bytes (option_map (λ question. query_of setting r.attempt.id (asked_with r.attempt.mix question) (closings setting r.attempt.leg f.older)) o) []) question in
      record {
        server = r.server;
        query = query;
        reply = r.reply;
        asked = one.wanted;
        answered = one.question;
        exchanged = subst (λ bytes. WasExchanged r.server bytes answer.message calls) (ap (λ p. query_bytes setting p r.attempt) begins.older_is ∙ sent)
            (subst (λ bytes. WasExchanged r.server (query_bytes setting (past_of begins.front) r.attempt) bytes calls) (sym t.message)
            (exchanged setting longest_slice r.server r.link t.end.reply journal calls turns course opens there.front there.back begins.front begins.back there.entry begins.entry r.attempt
            there.parts (seat_none there.entry (item_passes is_own there.front there.back there.entry all_own)) there.is begins.parts
            (seat_none begins.entry (item_passes is_own begins.front begins.back begins.entry front_own)) (ap begun_by begins.is ∙ f.begun)
            (eqb-true r.attempt.server r.server over.0) (eqb-true r.attempt.link r.link over.1)
            (no_fault setting r.attempt (f.start ∷ f.older) begins.back f.newer started_behind f.spared)));
        reads = ap read_reply t.message ∙ reads.0;
        query_asks = shape.1 ∙ ap (λ x. x ∷ []) q.2;
        wanted = leg_asks setting spec f.older r.attempt.leg start_spec.candidate r.attempt.mix q.0 one.wanted (start_spec.asks ∙ ap Some asks_same)
            (subst (λ s. IsLegOf s start_spec.candidate r.attempt.leg.number) asks_same start_spec.is_leg) question q.2;
        same_id = shown.0 ∙ sym shape.0;
        reply_asks = one.questions_are;
        same_asked = one.same;
        meant = meant_by answer.status t.end.status r.reply t.status
            (λ asks. r.meant (wanted_none r.attempt.leg.request r.attempt.leg.number r.older later
            (whole_parts se.newer r.newer (Arrive r.server r.link t.end.reply) r.older se.parts r.parts) asks));
      }
    where
      -- a position of a lawful past is lawful
      IsLawful_within : (newer : List What) (what : What) (older : Past) (newer' : List What) (start : What) (oldest : Past) → past_of journal ≡ newer ++ what ∷ older → older ≡ newer' ++ start ∷ oldest → IsLawfulPast setting (start ∷ oldest)
      IsLawful_within newer what older newer' start oldest is more =
          lawful_behind (newer') (start ∷ oldest) (subst (IsLawfulPast setting) more (lawful_behind (newer ++ what ∷ []) older (subst (IsLawfulPast setting) (is ∙ sym (append_assoc newer (what ∷ []) older)) lawful)))
        where
          lawful_behind : (front : List What) (rest : Past) → IsLawfulPast setting (front ++ rest) → IsLawfulPast setting rest
          lawful_behind [] rest h = h
          lawful_behind (w ∷ front) rest h = lawful_behind front rest h.1

      whole_parts : (a b : List What) (what : What) (older : Past) {mid : Past} → past_of journal ≡ a ++ mid → mid ≡ b ++ what ∷ older → past_of journal ≡ (a ++ b ++ what ∷ []) ++ older
      whole_parts a b what older is more = is ∙ ap (λ p. a ++ p) more ∙ sym (append_assoc a b (what ∷ older)) ∙ sym (append_assoc (a ++ b) (what ∷ []) older)

      -- what a request asks at an earlier position is what the one request asks
      own_spec : (n : ℕ) (older : Past) (newer : List What) (s : Spec) → past_of journal ≡ newer ++ older → spec_of n older ≡ Some s → s ≡ spec
      own_spec n older newer s is it = spec_first spec s (past_of journal) n at_most (subst (λ p. spec_of n p ≡ Some s) (sym is) (spec_stays n newer older s it))

      -- no kind is wanted at an earlier position
      wanted_none : (n number : ℕ) (older : Past) (newer : List What) → past_of journal ≡ newer ++ older → IsAsk spec → wanted_kind (spec_of n older) number ≡ None
      wanted_none n number older newer is asks = by (spec_of n older) refl
        where
          by : (found : Option Spec) → spec_of n older ≡ found → wanted_kind (spec_of n older) number ≡ None
          by None none = rw none refl
          by (Some s) it = rw (it, own_spec n older newer s is it) (any_kind spec number asks)

      -- what a message shows that answers
      answer_shown : (id : ℕ) (exact : Bool) (asked : Option Question) (m : Message) → answers id exact asked m ≡ true → (m.id ≡ id) × (asks_only exact asked m.questions ≡ true)
      answer_shown id exact asked m h =
          let last = both_hold ((m.id == id) && is_response m && is_standard m) (asks_only exact asked m.questions) h in
          let middle = both_hold ((m.id == id) && is_response m) (is_standard m) last.0 in
          let front = both_hold (m.id == id) (is_response m) middle.0 in
          (eqb-true m.id id front.0, last.1)

-- ---- all answers of a run

-- each answer is some request's fate
each_fate : (setting : Setting) (past : Past) (calls : List Answer) (ns : List ℕ) → map Some calls ≡ map (λ n. fate setting n past) ns → AllByRecursion (λ a. (n : ℕ) × (fate setting n past ≡ Some a)) calls
each_fate setting past [] ns is = tt
each_fate setting past (a ∷ calls) [] is = absurd (cc is)
each_fate setting past (a ∷ calls) (n ∷ ns) is = (
  (n, sym (heads (Some a) (fate setting n past) (map Some calls) (map (λ m. fate setting m past) ns) is)),
  each_fate setting past calls ns (tails (Some a) (fate setting n past) (map Some calls) (map (λ m. fate setting m past) ns) is),
)

each_answered : (P Q : Answer → Type 0) → ((a : Answer) → P a → Q a) → (calls : List Answer) → AllByRecursion P calls → AllByRecursion Q calls
each_answered P Q follows [] all = tt
each_answered P Q follows (a ∷ calls) all = (follows a all.0, each_answered P Q follows calls all.1)

-- a run that keeps its promise has answers of this kind
pub answered_of : (spec : Spec) (as_book : Bool) (setting : Setting) (turns : ℕ) (ended : Ended) (before after : Outside) → Promise spec as_book setting turns ended before after → LogGets (AreAnswered setting spec ended.status ended.calls) before.network.log after.network.log
answered_of spec as_book setting turns ended before after p =
    told_as (IsTraffic setting turns p.end ended.journal) (AreAnswered setting spec ended.status ended.calls)
    (λ calls traffic served opens.
    each_answered (λ a. (n : ℕ) × (fate setting n (past_of ended.journal) ≡ Some a)) (λ a. a.message ≢ [] → IsAnswered setting spec calls a)
    (λ a known some. one_answer spec setting traffic.made ended.journal calls (traffic.course (apart served)) opens p.lawful.allowed p.own p.asked_at_most known.0 a known.1 some)
    ended.calls (each_fate setting (past_of ended.journal) ended.calls (requests (past_of ended.journal)) p.called_once))
    before.network.log after.network.log p.traffic
  where
    apart : ended.status ≢ 5 → p.end ≢ OutOfMemory
    apart served none =
        served (let h : PutsText None OutOfMemory ended.status before.output after.output = subst (λ e. PutsText (text_at (page_for spec as_book (book_of setting ended.journal) ended.calls) e) e ended.status before.output after.output) none p.put.told in h.0)

-- so a run has with the options that it came to
pub comes_answered : (spec : Spec) (as_book : Bool) (turns : ℕ) (options : Result OptionValues FaultOfFile) (ended : Ended) (before after : Outside) → Comes spec as_book turns options ended before after →
    IfOk options (λ values. LogGets (AreAnswered (setting_with values) spec ended.status ended.calls) before.network.log after.network.log)
comes_answered spec as_book turns (Ok options) ended before after comes = answered_of spec as_book (setting_with options) turns ended before after comes
comes_answered spec as_book turns (Err fault) ended before after ends = tt
