-- Where an answer's message comes from: a reply that ended a leg of its request.
use Rattle.std.proofs.Common.{◌≡◌, ◌≢◌, ℕ, ◌+◌, ◌≤◌, ◌==◌, ◌&&◌, ◌||◌, not, List, [], ◌∷◌, ◌++◌, length, refl, sym, ap, subst, ◌∙◌, Bool, true, false, if◌then◌else◌, inl, inr, arith, eqb-true}
use Rattle.std.specs.Prelude.{None, Option, Some, is_none, is_some, nat_le, option_and_then, option_map, unwrap_or, codes, ◌⊎◌}
use Rattle.std.specs.Bool.{then_some}
use Rattle.std.specs.Option.{option_or}
use Rattle.chan_types.specs.declared.answer.Answer.{Answer}
use Rattle.chan_types.specs.declared.journal.What.{What}
use Rattle.chan_types.specs.declared.journal.What.TheVariants.{Accept, Arrive, Cancel, Destroy, Expire, Fault, Start, Take, Servers}
use Rattle.chan_types.specs.declared.spec.Spec.{Spec}
use Rattle.chan_types.specs.declared.spec.Spec.TheVariants.{Address, Query, Reverse, Search}
use Rattle.chan_types.specs.declared.status.Status.{Status}
use Rattle.chan_types.specs.declared.status.Status.TheVariants.{BadName, BadResp, Cancelled, ConnRefused, Destruction, FormErr, NoData, NotFound, NotImp, Refused, ServFail, Success, TimedOut}
use Rattle.edns_opt.specs.Opt.{rcode_of}
use Rattle.dns_message.specs.declared.name.NameText.{NameText}
use Rattle.resolv_options.specs.declared.flags.Flags.{Flags}
use Rattle.channel_model.specs.declared.judged.Judged.TheVariants.{Failed, Final, NextPlain, NextTcp}
use Rattle.channel_model.specs.AtOnce.{asks_servers, at_once, known_host, listed, listed_name, literal, loopbacks, unless_asked}
use Rattle.channel_model.specs.Completion.{completed_by, fate}
use Rattle.channel_model.specs.Flight.{Attempt, closes, flight, reply_to, went_over}
use Rattle.channel_model.specs.Journal.{Past, spec_of}
use Rattle.channel_model.specs.LegEnd.{LegEnd, end_of, ending_status, leg_end}
use Rattle.channel_model.specs.Legs.{Leg, first_leg, leg_of, second_leg}
use Rattle.channel_model.specs.Merge.{addresses_v4, addresses_v6, answers_of, bare, canonical_name, found, merged, merged_one, records_of, same_status, status_of_both}
use Rattle.channel_model.specs.Search.{address_answer, answer_at, answer_of_search, any_empty, behind_candidate, candidate_answer, end_at, goes_on, is_empty, last_answer, over, search_answer, stand_at, stand_of}
use Rattle.dns_message.specs.declared.message.Record.{Record}
use Rattle.net_addr.specs.declared.addr.Addr.{Addr}
use Rattle.net_addr.specs.declared.addr.Family.{Family}
use Rattle.dns_message.specs.declared.name.Name.{Name}
use Rattle.channel_model.specs.Past.{Closing, bytes_of, closing_of, closings, has_opt, judged_by, outcome_of, spent, with_closing}
use Rattle.channel_model.specs.Questions.{candidates_of, name_of_text, wanted_kind}
use Rattle.channel_model.specs.Replies.{Reply}
use Rattle.channel_model.specs.Servers.{attempts}
use Rattle.channel_model.specs.Setting.{Setting}
use Rattle.channel_model.specs.Verdict.{has_item, is_refusal, status_of_rcode, verdict_of}
use Rattle.dns_message.specs.Name.{last_is}
use Rattle.dns_message.specs.Numbers.{header_rcode, is_truncated}
use Rattle.net_addr.specs.Mapped.{allows}
use Rattle.net_addr.specs.Reading.{address_of}
use Rattle.adig_tool.specs.Answered.{status_meant}
use Rattle.adig_tool.proofs.ListLemmas.{both_hold}

-- ---- the status that a reply gives its leg

-- by four tests, where the third excludes the last
shape_status : (tcp plain refuses good : Bool) (ends bad : Status) (count most : ℕ) (status : Status) → (refuses ≡ true → good ≡ false) →
    ending_status (Some (if tcp then NextTcp else (if plain then NextPlain else (if refuses then Failed bad else (if good then Final ends else Final bad))))) count most ≡ Some status →
    status ≡ (if good then ends else bad)
shape_status true plain refuses good ends bad count most status apart is = absurd (cc is)
shape_status false true refuses good ends bad count most status apart is = absurd (cc is)
shape_status false false true good ends bad count most status apart is = rw (apart refl) (by (nat_le most count) is)
  where
    by : (b : Bool) → then_some b bad ≡ Some status → status ≡ bad
    by true h = (let e : Some bad ≡ Some status = h in cc)
    by false h = absurd (cc h)
shape_status false false false true ends bad count most status apart is = (let e : Some ends ≡ Some status = is in cc)
shape_status false false false false ends bad count most status apart is = (let e : Some bad ≡ Some status = is in cc)

-- a response code that refuses isn't 0
refusing : (code : ℕ) (other : Bool) → (is_refusal code && other) ≡ true → (code == 0) ≡ false
refusing code other is = by (code == 0) refl
  where
    by : (b : Bool) → (code == 0) ≡ b → (code == 0) ≡ false
    by false same = same
    by true same =
        let h : (is_refusal 0 && other) ≡ true = subst (λ n. (is_refusal n && other) ≡ true) (eqb-true code 0 same) is in
        absurd (cc h)

-- so where any answer is wanted, it is the one that the reply means
judged_status : (flags : Flags) (tcp opt : Bool) (reply : Reply) (count most : ℕ) (status : Status) → ending_status (Some (verdict_of flags tcp opt None reply)) count most ≡ Some status → status ≡ status_meant reply
judged_status flags tcp opt reply count most status is =
    let code : ℕ = rcode_of reply.message reply.opt in
    shape_status (is_truncated reply.message && not tcp && not flags.igntc) ((header_rcode reply.message == 1) && is_none reply.opt && opt) (is_refusal code && not flags.nocheckresp) (code == 0)
    (if has_item reply.message.answers then Success else NoData) (status_of_rcode code) count most status (refusing code (not flags.nocheckresp)) is

-- ---- the reply that ended a leg

module _ (setting : Setting) (leg : Leg) where
  -- it arrived while the leg's attempt was in flight, and answered it
  pub record Replied (past : Past) (end : LegEnd) : Type 0 where
    pub newer : List What
    pub server : ℕ
    pub link : ℕ
    pub older : Past
    pub attempt : Attempt
    pub reply : Reply
    pub parts : past ≡ newer ++ Arrive server link end.reply ∷ older
    pub flies : flight setting leg older ≡ Some attempt
    pub over : went_over attempt server link ≡ true
    pub replies : reply_to setting attempt end.reply older ≡ Some reply
    pub meant : wanted_kind (spec_of attempt.leg.request older) attempt.leg.number ≡ None → end.status ≡ status_meant reply

  -- so it did before one entry more
  replied_before : (past : Past) (end : LegEnd) (what : What) → Replied past end → Replied (what ∷ past) end
  replied_before past end what r = record {
    newer = what ∷ r.newer;
    server = r.server;
    link = r.link;
    older = r.older;
    attempt = r.attempt;
    reply = r.reply;
    parts = ap (λ p. what ∷ p) r.parts;
    flies = r.flies;
    over = r.over;
    replies = r.replies;
    meant = r.meant;
  }

  -- what an end has of its status and its bytes
  end_is : (found : Option Status) (bytes : List ℕ) (end : LegEnd) → option_map (λ status. record { status = status; reply = bytes }) found ≡ Some end → (end.reply ≡ bytes) × (found ≡ Some end.status)
  end_is None bytes end is = absurd (cc is)
  end_is (Some status) bytes end is =
      let made : LegEnd = record { status = status; reply = bytes } in
      let same : made ≡ end = (let e : Some made ≡ Some end = is in cc) in
      (sym (ap (λ e. e.reply) same), ap (λ e. Some e.status) same)

  -- an entry that closes the attempt and ends the leg with bytes is an Arrive
  replied_now : (what : What) (a : Attempt) (past : Past) (earlier : List Closing) (count most : ℕ) (end : LegEnd) → flight setting leg past ≡ Some a → closes setting a what past ≡ true →
      option_map (λ status. record { status = status; reply = bytes_of what }) (ending_status (outcome_of setting a what past earlier) count most) ≡ Some end → end.reply ≢ [] → Replied (what ∷ past) end
  replied_now (Accept number spec script) a past earlier count most end flies closed is some = absurd (some (end_is (ending_status (outcome_of setting a (Accept number spec script) past earlier) count most) [] end is).0)
  replied_now Cancel a past earlier count most end flies closed is some = absurd (some (end_is (ending_status (outcome_of setting a (Cancel) past earlier) count most) [] end is).0)
  replied_now Destroy a past earlier count most end flies closed is some = absurd (some (end_is (ending_status (outcome_of setting a (Destroy) past earlier) count most) [] end is).0)
  replied_now (Take number) a past earlier count most end flies closed is some = absurd (some (end_is (ending_status (outcome_of setting a (Take number) past earlier) count most) [] end is).0)
  replied_now (Start number l server link id mix moment) a past earlier count most end flies closed is some = absurd (some (end_is (ending_status (outcome_of setting a (Start number l server link id mix moment) past earlier) count most) [] end is).0)
  replied_now (Expire number l moment) a past earlier count most end flies closed is some = absurd (some (end_is (ending_status (outcome_of setting a (Expire number l moment) past earlier) count most) [] end is).0)
  replied_now (Fault server link moment) a past earlier count most end flies closed is some = absurd (some (end_is (ending_status (outcome_of setting a (Fault server link moment) past earlier) count most) [] end is).0)
  replied_now (Servers list) a past earlier count most end flies closed is some = absurd (some (end_is (ending_status (outcome_of setting a (Servers list) past earlier) count most) [] end is).0)
  replied_now (Arrive server link bytes) a past earlier count most end flies closed is some =
      let both = both_hold (went_over a server link) (is_some (reply_to setting a bytes past)) closed in
      let ends = end_is (ending_status (outcome_of setting a (Arrive server link bytes) past earlier) count most) bytes end is in
      by (reply_to setting a bytes past) refl both.0 both.1 ends.0 ends.1
    where
      by : (found : Option Reply) → reply_to setting a bytes past ≡ found → went_over a server link ≡ true → is_some (reply_to setting a bytes past) ≡ true → end.reply ≡ bytes →
          ending_status (option_map (judged_by setting a past earlier) (reply_to setting a bytes past)) count most ≡ Some end.status → Replied (Arrive server link bytes ∷ past) end
      by None none went known same status = absurd (let h : is_some {T = Reply} None ≡ true = subst (λ o. is_some {T = Reply} o ≡ true) none known in cc h)
      by (Some reply) it went known same status =
          let judged : ending_status (Some (judged_by setting a past earlier reply)) count most ≡ Some end.status =
          subst (λ o. ending_status (option_map (judged_by setting a past earlier) o) count most ≡ Some end.status) it status in
          record {
            newer = [];
            server = server;
            link = link;
            older = past;
            attempt = a;
            reply = reply;
            parts = ap (λ b. Arrive server link b ∷ past) (sym same);
            flies = flies;
            over = went;
            replies = ap (λ b. reply_to setting a b past) same ∙ it;
            meant = λ any. judged_status setting.options.flags (not (a.link == 0)) (has_opt setting earlier) reply count most end.status
                (subst (λ kind. ending_status (Some (verdict_of setting.options.flags (not (a.link == 0)) (has_opt setting earlier) kind reply)) count most ≡ Some end.status) any judged);
          }

  pub replied : (past : Past) (end : LegEnd) → leg_end setting leg past ≡ Some end → end.reply ≢ [] → Replied past end
  replied [] end is some = absurd (cc is)
  replied (what ∷ past) end is some = by_flight (flight setting leg past) refl (λ ends. replied past end ends some) is
    where
      by_found : (a : Attempt) (found : Option LegEnd) → leg_end setting leg past ≡ found → flight setting leg past ≡ Some a → closes setting a what past ≡ true → (leg_end setting leg past ≡ Some end → Replied past end) →
          option_or found (option_map (λ status. record { status = status; reply = bytes_of what })
          (ending_status (outcome_of setting a what past (closings setting leg past)) (spent (closing_of setting a what past (closings setting leg past) ∷ closings setting leg past)) (attempts setting past))) ≡ Some end → Replied (what ∷ past) end
      by_found a None none flies closed again h = replied_now what a past (closings setting leg past) _ _ end flies closed h some
      by_found a (Some e) it flies closed again h = replied_before past end what (again (it ∙ h))

      by_closes : (a : Attempt) (b : Bool) → flight setting leg past ≡ Some a → closes setting a what past ≡ b → (leg_end setting leg past ≡ Some end → Replied past end) →
          end_of (if b then closing_of setting a what past (closings setting leg past) ∷ closings setting leg past else closings setting leg past) ≡ Some end → Replied (what ∷ past) end
      by_closes a false flies still again h = replied_before past end what (again h)
      by_closes a true flies closed again h = by_found a (leg_end setting leg past) refl flies closed again h

      by_flight : (f : Option Attempt) → flight setting leg past ≡ f → (leg_end setting leg past ≡ Some end → Replied past end) → end_of (with_closing setting what past f (closings setting leg past)) ≡ Some end → Replied (what ∷ past) end
      by_flight None none again h = replied_before past end what (again h)
      by_flight (Some a) flies again h = by_closes a (closes setting a what past) flies refl again h

-- ---- the leg whose end a request's answer tells

-- a request's status is its leg's; a search's may be NoData in place of one with which it goes on
abbrev pub ToldStatus : Spec → Status → Status → Type 0
ToldStatus (Query text kind class) status end = status ≡ end
ToldStatus (Search text kind class) status end = (status ≡ end) ⊎ ((status ≡ NoData) × (goes_on end ≡ true))
ToldStatus (Address host family nosort) status end = status ≡ end
ToldStatus (Reverse address) status end = status ≡ end

told_same : (spec : Spec) (status end : Status) → status ≡ end → ToldStatus spec status end
told_same (Query text kind class) status end is = is
told_same (Search text kind class) status end is = inl is
told_same (Address host family nosort) status end is = is
told_same (Reverse address) status end is = is

-- what an answer with a message has of its leg
pub record Tells (setting : Setting) (request : ℕ) (spec : Spec) (past : Past) (answer : Answer) : Type 0 where
  pub number : ℕ
  pub end : LegEnd
  pub ends : leg_end setting (leg_of request number) past ≡ Some end
  pub message : answer.message ≡ end.reply
  pub status : ToldStatus spec answer.status end.status

-- an answer of one leg
leg_tells : (setting : Setting) (request number : ℕ) (spec : Spec) (past : Past) (answer : Answer) (found : Option LegEnd) → leg_end setting (leg_of request number) past ≡ found →
    option_map (λ end. bare request end.status end.reply) found ≡ Some answer → Tells setting request spec past answer
leg_tells setting request number spec past answer None none is = absurd (cc is)
leg_tells setting request number spec past answer (Some end) it is =
    let same : bare request end.status end.reply ≡ answer = (let e : Some (bare request end.status end.reply) ≡ Some answer = is in cc) in
    record { number = number; end = end; ends = it; message = sym (ap (λ a. a.message) same); status = told_same spec answer.status end.status (sym (ap (λ a. a.status) same)) }

-- what there is is the same
some_is : (a b : Answer) → Some a ≡ Some b → a ≡ b
some_is a b is = cc

-- an answer of addresses has no message
merged_bare : (setting : Setting) (request : ℕ) (nosort : Bool) (name : Name) (left right : LegEnd) → (merged setting request nosort name left right).message ≡ []
merged_bare setting request nosort name left right = by (has_item (addresses_v4 (records_of left) ++ addresses_v6 (records_of right)))
  where
    by : (b : Bool) → (if b then found setting request nosort (addresses_v4 (records_of left) ++ addresses_v6 (records_of right))
        (canonical_name name (if has_item (addresses_v4 (records_of left)) then records_of left else records_of right)) else bare request (status_of_both left.status right.status) []).message ≡ []
    by true = refl
    by false = refl

merged_one_bare : (setting : Setting) (request : ℕ) (nosort : Bool) (name : Name) (addresses : List Record → List Addr) (end : LegEnd) → (merged_one setting request nosort name addresses end).message ≡ []
merged_one_bare setting request nosort name addresses end = by (same_status end.status Success)
  where
    by : (b : Bool) → (if b then found setting request nosort (addresses (answers_of end.reply)) (canonical_name name (answers_of end.reply)) else bare request end.status []).message ≡ []
    by true = refl
    by false = refl

mapped_bare : {A : Type 0} (f : A → Answer) (found : Option A) (answer : Answer) → ((x : A) → (f x).message ≡ []) → option_map f found ≡ Some answer → answer.message ≡ []
mapped_bare f None answer none is = absurd (cc is)
mapped_bare f (Some x) answer none is = (let same : f x ≡ answer = (let e : Some (f x) ≡ Some answer = is in cc) in sym (ap (λ a. a.message) same) ∙ none x)

address_bare : (setting : Setting) (request : ℕ) (family : Family) (nosort : Bool) (c : ℕ) (name : Name) (past : Past) (answer : Answer) → address_answer setting request family nosort c name past ≡ Some answer → answer.message ≡ []
address_bare setting request Family.Any nosort c name past answer is = by (end_at setting request (first_leg c) past) is
  where
    by : (found : Option LegEnd) → option_and_then (λ left. option_map (merged setting request nosort name left) (end_at setting request (second_leg c) past)) found ≡ Some answer → answer.message ≡ []
    by None h = absurd (cc h)
    by (Some left) h = mapped_bare (merged setting request nosort name left) (end_at setting request (second_leg c) past) answer (merged_bare setting request nosort name left) h
address_bare setting request Family.V4 nosort c name past answer is =
    mapped_bare (merged_one setting request nosort name addresses_v4) (end_at setting request (first_leg c) past) answer (merged_one_bare setting request nosort name addresses_v4) is
address_bare setting request Family.V6 nosort c name past answer is =
    mapped_bare (merged_one setting request nosort name addresses_v6) (end_at setting request (second_leg c) past) answer (merged_one_bare setting request nosort name addresses_v6) is

-- a candidate's answer
candidate_tells : (setting : Setting) (request : ℕ) (spec : Spec) (c : ℕ) (name : Name) (past : Past) (answer : Answer) → candidate_answer setting request spec c name past ≡ Some answer → answer.message ≢ [] → Tells setting request spec past answer
candidate_tells setting request (Query text kind class) c name past answer is some = leg_tells setting request (first_leg c) (Query text kind class) past answer (end_at setting request (first_leg c) past) refl is
candidate_tells setting request (Search text kind class) c name past answer is some = leg_tells setting request (first_leg c) (Search text kind class) past answer (end_at setting request (first_leg c) past) refl is
candidate_tells setting request (Address host family nosort) c name past answer is some = absurd (some (address_bare setting request family nosort c name past answer is))
candidate_tells setting request (Reverse address) c name past answer is some = leg_tells setting request (first_leg c) (Reverse address) past answer (end_at setting request (first_leg c) past) refl is

-- what the search of a request stands at, from a candidate on
stand_tells : (setting : Setting) (request : ℕ) (spec : Spec) (past : Past) (answer : Answer) (c : ℕ) (names : List Name) → answer_at (stand_at setting request spec past c names) ≡ Some answer → answer.message ≢ [] → Tells setting request spec past answer
stand_tells setting request spec past answer c [] is some = absurd (cc is)
stand_tells setting request spec past answer c (name ∷ names) is some =
    by names (candidate_answer setting request spec c name past) refl (λ h. stand_tells setting request spec past answer (c + 1) names h some) is
  where
    by : (rest : List Name) (found : Option Answer) → candidate_answer setting request spec c name past ≡ found →
        (answer_at (stand_at setting request spec past (c + 1) names) ≡ Some answer → Tells setting request spec past answer) →
        answer_at (behind_candidate c rest found (stand_at setting request spec past (c + 1) names)) ≡ Some answer → Tells setting request spec past answer
    by rest None none later h = absurd (cc h)
    by [] (Some a) it later h = candidate_tells setting request spec c name past answer (it ∙ h) some
    by (next ∷ rest) (Some a) it later h = either (goes_on a.status) h
      where
        either : (b : Bool) → answer_at (if b then stand_at setting request spec past (c + 1) names else over a) ≡ Some answer → Tells setting request spec past answer
        either true h2 = later h2
        either false h2 = candidate_tells setting request spec c name past answer (it ∙ h2) some

-- no candidate of an address request gives a message
address_none : (setting : Setting) (request : ℕ) (host : List ℕ) (family : Family) (nosort : Bool) (past : Past) (answer : Answer) (c : ℕ) (names : List Name) →
    answer_at (stand_at setting request (Address host family nosort) past c names) ≡ Some answer → answer.message ≢ [] → ⊥
address_none setting request host family nosort past answer c [] is some = cc is
address_none setting request host family nosort past answer c (name ∷ names) is some =
    by names (candidate_answer setting request (Address host family nosort) c name past) refl (λ h. address_none setting request host family nosort past answer (c + 1) names h some) is
  where
    by : (rest : List Name) (found : Option Answer) → candidate_answer setting request (Address host family nosort) c name past ≡ found →
        (answer_at (stand_at setting request (Address host family nosort) past (c + 1) names) ≡ Some answer → ⊥) →
        answer_at (behind_candidate c rest found (stand_at setting request (Address host family nosort) past (c + 1) names)) ≡ Some answer → ⊥
    by rest None none later h = cc h
    by [] (Some a) it later h = some (address_bare setting request family nosort c name past answer (it ∙ h))
    by (next ∷ rest) (Some a) it later h = either (goes_on a.status) h
      where
        either : (b : Bool) → answer_at (if b then stand_at setting request (Address host family nosort) past (c + 1) names else over a) ≡ Some answer → ⊥
        either true h2 = later h2
        either false h2 = some (address_bare setting request family nosort c name past answer (it ∙ h2))

-- a status that is NoData's
no_data : (status : Status) → same_status status NoData ≡ true → NoData ≡ status
no_data Success is = absurd (cc is)
no_data NoData is = refl
no_data FormErr is = absurd (cc is)
no_data ServFail is = absurd (cc is)
no_data NotFound is = absurd (cc is)
no_data NotImp is = absurd (cc is)
no_data Refused is = absurd (cc is)
no_data BadName is = absurd (cc is)
no_data BadResp is = absurd (cc is)
no_data ConnRefused is = absurd (cc is)
no_data TimedOut is = absurd (cc is)
no_data Destruction is = absurd (cc is)
no_data Cancelled is = absurd (cc is)

-- the answer of one candidate alone, as it is
one_status : (a : Answer) → (last_answer (is_empty (Some a) || false) a).status ≡ a.status
one_status a = by (goes_on a.status) (same_status a.status NoData) (no_data a.status)
  where
    by : (b c : Bool) → (c ≡ true → NoData ≡ a.status) → (if b && (c || false) then record a { status = NoData } else a).status ≡ a.status
    by false c same = refl
    by true false same = refl
    by true true same = same refl

one_message : (a : Answer) (empty : Bool) → (last_answer empty a).message ≡ a.message
one_message a empty = by (goes_on a.status && empty)
  where
    by : (b : Bool) → (if b then record a { status = NoData } else a).message ≡ a.message
    by true = refl
    by false = refl

-- a request with one candidate
one_tells : (setting : Setting) (request : ℕ) (spec : Spec) (past : Past) (answer : Answer) (name : Name) →
    option_map (last_answer (any_empty setting request spec past 0 (name ∷ []))) (answer_at (stand_at setting request spec past 0 (name ∷ []))) ≡ Some answer → answer.message ≢ [] → Tells setting request spec past answer
one_tells setting request spec past answer name is some = by (candidate_answer setting request spec 0 name past) refl is
  where
    by : (found : Option Answer) → candidate_answer setting request spec 0 name past ≡ found →
        option_map (last_answer (is_empty found || false)) (answer_at (behind_candidate 0 [] found (stand_at setting request spec past 1 []))) ≡ Some answer → Tells setting request spec past answer
    by None none h = absurd (cc h)
    by (Some a) it h =
        let same : last_answer (is_empty (Some a) || false) a ≡ answer = (let e : Some (last_answer (is_empty (Some a) || false) a) ≡ Some answer = h in cc) in
        let message : answer.message ≡ a.message = sym (ap (λ x. x.message) same) ∙ one_message a (is_empty (Some a) || false) in
        let status : answer.status ≡ a.status = sym (ap (λ x. x.status) same) ∙ one_status a in
        let t = candidate_tells setting request spec 0 name past a it (subst (λ m. m ≢ []) message some) in
        record { number = t.number; end = t.end; ends = t.ends; message = message ∙ t.message; status = subst (λ st. ToldStatus spec st t.end.status) (sym status) t.status }

-- a request with one candidate at most
few_tells : (setting : Setting) (request : ℕ) (spec : Spec) (past : Past) (answer : Answer) (names : List Name) → length names ≤ 1 →
    option_map (last_answer (any_empty setting request spec past 0 names)) (answer_at (stand_at setting request spec past 0 names)) ≡ Some answer → answer.message ≢ [] → Tells setting request spec past answer
few_tells setting request spec past answer [] few is some = absurd (cc is)
few_tells setting request spec past answer (name ∷ []) few is some = one_tells setting request spec past answer name is some
few_tells setting request spec past answer (name ∷ next ∷ names) few is some = absurd (omega (arith, few))

-- the name of a query is one at most
named_once : (found : Option NameText) → length (unwrap_or (option_map (λ (read : NameText). read.name ∷ []) found) []) ≤ 1
named_once None = omega arith
named_once (Some read) = omega arith

-- a search, through all its candidates
search_told : (setting : Setting) (request : ℕ) (text : List ℕ) (kind class : ℕ) (past : Past) (answer : Answer) (empty : Bool) (found : Option Answer) →
    answer_at (stand_of setting request (Search text kind class) past) ≡ found → option_map (last_answer empty) found ≡ Some answer → answer.message ≢ [] → Tells setting request (Search text kind class) past answer
search_told setting request text kind class past answer empty None it is some = absurd (cc is)
search_told setting request text kind class past answer empty (Some a) it is some =
    let same : last_answer empty a ≡ answer = (let e : Some (last_answer empty a) ≡ Some answer = is in cc) in
    let message : answer.message ≡ a.message = sym (ap (λ x. x.message) same) ∙ one_message a empty in
    let t = stand_tells setting request (Search text kind class) past a 0 (candidates_of setting (Search text kind class)) it (subst (λ m. m ≢ []) message some) in
    record {
      number = t.number;
      end = t.end;
      ends = t.ends;
      message = message ∙ t.message;
      status = subst (λ st. ToldStatus (Search text kind class) st t.end.status) (ap (λ x. x.status) same) (either (goes_on a.status) empty refl t.end.status t.status);
    }
  where
    ends_so : (end : Status) → ToldStatus (Search text kind class) a.status end → goes_on a.status ≡ true → goes_on end ≡ true
    ends_so end (inl same) on = subst (λ st. goes_on st ≡ true) same on
    ends_so end (inr other) on = other.1

    either : (b c : Bool) → goes_on a.status ≡ b → (end : Status) → ToldStatus (Search text kind class) a.status end →
        ToldStatus (Search text kind class) (if b && c then record a { status = NoData } else a).status end
    either true true on end told = inr (refl, ends_so end told on)
    either true false on end told = told
    either false c on end told = told

-- an address request has no message
address_told : (setting : Setting) (request : ℕ) (host : List ℕ) (family : Family) (nosort : Bool) (past : Past) (answer : Answer) (empty : Bool) (found : Option Answer) →
    answer_at (stand_of setting request (Address host family nosort) past) ≡ found → option_map (last_answer empty) found ≡ Some answer → answer.message ≢ [] → Tells setting request (Address host family nosort) past answer
address_told setting request host family nosort past answer empty None it is some = absurd (cc is)
address_told setting request host family nosort past answer empty (Some a) it is some =
    let same : last_answer empty a ≡ answer = (let e : Some (last_answer empty a) ≡ Some answer = is in cc) in
    let message : answer.message ≡ a.message = sym (ap (λ x. x.message) same) ∙ one_message a empty in
    absurd (address_none setting request host family nosort past a 0 (candidates_of setting (Address host family nosort)) it (subst (λ m. m ≢ []) message some))

-- the answer of a search
pub search_tells : (setting : Setting) (request : ℕ) (spec : Spec) (past : Past) (answer : Answer) → spec_of request past ≡ Some spec → search_answer setting request past ≡ Some answer → answer.message ≢ [] → Tells setting request spec past answer
search_tells setting request spec past answer asked is some = by spec (subst (λ o. option_and_then (answer_of_search setting request past) o ≡ Some answer) asked is)
  where
    by : (s : Spec) → answer_of_search setting request past s ≡ Some answer → Tells setting request s past answer
    by (Query text kind class) h = few_tells setting request (Query text kind class) past answer (candidates_of setting (Query text kind class)) (named_once (name_of_text text)) h some
    by (Search text kind class) h = search_told setting request text kind class past answer (any_empty setting request (Search text kind class) past 0 (candidates_of setting (Search text kind class)))
        (answer_at (stand_of setting request (Search text kind class) past)) refl h some
    by (Address host family nosort) h = address_told setting request host family nosort past answer (any_empty setting request (Address host family nosort) past 0 (candidates_of setting (Address host family nosort)))
        (answer_at (stand_of setting request (Address host family nosort) past)) refl h some
    by (Reverse address) h = few_tells setting request (Reverse address) past answer (candidates_of setting (Reverse address)) (omega arith) h some

-- ---- the fate of a request

-- an answer that an Accept brings has no message
unless_bare : (request : ℕ) (rules : NameText → Option Answer) (found : Option NameText) (answer : Answer) → ((text : NameText) (a : Answer) → rules text ≡ Some a → a.message ≡ []) →
    unless_asked request rules found ≡ Some answer → answer.message ≡ []
unless_bare request rules None answer none is = sym (ap (λ a. a.message) (some_is (bare request BadName []) answer is))
unless_bare request rules (Some text) answer none is = by (last_is (codes "onion") text.name) is
  where
    by : (b : Bool) → (if b then Some (bare request NotFound []) else rules text) ≡ Some answer → answer.message ≡ []
    by true h = sym (ap (λ a. a.message) (some_is (bare request NotFound []) answer h))
    by false h = none text answer h

known_bare : (setting : Setting) (request : ℕ) (family : Family) (nosort : Bool) (text : NameText) (answer : Answer) → known_host setting request family nosort text ≡ Some answer → answer.message ≡ []
known_bare setting request family nosort text answer is = by (has_item (listed setting text.name family)) is
  where
    third : (b : Bool) → (if b then None else Some (bare request NotFound [])) ≡ Some answer → answer.message ≡ []
    third true h = absurd (cc h)
    third false h = sym (ap (λ a. a.message) (some_is (bare request NotFound []) answer h))

    second : (b : Bool) → (if b then Some (found setting request nosort (loopbacks family) text.name) else (if asks_servers setting.options.lookups then None else Some (bare request NotFound []))) ≡ Some answer → answer.message ≡ []
    second true h = sym (ap (λ a. a.message) (some_is (found setting request nosort (loopbacks family) text.name) answer h))
    second false h = third (asks_servers setting.options.lookups) h

    by : (b : Bool) → (if b then Some (found setting request nosort (listed setting text.name family) (listed_name setting text.name family)) else
        (if last_is (codes "localhost") text.name then Some (found setting request nosort (loopbacks family) text.name) else (if asks_servers setting.options.lookups then None else Some (bare request NotFound [])))) ≡ Some answer → answer.message ≡ []
    by true h = sym (ap (λ a. a.message) (some_is (found setting request nosort (listed setting text.name family) (listed_name setting text.name family)) answer h))
    by false h = second (last_is (codes "localhost") text.name) h

literal_bare : (request : ℕ) (family : Family) (address : Addr) → (literal request family address).message ≡ []
literal_bare request family address = by (allows family address)
  where
    by : (b : Bool) → (if b then record (bare request Success []) { addresses = address ∷ [] } else bare request NoData []).message ≡ []
    by true = refl
    by false = refl

at_once_bare : (setting : Setting) (request : ℕ) (spec : Spec) (answer : Answer) → at_once setting request spec ≡ Some answer → answer.message ≡ []
at_once_bare setting request (Query text kind class) answer is = unless_bare request (λ t. None) (name_of_text text) answer (λ t a h. absurd (cc h)) is
at_once_bare setting request (Search text kind class) answer is = unless_bare request (λ t. None) (name_of_text text) answer (λ t a h. absurd (cc h)) is
at_once_bare setting request (Address host family nosort) answer is = by (address_of host) is
  where
    by : (read : Option Addr) → option_or (option_map (literal request family) read) (unless_asked request (known_host setting request family nosort) (name_of_text host)) ≡ Some answer → answer.message ≡ []
    by None h = unless_bare request (known_host setting request family nosort) (name_of_text host) answer (λ t a k. known_bare setting request family nosort t a k) h
    by (Some address) h = sym (ap (λ a. a.message) (some_is (literal request family address) answer h)) ∙ literal_bare request family address
at_once_bare setting request (Reverse address) answer is = absurd (cc is)

-- a fate with a message is the answer of a search at some position
pub record Searched (setting : Setting) (request : ℕ) (past : Past) (answer : Answer) : Type 0 where
  pub newer : List What
  pub older : Past
  pub parts : past ≡ newer ++ older
  pub searched : search_answer setting request older ≡ Some answer

searched_now : (setting : Setting) (request : ℕ) (what : What) (past : Past) (answer : Answer) → completed_by setting request what past ≡ Some answer → answer.message ≢ [] → Searched setting request (what ∷ past) answer
searched_now setting request (Accept number spec script) past answer is some = by (number == request) is
  where
    by : (b : Bool) → (if b then at_once setting request spec else None) ≡ Some answer → Searched setting request (Accept number spec script ∷ past) answer
    by true h = absurd (some (at_once_bare setting request spec answer h))
    by false h = absurd (cc h)
searched_now setting request Cancel past answer is some = absurd (some (mapped_bare (λ spec. bare request Cancelled []) (spec_of request past) answer (λ spec. refl) is))
searched_now setting request Destroy past answer is some = absurd (some (mapped_bare (λ spec. bare request Destruction []) (spec_of request past) answer (λ spec. refl) is))
searched_now setting request (Take number) past answer is some = absurd (cc is)
searched_now setting request (Start number leg server link id mix moment) past answer is some = absurd (cc is)
searched_now setting request (Arrive server link bytes) past answer is some = record { newer = []; older = Arrive server link bytes ∷ past; parts = refl; searched = is }
searched_now setting request (Expire number leg moment) past answer is some = record { newer = []; older = Expire number leg moment ∷ past; parts = refl; searched = is }
searched_now setting request (Fault server link moment) past answer is some = record { newer = []; older = Fault server link moment ∷ past; parts = refl; searched = is }
searched_now setting request (Servers list) past answer is some = absurd (cc is)

pub searched : (setting : Setting) (request : ℕ) (past : Past) (answer : Answer) → fate setting request past ≡ Some answer → answer.message ≢ [] → Searched setting request past answer
searched setting request [] answer is some = absurd (cc is)
searched setting request (what ∷ past) answer is some = by (fate setting request past) refl (λ h. searched setting request past answer h some) is
  where
    by : (found : Option Answer) → fate setting request past ≡ found → (fate setting request past ≡ Some answer → Searched setting request past answer) → option_or found (completed_by setting request what past) ≡ Some answer → Searched setting request (what ∷ past) answer
    by None none before h = searched_now setting request what past answer h some
    by (Some a) it before h = let s = before (it ∙ h) in record { newer = what ∷ s.newer; older = s.older; parts = ap (λ p. what ∷ p) s.parts; searched = s.searched }
