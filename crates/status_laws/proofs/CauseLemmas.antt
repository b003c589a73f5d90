-- The cause of an answer's status, by the entry that completed its request.
use Rattle.std.proofs.Common.{ap, eqb-true, inl, inr, subst, sym, ◌∙◌}
use Rattle.std.specs.Prelude.{Bool, IsTrue, None, Option, Some, [], cond, false, option_map, refl, true, ℕ, ◌==◌, ◌∷◌, ◌≡◌}
use Rattle.chan_types.specs.declared.answer.Answer.{Answer}
use Rattle.chan_types.specs.declared.journal.What.{What}
use Rattle.chan_types.specs.declared.journal.What.TheVariants.{Accept, Arrive, Cancel, Destroy, Expire, Fault, Servers, Start, Take}
use Rattle.chan_types.specs.declared.script.Script.{Script}
use Rattle.chan_types.specs.declared.spec.Spec.{Spec}
use Rattle.chan_types.specs.declared.status.Status.{Status}
use Rattle.chan_types.specs.declared.status.Status.TheVariants.{BadName, BadResp, Cancelled, ConnRefused, Destruction, FormErr, NoData, NotFound, NotImp, Refused, ServFail, Success, TimedOut}
use Rattle.channel_model.proofs.ListLemmas.{none_is_some}
use Rattle.channel_model.proofs.Theorems.{asked_once}
use Rattle.channel_model.specs.AtOnce.{at_once}
use Rattle.channel_model.specs.Completion.{completed_by, fate}
use Rattle.channel_model.specs.Journal.{Past, spec_of}
use Rattle.channel_model.specs.Lawful.{IsLawfulPast}
use Rattle.channel_model.specs.LegEnd.{LegEnd}
use Rattle.channel_model.specs.Legs.{Leg, leg_of}
use Rattle.channel_model.specs.Merge.{bare}
use Rattle.channel_model.specs.Search.{search_answer}
use Rattle.channel_model.specs.Setting.{Setting}
use Rattle.status_laws.proofs.AnswerLemmas.{of_search}
use Rattle.status_laws.proofs.EntryLemmas.{completed, flown_asked, lawful_before, open_before, pends}
use Rattle.status_laws.proofs.LegLemmas.{MayEnd, ended_by, may_end}
use Rattle.status_laws.proofs.PositionLemmas.{behind, kept}
use Rattle.status_laws.proofs.StatusLemmas.{at_once_says, is_of_accept, is_of_reply}
use Rattle.status_laws.specs.Causes.{CameAtOnce, CameBy, CauseOf, EndsLeg, HasCause, HasReply, end_with}
use Rattle.status_laws.specs.Positions.{StandsAt}

module _ (setting : Setting) (request : ℕ) where
  -- a status that a reply brought has that cause
  replied : (status : Status) (answer : Answer) (past : Past) → IsTrue (is_of_reply status) → HasReply setting request status past
      → CauseOf setting request status answer past
  replied Success answer past may reply = inr reply
  replied NoData answer past may reply = inr reply
  replied FormErr answer past may reply = reply
  replied ServFail answer past may reply = reply
  replied NotFound answer past may reply = inr reply
  replied NotImp answer past may reply = reply
  replied Refused answer past may reply = reply
  replied BadName answer past may reply = absurd cc
  replied BadResp answer past may reply = reply
  replied ConnRefused answer past may reply = absurd cc
  replied TimedOut answer past may reply = absurd cc
  replied Destruction answer past may reply = absurd cc
  replied Cancelled answer past may reply = absurd cc

  -- and so has one that an Accept brought
  came : (status : Status) (answer : Answer) (past : Past) → IsTrue (is_of_accept status) → CameAtOnce setting request answer past
      → CauseOf setting request status answer past
  came Success answer past may at = inl at
  came NoData answer past may at = inl at
  came FormErr answer past may at = absurd cc
  came ServFail answer past may at = absurd cc
  came NotFound answer past may at = inl at
  came NotImp answer past may at = absurd cc
  came Refused answer past may at = absurd cc
  came BadName answer past may at = at
  came BadResp answer past may at = absurd cc
  came ConnRefused answer past may at = absurd cc
  came TimedOut answer past may at = absurd cc
  came Destruction answer past may at = absurd cc
  came Cancelled answer past may at = absurd cc

  -- the cause of an ended leg's status, by the entry that ended it
  by_ending : (answer : Answer) (past : Past) (number : ℕ) (end : LegEnd) (what : What) (before : Past) → EndsLeg setting request number end what before past
      → MayEnd setting (leg_of request number) end what → CauseOf setting request end.status answer past
  by_ending answer past number end (Accept n spec script) before e may = absurd may
  by_ending answer past number end Cancel before e may = absurd may
  by_ending answer past number end Destroy before e may = absurd may
  by_ending answer past number end (Take n) before e may = absurd may
  by_ending answer past number end (Start n k server link id mix moment) before e may = absurd may
  by_ending answer past number end (Arrive server link bytes) before e may =
      replied end.status answer past may.0
      (number, server, link, bytes, before, subst (λ (x : LegEnd). EndsLeg setting request number x (Arrive server link bytes) before past) may.1 e)
  by_ending answer past number end (Expire n k moment) before e may =
      let own : n ≡ request = ap (λ (l : Leg). l.request) (sym may.0) in
      let leg : k ≡ number = ap (λ (l : Leg). l.number) (sym may.0) in
      let here_is : EndsLeg setting request number (end_with TimedOut []) (Expire request number moment) before past =
      subst (λ (r : ℕ). EndsLeg setting request number (end_with TimedOut []) (Expire r number moment) before past) own
      (subst (λ (j : ℕ). EndsLeg setting request number (end_with TimedOut []) (Expire n j moment) before past) leg
      (subst (λ (x : LegEnd). EndsLeg setting request number x (Expire n k moment) before past) may.1 e)) in
      subst (λ (x : LegEnd). CauseOf setting request x.status answer past) (sym may.1) (number, moment, before, here_is)
  by_ending answer past number end (Fault server link moment) before e may =
      subst (λ (x : LegEnd). CauseOf setting request x.status answer past) (sym may)
      (number, server, link, moment, before, subst (λ (x : LegEnd). EndsLeg setting request number x (Fault server link moment) before past) may e)
  by_ending answer past number end (Servers list) before e may = absurd may

  module _ (answer : Answer) (past : Past) (lawful : IsLawfulPast setting past) (what : What) (before : Past) (stands : StandsAt what before past)
      (open' : fate setting request before ≡ None) where
    -- the cause of an answer that a search gave
    by_search : search_answer setting request (what ∷ before) ≡ Some answer → HasCause setting request answer past
    by_search e =
        let leg = (of_search setting request (what ∷ before) answer e).0 in
        let by = ended_by setting (leg_of request leg.number) leg.end (what ∷ before) leg.ended in
        let none : fate setting request by.1 ≡ None = open_before setting request by.0 what by.1 before by.2 open' in
        let at : StandsAt by.0 by.1 past = kept (λ (p : Past). StandsAt by.0 by.1 p) what before past stands (λ x p s. behind x by.0 by.1 p s) by.2 in
        let asked = flown_asked setting request by.1 leg.number by.3.attempt (lawful_before setting request by.0 by.1 past at lawful).1 by.3.flies in
        let ends : EndsLeg setting request leg.number leg.end by.0 by.1 past =
        record { stands = at; pends = pends setting request by.1 asked none; ends = by.3 } in
        subst (λ (s : Status). CauseOf setting request s answer past) leg.same
        (by_ending answer past leg.number leg.end by.0 by.1 ends (may_end setting (leg_of request leg.number) leg.end by.0 by.1 by.3))

    -- of one that the Accept gave
    by_accept : (number : ℕ) (spec : Spec) (script : Script) → what ≡ Accept number spec script → number ≡ request
        → at_once setting request spec ≡ Some answer → HasCause setting request answer past
    by_accept number spec script is own e =
        let same : what ≡ Accept request spec script = is ∙ ap (λ (n : ℕ). Accept n spec script) own in
        came answer.status answer past (at_once_says setting request spec answer e).0
        (record { spec = spec; script = script; before = before; stands = subst (λ (w : What). StandsAt w before past) same stands; open' = open'; known = e })

    -- and of one that came with a bare status to whatever was pending
    by_status : (status : Status) → option_map (λ (spec : Spec). bare request status []) (spec_of request before) ≡ Some answer
        → completed_by setting request what before ≡ Some answer
        → CameBy setting request what answer past × (status ≡ answer.status)
    by_status status e given = by_spec (spec_of request before) refl e
      where
        by_spec : (o : Option Spec) → spec_of request before ≡ o → option_map (λ (spec : Spec). bare request status []) o ≡ Some answer
            → CameBy setting request what answer past × (status ≡ answer.status)
        by_spec None is e = none_is_some answer e
        by_spec (Some spec) is e =
            let same : bare request status [] ≡ answer = cc in (
              record {
                before = before;
                stands = stands;
                pends = pends setting request before (asked_once setting request before spec is) open';
                completes = record { open' = open'; given = given };
                bare_status = subst (λ (a : Answer). a ≡ bare request a.status []) same refl;
              },
              ap (λ (a : Answer). a.status) same,
            )

  -- an answer has its cause
  pub has_cause : (answer : Answer) (past : Past) → IsLawfulPast setting past → fate setting request past ≡ Some answer → HasCause setting request answer past
  has_cause answer past lawful e =
      let c = completed setting request answer past e in
      by_kind c.0 c.1 c.2 c.3.open' c.3.given
    where
      by_kind : (what : What) (before : Past) → StandsAt what before past → fate setting request before ≡ None
          → completed_by setting request what before ≡ Some answer → HasCause setting request answer past
      by_kind (Accept number spec script) before stands open' given = by_test (number == request) refl given
        where
          by_test : (b : Bool) → (number == request) ≡ b → cond b (at_once setting request spec) None ≡ Some answer → HasCause setting request answer past
          by_test true is e = by_accept answer past lawful (Accept number spec script) before stands open' number spec script refl
              (eqb-true number request is) e
          by_test false is e = none_is_some answer e
      by_kind Cancel before stands open' given =
          let by = by_status answer past lawful Cancel before stands open' Cancelled given given in
          subst (λ (s : Status). CauseOf setting request s answer past) by.1 by.0
      by_kind Destroy before stands open' given =
          let by = by_status answer past lawful Destroy before stands open' Destruction given given in
          subst (λ (s : Status). CauseOf setting request s answer past) by.1 by.0
      by_kind (Take number) before stands open' given = none_is_some answer given
      by_kind (Start number leg server link id mix moment) before stands open' given = none_is_some answer given
      by_kind (Arrive server link bytes) before stands open' given = by_search answer past lawful (Arrive server link bytes) before stands open' given
      by_kind (Expire number leg moment) before stands open' given = by_search answer past lawful (Expire number leg moment) before stands open' given
      by_kind (Fault server link moment) before stands open' given = by_search answer past lawful (Fault server link moment) before stands open' given
      by_kind (Servers list) before stands open' given = none_is_some answer given

  -- and its request's number
  pub has_number : (answer : Answer) (past : Past) → fate setting request past ≡ Some answer → answer.number ≡ request
  has_number answer past e = let c = completed setting request answer past e in by_kind c.0 c.1 c.3.given
    where
      by_spec : (status : Status) (o : Option Spec) → option_map (λ (spec : Spec). bare request status []) o ≡ Some answer → answer.number ≡ request
      by_spec status None e = none_is_some answer e
      by_spec status (Some spec) e = let same : bare request status [] ≡ answer = cc in ap (λ (a : Answer). a.number) (sym same)

      by_kind : (what : What) (before : Past) → completed_by setting request what before ≡ Some answer → answer.number ≡ request
      by_kind (Accept number spec script) before given = by_test (number == request) given
        where
          by_test : (b : Bool) → cond b (at_once setting request spec) None ≡ Some answer → answer.number ≡ request
          by_test true e = (at_once_says setting request spec answer e).1
          by_test false e = none_is_some answer e
      by_kind Cancel before given = by_spec Cancelled (spec_of request before) given
      by_kind Destroy before given = by_spec Destruction (spec_of request before) given
      by_kind (Take number) before given = none_is_some answer given
      by_kind (Start number leg server link id mix moment) before given = none_is_some answer given
      by_kind (Arrive server link bytes) before given = (of_search setting request (Arrive server link bytes ∷ before) answer given).1
      by_kind (Expire number leg moment) before given = (of_search setting request (Expire number leg moment ∷ before) answer given).1
      by_kind (Fault server link moment) before given = (of_search setting request (Fault server link moment ∷ before) answer given).1
      by_kind (Servers list) before given = none_is_some answer given

  -- the cause by a status that is known
  pub cause_of : (status : Status) (answer : Answer) (past : Past) → IsLawfulPast setting past → fate setting request past ≡ Some answer
      → answer.status ≡ status → CauseOf setting request status answer past
  cause_of status answer past lawful e is = subst (λ (s : Status). CauseOf setting request s answer past) is (has_cause answer past lawful e)
