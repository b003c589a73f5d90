-- What an entry does to the attempts that pending requests may still spend: none grow but by a request that is accepted, and some fall where a request completes or an attempt fails.
use Rattle.std.proofs.Common.{◌≡◌, ◌∙◌, ℕ, ◌+◌, ◌≤◌, Bool, true, false, List, [], ◌∷◌, ◌++◌, Option, Some, None, refl, ap, sym, subst, map, cond, arith, inl, inr, true≢false}
use Rattle.std.proofs.lemmas.List.Sums.{sum_by_push}
use Rattle.std.specs.List.{list_any}
use Rattle.std.specs.Prelude.{filter, is_none, is_some, option_map, sum_by}
use Rattle.chan_types.specs.declared.answer.Answer.{Answer}
use Rattle.chan_types.specs.declared.journal.Entry.{Entry}
use Rattle.chan_types.specs.declared.server_key.ServerKey.{ServerKey}
use Rattle.chan_types.specs.declared.journal.What.{What}
use Rattle.chan_types.specs.declared.journal.What.TheVariants.{Accept, Arrive, Cancel, Destroy, Expire, Fault, Servers, Start, Take}
use Rattle.chan_types.specs.declared.script.Script.{Script}
use Rattle.chan_types.specs.declared.spec.Spec.{Spec}
use Rattle.channel_model.proofs.Theorems.{accept-pending, accept-request, accepted-none, each_flies, flight_open, is_leg-itself, new_if_none, next_unasked, pending-behind, spec_of-later}
use Rattle.channel_model.specs.AtOnce.{at_once}
use Rattle.channel_model.specs.Completion.{completed_by, occurrences, pending, requests}
use Rattle.channel_model.specs.Flight.{Attempt, closes, flight, in_flight}
use Rattle.channel_model.specs.Journal.{Accepted, Past, accepted, accepted_by, followed_by, spec_of}
use Rattle.channel_model.specs.Lawful.{Due, IsLawfulPast, due_of, is_before, least, least_due}
use Rattle.channel_model.specs.Legs.{Leg, is_leg, leg_of}
use Rattle.channel_model.specs.Past.{closings, is_failed, outcome_of}
use Rattle.channel_model.specs.Questions.{candidates_of}
use Rattle.channel_model.specs.Setting.{Setting}
use Rattle.channel_progress.specs.Allowed.{attempts_for, attempts_of_request}
use Rattle.channel_progress.proofs.AskingLemmas.{pending_says}
use Rattle.channel_progress.proofs.FlyingLemmas.{current_among, flies_current, pending_leg}
use Rattle.channel_progress.proofs.LeftLemmas.{attempts_so_far, left_for, left_if, left_in, left_less, left_of, left_sets, left_some, left_spends, left_whole, legs_from}
use Rattle.channel_progress.proofs.ListLemmas.{Has, any-has, each-has, map-has, total, total-append, total-drops, total-falls, total-kept, total-less, total-some}
use Rattle.channel_progress.proofs.FallLemmas.{Falls, Keeps, keeps_refl, keeps_trans}
use Rattle.channel_progress.proofs.FitLemmas.{IsFit, fit_before, fit_one}

-- the first to be due stands among the others
least_due-has : (best : Due) (rest : List Due) → Has (least_due best rest) (best ∷ rest)
least_due-has best [] = inl refl
least_due-has best (next ∷ rest) = by_test (is_before next best) (least_due-has next rest) (least_due-has best rest)
  where
    further : (d : Due) → Has d (best ∷ rest) → Has d (best ∷ next ∷ rest)
    further d (inl e) = inl e
    further d (inr h) = inr (inr h)

    by_test : (b : Bool) → Has (least_due next rest) (next ∷ rest) → Has (least_due best rest) (best ∷ rest) → Has (least_due (cond b next best) rest) (best ∷ next ∷ rest)
    by_test true one other = inr one
    by_test false one other = further (least_due best rest) other

-- the first of some to be due is one of them
pub least-has : (xs : List Due) (d : Due) → least xs ≡ Some d → Has d xs
least-has [] d e = absurd cc
least-has (x ∷ xs) d e = let same : least_due x xs ≡ d = cc in subst (λ y. Has y (x ∷ xs)) same (least_due-has x xs)

module _ (setting : Setting) (end : Past) where
  -- what a pending request has left
  left_is : (past : Past) (request : ℕ) (spec : Spec) → spec_of request past ≡ Some spec → left_for setting end past request ≡ left_if setting end past request (Some spec)
  left_is past request spec asks = ap (left_if setting end past request) asks

  -- no entry gives a pending request more
  left_shrinks : (what : What) (past : Past) (request : ℕ) → Has request (pending setting past) → left_for setting end (what ∷ past) request ≤ left_for setting end past request
  left_shrinks what past request pends =
      let says = pending_says setting past request pends in
      let legs : List Leg = legs_from request says.0 0 (candidates_of setting says.0) in
      let was : left_for setting end past request ≡ total (left_of setting end past) legs = left_is past request says.0 says.1 in
      let now : left_for setting end (what ∷ past) request ≡ total (left_of setting end (what ∷ past)) legs = left_is (what ∷ past) request says.0 (spec_of-later request what past says.0 says.1) in
      omega (arith, was, now, total-less (left_of setting end past) (left_of setting end (what ∷ past)) legs (λ leg h. left_less setting end what past leg))

  -- an entry that accepts nothing allows no attempt
  so_far-none : (what : What) (past : Past) → accepted_by what ≡ None → attempts_so_far setting end (what ∷ past) ≡ attempts_so_far setting end past
  so_far-none what past none = ap (sum_by (attempts_of_request setting end)) (accepted-none what past none)

  module _ (what : What) (past : Past) (none : accepted_by what ≡ None) where
    -- behind an entry that accepts nothing only requests that were pending have some left
    pending_now : left_in setting end (what ∷ past) ≡ total (left_for setting end (what ∷ past)) (filter (λ number. is_none (completed_by setting number what past)) (pending setting past))
    pending_now = ap (total (left_for setting end (what ∷ past))) (pending-behind setting what past none)

    -- so that no more are left
    plain_keeps : Keeps setting end past (what ∷ past)
    plain_keeps =
        record {
          less = omega (
            arith,
            pending_now,
            so_far-none what past none,
            total-kept (left_for setting end past) (left_for setting end (what ∷ past)) (λ number. is_none (completed_by setting number what past)) (pending setting past) (left_shrinks what past),
          );
        }

    -- and fewer, where one of them has fewer or completes
    falls_by : (request : ℕ) → Has request (pending setting past) → 1 ≤ left_for setting end past request
        → (is_none (completed_by setting request what past) ≡ true → left_for setting end (what ∷ past) request + 1 ≤ left_for setting end past request) → Falls setting end past (what ∷ past)
    falls_by request pends left falls =
        record {
          less = omega (
            arith,
            pending_now,
            so_far-none what past none,
            total-falls (left_for setting end past) (left_for setting end (what ∷ past)) (λ number. is_none (completed_by setting number what past)) (pending setting past) (left_shrinks what past) request pends left falls,
          );
        }

module _ (setting : Setting) (end : Past) where
  -- a pending request has an attempt left
  pub pending_left : (past : Past) (request : ℕ) → IsFit setting end past → Has request (pending setting past) → 1 ≤ left_for setting end past request
  pending_left past request fit pends =
      let h = pending_leg setting past request fit.lawful pends in
      let legs : List Leg = legs_from request h.spec 0 (candidates_of setting h.spec) in
      let is : left_for setting end past request ≡ total (left_of setting end past) legs = left_is setting end past request h.spec h.asks in
      omega (arith, is, left_some setting end h.leg past fit h.unended, total-some (left_of setting end past) h.leg legs h.among)

  -- and so has a channel on which one is
  pub some_left : (past : Past) (request : ℕ) → IsFit setting end past → Has request (pending setting past) → 1 ≤ left_in setting end past
  some_left past request fit pends = omega (arith, pending_left past request fit pends, total-some (left_for setting end past) request (pending setting past) pends)

  -- an entry with which a pending request completes lets them fall
  pub completes_falls : (what : What) (past : Past) (request : ℕ) → accepted_by what ≡ None → IsFit setting end past → Has request (pending setting past) → is_none (completed_by setting request what past) ≡ false → Falls setting end past (what ∷ past)
  completes_falls what past request none fit pends completed =
      falls_by setting end what past none request pends (pending_left past request fit pends) (λ e. absurd (true≢false (sym e ∙ completed)))

  -- and so does one that sets servers
  pub set_falls : (list : List ServerKey) (past : Past) (request : ℕ) → IsFit setting end past → Has request (pending setting past) → Falls setting end past (Servers list ∷ past)
  set_falls list past request fit pends =
      let h = pending_leg setting past request fit.lawful pends in
      let legs : List Leg = legs_from request h.spec 0 (candidates_of setting h.spec) in
      let was : left_for setting end past request ≡ total (left_of setting end past) legs = left_is setting end past request h.spec h.asks in
      let now : left_for setting end (Servers list ∷ past) request ≡ total (left_of setting end (Servers list ∷ past)) legs =
      left_is setting end (Servers list ∷ past) request h.spec (spec_of-later request (Servers list) past h.spec h.asks) in
      let drops = total-drops (left_of setting end past) (left_of setting end (Servers list ∷ past)) legs (λ l k. left_less setting end (Servers list) past l) h.leg h.among (left_sets setting end list past h.leg fit h.unended) in
      let falls : left_for setting end (Servers list ∷ past) request + 1 ≤ left_for setting end past request = omega (arith, was, now, drops) in
      falls_by setting end (Servers list) past refl request pends (omega (arith, falls)) (λ e. falls)

  -- and so does one with which an attempt fails
  pub fails_falls : (what : What) (past : Past) (leg : Leg) (a : Attempt) → accepted_by what ≡ None → IsFit setting end past → flight setting leg past ≡ Some a → closes setting a what past ≡ true
      → is_failed (outcome_of setting a what past (closings setting leg past)) ≡ true → Falls setting end past (what ∷ past)
  fails_falls what past leg a none fit flies closed failed =
      let c = flies_current setting past leg a fit.lawful flies in
      let legs : List Leg = legs_from leg.request c.spec 0 (candidates_of setting c.spec) in
      let was : left_for setting end past leg.request ≡ total (left_of setting end past) legs = left_is setting end past leg.request c.spec c.asks in
      let now : left_for setting end (what ∷ past) leg.request ≡ total (left_of setting end (what ∷ past)) legs = left_is setting end (what ∷ past) leg.request c.spec (spec_of-later leg.request what past c.spec c.asks) in
      let drops = total-drops (left_of setting end past) (left_of setting end (what ∷ past)) legs (λ l h. left_less setting end what past l) leg (current_among setting past leg c fit.lawful)
      (left_spends setting end what past leg a fit (flight_open setting leg past a fit.lawful flies) flies closed failed) in
      let falls : left_for setting end (what ∷ past) leg.request + 1 ≤ left_for setting end past leg.request = omega (arith, was, now, drops) in
      falls_by setting end what past none leg.request c.pends (omega (arith, falls)) (λ e. falls)

  -- an Expire does
  pub expire_falls : (number k moment : ℕ) (past : Past) → IsFit setting end (Expire number k moment ∷ past) → Falls setting end past (Expire number k moment ∷ past)
  expire_falls number k moment past fit =
      let there = least-has (map (due_of setting past) (in_flight setting past)) _ fit.lawful.0.first in
      let from = map-has (due_of setting past) _ (in_flight setting past) there in
      let a : Attempt = from.0 in
      let own : a.leg ≡ leg_of number k = sym (ap (λ (d : Due). d.leg) from.2) in
      let flies : flight setting (leg_of number k) past ≡ Some a =
      subst (λ l. flight setting l past ≡ Some a) own (each-has (λ (b : Attempt). flight setting b.leg past ≡ Some b) a (in_flight setting past) (each_flies setting past) from.1) in
      fails_falls (Expire number k moment) past (leg_of number k) a refl (fit_one setting end (Expire number k moment) past fit) flies (subst (λ (l : Leg). is_leg l number k ≡ true) (sym own) (is_leg-itself (leg_of number k))) refl

  -- and a Fault of the link of an attempt in flight
  pub fault_falls : (server link moment : ℕ) (past : Past) → IsFit setting end past → list_any (λ a. closes setting a (Fault server link moment) past) (in_flight setting past) ≡ true → Falls setting end past (Fault server link moment ∷ past)
  fault_falls server link moment past fit closed =
      let from = any-has (λ a. closes setting a (Fault server link moment) past) (in_flight setting past) closed in
      fails_falls (Fault server link moment) past from.0.leg from.0 refl fit (each-has (λ (b : Attempt). flight setting b.leg past ≡ Some b) from.0 (in_flight setting past) (each_flies setting past) from.1) from.2 refl

module _ (setting : Setting) (end : Past) where
  -- an Accept allows as many attempts as it adds, or more
  accept_keeps : (number : ℕ) (spec : Spec) (script : Script) (past : Past) → IsLawfulPast setting (Accept number spec script ∷ past) → Keeps setting end past (Accept number spec script ∷ past)
  accept_keeps number spec script past lawful =
      let what : What = Accept number spec script in
      let new : occurrences number (requests past) ≡ 0 = ap (λ n. occurrences n (requests past)) lawful.0.1 ∙ next_unasked setting past lawful.1 in
      let now : left_in setting end (what ∷ past) ≡ total (left_for setting end (what ∷ past)) (pending setting past ++ new_if_none (at_once setting number spec) number) =
      ap (total (left_for setting end (what ∷ past))) (accept-pending setting past number spec script new) in
      let asks : spec_of number (what ∷ past) ≡ Some spec = ap (option_map (λ (r : Accepted). r.spec)) (accept-request setting past number spec script new) in
      let request : Accepted = record { number = number; spec = spec; script = script } in
      record {
        less = omega (
          arith,
          now,
          total-append (left_for setting end (what ∷ past)) (pending setting past) (new_if_none (at_once setting number spec) number),
          total-less (left_for setting end past) (left_for setting end (what ∷ past)) (pending setting past) (left_shrinks setting end what past),
          sum_by_push (attempts_of_request setting end) (accepted past) request,
          by_answer (at_once setting number spec) (left_is setting end (what ∷ past) number spec asks) (left_whole setting end (what ∷ past) number spec),
        );
      }
    where
      by_answer : (o : Option Answer) → left_for setting end (Accept number spec script ∷ past) number ≡ left_if setting end (Accept number spec script ∷ past) number (Some spec)
          → left_if setting end (Accept number spec script ∷ past) number (Some spec) ≤ attempts_for setting end spec
          → total (left_for setting end (Accept number spec script ∷ past)) (new_if_none o number) ≤ cond (is_some o) 0 (attempts_for setting end spec)
      by_answer None is most = omega (arith, is, most)
      by_answer (Some answer) is most = omega arith

  -- no entry but an Accept lets them grow
  pub entry_keeps : (what : What) (past : Past) → IsFit setting end (what ∷ past) → Keeps setting end past (what ∷ past)
  entry_keeps (Accept number spec script) past fit = accept_keeps number spec script past fit.lawful
  entry_keeps Cancel past fit = plain_keeps setting end Cancel past refl
  entry_keeps Destroy past fit = plain_keeps setting end Destroy past refl
  entry_keeps (Take number) past fit = plain_keeps setting end (Take number) past refl
  entry_keeps (Start number leg server link id mix moment) past fit = plain_keeps setting end (Start number leg server link id mix moment) past refl
  entry_keeps (Arrive server link bytes) past fit = plain_keeps setting end (Arrive server link bytes) past refl
  entry_keeps (Expire number leg moment) past fit = plain_keeps setting end (Expire number leg moment) past refl
  entry_keeps (Fault server link moment) past fit = plain_keeps setting end (Fault server link moment) past refl
  entry_keeps (Servers list) past fit = plain_keeps setting end (Servers list) past refl

  -- nor do any entries
  pub entries_keep : (past : Past) (entries : List Entry) → IsFit setting end (followed_by past entries) → Keeps setting end past (followed_by past entries)
  entries_keep past [] fit = keeps_refl setting end past
  entries_keep past (entry ∷ entries) fit =
      keeps_trans setting end past (entry.what ∷ past) (followed_by past (entry ∷ entries)) (entry_keeps entry.what past (fit_before setting end (entry.what ∷ past) entries fit)) (entries_keep (entry.what ∷ past) entries fit)
