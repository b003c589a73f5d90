-- How a leg ends: by one entry, which closed its attempt, and by what kind of entry with which status.
use Rattle.std.proofs.Common.{ap, subst, sym, ◌+◌, ◌∙◌}
use Rattle.std.specs.Bool.{then_some}
use Rattle.std.specs.Prelude.{Bool, IfSome, IsTrue, List, None, Option, Some, [], cond, false, nat_le, not, option_map, refl, true, ℕ, ◌==◌, ◌∷◌, ◌≡◌}
use Rattle.chan_types.specs.declared.journal.What.{What}
use Rattle.chan_types.specs.declared.journal.What.TheVariants.{Accept, Arrive, Cancel, Destroy, Expire, Fault, Servers, Start, Take}
use Rattle.chan_types.specs.declared.status.Status.{Status}
use Rattle.chan_types.specs.declared.status.Status.TheVariants.{ConnRefused, TimedOut}
use Rattle.channel_model.proofs.ListLemmas.{none_is_some}
use Rattle.channel_model.proofs.Theorems.{closed-end, flight-leg, idle-end, is_leg-says}
use Rattle.channel_model.specs.Flight.{Attempt, closes, flight, reply_to}
use Rattle.channel_model.specs.Journal.{Past, spec_of}
use Rattle.channel_model.specs.LegEnd.{LegEnd, end_of, ending_status, leg_end}
use Rattle.channel_model.specs.Legs.{Leg, leg_of}
use Rattle.channel_model.specs.Past.{bytes_of, closing_of, closings, has_opt, is_failed, judged_by, outcome_of, spent, with_closing}
use Rattle.channel_model.specs.Questions.{wanted_kind}
use Rattle.channel_model.specs.Replies.{Reply}
use Rattle.channel_model.specs.Servers.{attempts}
use Rattle.channel_model.specs.Setting.{Setting}
use Rattle.channel_model.specs.declared.judged.Judged.{Judged}
use Rattle.channel_model.specs.declared.judged.Judged.TheVariants.{Failed, Final, NextPlain, NextTcp}
use Rattle.status_laws.proofs.PositionLemmas.{behind, here, kept}
use Rattle.status_laws.proofs.StatusLemmas.{is_of_reply, judged_status, verdict_replied}
use Rattle.status_laws.specs.Causes.{end_with}
use Rattle.status_laws.specs.Positions.{Ends, StandsAt}

-- a leg that has ended stays so
pub ended-one : (setting : Setting) (leg : Leg) (end : LegEnd) (what : What) (past : Past) → leg_end setting leg past ≡ Some end
    → leg_end setting leg (what ∷ past) ≡ Some end
ended-one setting leg end what past is = by_flight (flight setting leg past)
  where
    by_test : (a : Attempt) (b : Bool)
        → end_of (cond b (closing_of setting a what past (closings setting leg past) ∷ closings setting leg past) (closings setting leg past)) ≡ Some end
    by_test a true = rw is refl
    by_test a false = is

    by_flight : (o : Option Attempt) → end_of (with_closing setting what past o (closings setting leg past)) ≡ Some end
    by_flight None = is
    by_flight (Some a) = by_test a (closes setting a what past)

module _ (setting : Setting) (leg : Leg) (end : LegEnd) where
  -- an entry ended it so
  abbrev pub EndedBy : Past → Type 0
  EndedBy past = (what : What) × (before : Past) × StandsAt what before past × Ends setting leg end what before

  -- each leg that has ended was ended by an entry
  pub ended_by : (past : Past) → leg_end setting leg past ≡ Some end → EndedBy past
  ended_by [] e = none_is_some end e
  ended_by (what ∷ past) e = by_before (leg_end setting leg past) refl (ended_by past)
    where
      by_test : (a : Attempt) → leg_end setting leg past ≡ None → flight setting leg past ≡ Some a → (b : Bool)
          → closes setting a what past ≡ b → EndedBy (what ∷ past)
      by_test a unended flies true closed = (what, past, here what past, record { attempt = a; flies = flies; unended = unended; closed = closed; ended = e })
      by_test a unended flies false spared =
          let same : leg_end setting leg (what ∷ past) ≡ leg_end setting leg past = rw (flies, spared) refl in
          none_is_some end (sym (same ∙ unended) ∙ e)

      by_flight : leg_end setting leg past ≡ None → (o : Option Attempt) → flight setting leg past ≡ o → EndedBy (what ∷ past)
      by_flight unended None idle = none_is_some end (sym (idle-end setting what past leg idle ∙ unended) ∙ e)
      by_flight unended (Some a) flies = by_test a unended flies (closes setting a what past) refl

      by_before : (o : Option LegEnd) → leg_end setting leg past ≡ o → (leg_end setting leg past ≡ Some end → EndedBy past) → EndedBy (what ∷ past)
      by_before None unended rest = by_flight unended (flight setting leg past) refl
      by_before (Some other) is rest =
          let r = rest (is ∙ sym (ended-one setting leg other what past is) ∙ e) in
          (r.0, r.1, behind what r.0 r.1 past r.2, r.3)

  -- and what an entry ended stays ended so
  pub ended_since : (past : Past) (what : What) (before : Past) → StandsAt what before past → Ends setting leg end what before
      → leg_end setting leg past ≡ Some end
  ended_since past what before stands ends = kept (λ (p : Past). leg_end setting leg p ≡ Some end) what before past stands
      (ended-one setting leg end) ends.ended

  -- so may an entry end the leg: an Expire of it with TimedOut, a Fault with ConnRefused, a message with a status that a reply can bring
  abbrev pub MayEnd : What → Type 0
  MayEnd (Accept number spec script) = ⊥
  MayEnd Cancel = ⊥
  MayEnd Destroy = ⊥
  MayEnd (Take number) = ⊥
  MayEnd (Start number k server link id mix moment) = ⊥
  MayEnd (Arrive server link bytes) = IsTrue (is_of_reply end.status) × (end ≡ end_with end.status bytes)
  MayEnd (Expire number k moment) = (leg ≡ leg_of number k) × (end ≡ end_with TimedOut [])
  MayEnd (Fault server link moment) = end ≡ end_with ConnRefused []
  MayEnd (Servers list) = ⊥

  -- what an attempt's end makes of the leg, where so many attempts are spent and a leg may spend so many
  abbrev EndsAs : Option Judged → List ℕ → ℕ → ℕ → Type 0
  EndsAs outcome reply count most = option_map (λ (status : Status). end_with status reply) (ending_status outcome count most) ≡ Some end

  -- the end has the status of the outcome
  outcome_says : (judged : Judged) (reply : List ℕ) (count most : ℕ) → EndsAs (Some judged) reply count most
      → (judged_status judged ≡ Some end.status) × (end ≡ end_with end.status reply)
  outcome_says NextTcp reply count most e = none_is_some end e
  outcome_says NextPlain reply count most e = none_is_some end e
  outcome_says (Failed status) reply count most e = by_test (nat_le most count) e
    where
      by_test : (b : Bool) → option_map (λ (s : Status). end_with s reply) (then_some b status) ≡ Some end
          → (judged_status (Failed status) ≡ Some end.status) × (end ≡ end_with end.status reply)
      by_test true e =
          let same : end_with status reply ≡ end = cc in
          (ap (λ (x : LegEnd). Some x.status) same, subst (λ (x : LegEnd). x ≡ end_with x.status reply) same refl)
      by_test false e = none_is_some end e
  outcome_says (Final status) reply count most e =
      let same : end_with status reply ≡ end = cc in
      (ap (λ (x : LegEnd). Some x.status) same, subst (λ (x : LegEnd). x ≡ end_with x.status reply) same refl)

  -- a failed attempt ends the leg with its own status
  failed_says : (status : Status) (count most : ℕ) → EndsAs (Some (Failed status)) [] count most → end ≡ end_with status []
  failed_says status count most e =
      let says = outcome_says (Failed status) [] count most e in
      let same : end.status ≡ status = some_same (sym says.0) in
      says.1 ∙ ap (λ (s : Status). end_with s []) same
    where
      some_same : {s t : Status} → ◌≡◌ {A = Option Status} (Some s) (Some t) → s ≡ t
      some_same e = cc

  module _ (before : Past) (a : Attempt) (flies : flight setting leg before ≡ Some a) where
    -- the attempts that are spent with the entry
    abbrev spent_with : What → ℕ
    spent_with what = cond (is_failed (outcome_of setting a what before (closings setting leg before))) 1 0 + spent (closings setting leg before)

    by_reply : (bytes : List ℕ) (count : ℕ) (o : Option Reply)
        → EndsAs (option_map (judged_by setting a before (closings setting leg before)) o) bytes count (attempts setting before)
        → IsTrue (is_of_reply end.status) × (end ≡ end_with end.status bytes)
    by_reply bytes count None e = none_is_some end e
    by_reply bytes count (Some reply) e =
        let judged = judged_by setting a before (closings setting leg before) reply in
        let says = outcome_says judged bytes count (attempts setting before) e in (
          subst (λ (o : Option Status). IfSome o (λ s. IsTrue (is_of_reply s))) says.0
              (verdict_replied setting.options.flags (not (a.link == 0)) (has_opt setting (closings setting leg before))
              (wanted_kind (spec_of a.leg.request before) a.leg.number) reply),
          says.1,
        )

    by_kind : (what : What) → closes setting a what before ≡ true
        → EndsAs (outcome_of setting a what before (closings setting leg before)) (bytes_of what) (spent_with what) (attempts setting before) → MayEnd what
    by_kind (Accept number spec script) closed e = none_is_some end e
    by_kind Cancel closed e = none_is_some end e
    by_kind Destroy closed e = none_is_some end e
    by_kind (Take number) closed e = none_is_some end e
    by_kind (Start number k server link id mix moment) closed e = none_is_some end e
    by_kind (Arrive server link bytes) closed e = by_reply bytes (spent_with (Arrive server link bytes)) (reply_to setting a bytes before) e
    by_kind (Expire number k moment) closed e = (
      flight-leg setting leg before a flies
          ∙ is_leg-says a.leg number k closed,
      failed_says TimedOut (spent_with (Expire number k moment)) (attempts setting before) e,
    )
    by_kind (Fault server link moment) closed e = failed_says ConnRefused (spent_with (Fault server link moment)) (attempts setting before) e
    by_kind (Servers list) closed e = none_is_some end e

  -- each entry that ended it may
  pub may_end : (what : What) (before : Past) → Ends setting leg end what before → MayEnd what
  may_end what before ends = by_kind before ends.attempt ends.flies what ends.closed
      (sym (closed-end setting what before leg ends.attempt ends.flies ends.closed ends.unended) ∙ ends.ended)
