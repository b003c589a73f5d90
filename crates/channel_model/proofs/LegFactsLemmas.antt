-- How what a past says of a leg changes behind each kind of entry that concerns it, and whether its end does.
use Rattle.std.proofs.Common.{◌≡◌, ◌∙◌, ◌+◌, Bool, true, false, List, ◌∷◌, Option, Some, None, refl, ap, ap₂, sym, subst, cond}
use Rattle.std.proofs.lemmas.List.Sums.{sum_by-cons}
use Rattle.std.specs.List.{list_any}
use Rattle.std.specs.Option.{option_or}
use Rattle.std.specs.Prelude.{IfSome, IsFalse, not, option_map, ◌&&◌, ◌||◌}
use Rattle.chan_types.specs.declared.journal.What.{What}
use Rattle.chan_types.specs.declared.journal.What.TheVariants.{Accept, Arrive, Cancel, Destroy, Expire, Fault, Servers, Start, Take}
use Rattle.chan_types.specs.declared.server_key.ServerKey.{ServerKey}
use Rattle.chan_types.specs.declared.status.Status.{Status}
use Rattle.channel_model.proofs.FlightLemmas.{is_leg-itself}
use Rattle.channel_model.proofs.LegLemmas.{Spares, begun-flight, closed-closings, closed-flight, closed-forced, forced_behind-spared, idle-closings, idle-forced, spared-closings, spared-deadline, spared-flight, spared-forced, unless_closed-spared, with_closing-spared}
use Rattle.channel_model.proofs.ListLemmas.{none_is_some}
use Rattle.channel_model.proofs.OpeningServersLemmas.{no_set-left}
use Rattle.channel_model.specs.Choice.{deadline, deadline_from}
use Rattle.channel_model.specs.Flight.{Attempt, begun_by, closes, flight}
use Rattle.channel_model.specs.Journal.{Past}
use Rattle.channel_model.specs.LegEnd.{LegEnd, end_of, ending_status, leg_end}
use Rattle.channel_model.specs.LegFacts.{facts_begun, facts_closed, facts_set, leg_facts}
use Rattle.channel_model.specs.Legs.{Leg, is_leg}
use Rattle.channel_model.specs.Past.{Closing, bytes_of, closing_of, closings, forced_server, has_opt, if_left, is_failed, is_next_plain, is_next_tcp, is_over_tcp, outcome_of, spent}
use Rattle.channel_model.specs.Servers.{attempts, has_key, servers_set_by}
use Rattle.channel_model.specs.Setting.{Setting}

or_swap : (a b c : Bool) → (a || (b || c)) ≡ (b || (a || c))
or_swap true true c = refl
or_swap true false c = refl
or_swap false true c = refl
or_swap false false c = refl

and_swap : (a b c : Bool) → (a && not (b || c)) ≡ (not b && (a && not c))
and_swap true true c = refl
and_swap true false c = refl
and_swap false true c = refl
and_swap false false c = refl

-- one more closing is spent if it failed
pub spent-more : (closing : Closing) (earlier : List Closing) → spent (closing ∷ earlier) ≡ cond (is_failed closing.outcome) 1 0 + spent earlier
spent-more closing earlier = sum_by-cons (λ (c : Closing). cond (is_failed c.outcome) 1 0) closing earlier

-- an entry that begins an attempt sets no servers
pub begun-sets_none : (what : What) (a : Attempt) → begun_by what ≡ Some a → servers_set_by what ≡ None
begun-sets_none (Accept number spec script) a begun = refl
begun-sets_none Cancel a begun = refl
begun-sets_none Destroy a begun = refl
begun-sets_none (Take number) a begun = refl
begun-sets_none (Start number leg server link id mix moment) a begun = refl
begun-sets_none (Arrive server link bytes) a begun = refl
begun-sets_none (Expire number leg moment) a begun = refl
begun-sets_none (Fault server link moment) a begun = refl
begun-sets_none (Servers list) a begun = none_is_some a begun

module _ (setting : Setting) (what : What) (past : Past) (leg : Leg) where
  same_words : (p q : Past) → flight setting leg p ≡ flight setting leg q → option_map (λ (a : Attempt). deadline setting leg p) (flight setting leg p) ≡ option_map (λ (a : Attempt). deadline setting leg q) (flight setting leg q)
      → closings setting leg p ≡ closings setting leg q → forced_server setting leg p ≡ forced_server setting leg q → leg_facts setting leg p ≡ leg_facts setting leg q
  same_words p q flies due same forced =
      λ k. record { flies = flies k; due = due k; spends = spent (same k); over_tcp = is_over_tcp setting (same k); with_opt = has_opt setting (same k); forced = forced k }

  -- an entry that spares a leg changes nothing
  pub spared-facts : Spares setting what past leg → leg_facts setting leg (what ∷ past) ≡ leg_facts setting leg past
  spared-facts spares =
      same_words (what ∷ past) past (spared-flight setting what past leg spares)
      (ap₂ (λ n o. option_map (λ (a : Attempt). n) o) (spared-deadline setting what past leg spares) (spared-flight setting what past leg spares))
      (spared-closings setting what past leg spares) (spared-forced setting what past leg spares)

  -- the Start of an idle leg puts its attempt in flight, with the deadline of that position
  pub begun-facts : (a : Attempt) → flight setting leg past ≡ None → begun_by what ≡ Some a → leg ≡ a.leg → leg_facts setting leg (what ∷ past) ≡ facts_begun a (deadline_from setting a past) (leg_facts setting leg past)
  begun-facts a idle begins own =
      let flies : flight setting leg (what ∷ past) ≡ Some a = begun-flight setting what past leg a begins own in
      let due : deadline setting leg (what ∷ past) ≡ deadline_from setting a past = rw (begins, subst (λ l. is_leg leg l.request l.number ≡ true) own (is_leg-itself leg)) refl in
      let same : closings setting leg (what ∷ past) ≡ closings setting leg past = idle-closings setting what past leg idle in
      let forced : forced_server setting leg (what ∷ past) ≡ forced_server setting leg past = idle-forced setting what past leg idle ∙ no_set-left what (forced_server setting leg past) (begun-sets_none what a begins) in
      λ k. record {
        flies = flies k;
        due = option_map (λ (b : Attempt). due k) (flies k);
        spends = spent (same k);
        over_tcp = is_over_tcp setting (same k);
        with_opt = has_opt setting (same k);
        forced = forced k;
      }

  module _ (a : Attempt) (flies : flight setting leg past ≡ Some a) (closed : closes setting a what past ≡ true) where
    now : closings setting leg (what ∷ past) ≡ closing_of setting a what past (closings setting leg past) ∷ closings setting leg past
    now = closed-closings setting what past leg a flies closed

    -- an entry that closes its attempt changes the leg by the outcome
    pub closed-facts : begun_by what ≡ None → leg_facts setting leg (what ∷ past) ≡ facts_closed a.server (outcome_of setting a what past (closings setting leg past)) (leg_facts setting leg past)
    closed-facts begins =
        let outcome = outcome_of setting a what past (closings setting leg past) in
        let lands : flight setting leg (what ∷ past) ≡ None = closed-flight setting what past leg a flies closed begins in
        let spends : spent (closings setting leg (what ∷ past)) ≡ cond (is_failed outcome) 1 0 + spent (closings setting leg past) =
        ap spent now ∙ spent-more (closing_of setting a what past (closings setting leg past)) (closings setting leg past) in
        let over : is_over_tcp setting (closings setting leg (what ∷ past)) ≡ (is_next_tcp outcome || is_over_tcp setting (closings setting leg past)) =
        ap (is_over_tcp setting) now ∙ or_swap setting.options.flags.usevc (is_next_tcp outcome) (list_any (λ (c : Closing). is_next_tcp c.outcome) (closings setting leg past)) in
        let opt : has_opt setting (closings setting leg (what ∷ past)) ≡ (not (is_next_plain outcome) && has_opt setting (closings setting leg past)) =
        ap (has_opt setting) now ∙ and_swap setting.options.flags.edns (is_next_plain outcome) (list_any (λ (c : Closing). is_next_plain c.outcome) (closings setting leg past)) in
        let forced = closed-forced setting what past leg a flies closed in
        λ k. record {
          flies = lands k;
          due = option_map (λ (b : Attempt). deadline setting leg (what ∷ past)) (lands k);
          spends = spends k;
          over_tcp = over k;
          with_opt = opt k;
          forced = forced k;
        }

    -- and ends the leg where the outcome ends it
    pub closed-end : leg_end setting leg past ≡ None
        → leg_end setting leg (what ∷ past)
        ≡ option_map (λ (status : Status). record { status = status; reply = bytes_of what })
        (ending_status (outcome_of setting a what past (closings setting leg past)) (cond (is_failed (outcome_of setting a what past (closings setting leg past))) 1 0 + spent (closings setting leg past)) (attempts setting past))
    closed-end open' = ap end_of now ∙ rw (open', spent-more (closing_of setting a what past (closings setting leg past)) (closings setting leg past)) refl

    -- one that has no outcome for it leaves its end as it was
    pub unjudged-end : outcome_of setting a what past (closings setting leg past) ≡ None → leg_end setting leg (what ∷ past) ≡ leg_end setting leg past
    unjudged-end none = ap end_of now ∙ rw none (or_none (end_of (closings setting leg past)))
      where
        or_none : (o : Option LegEnd) → option_or o None ≡ o
        or_none None = refl
        or_none (Some end) = refl

module _ (setting : Setting) (list : List ServerKey) (past : Past) (leg : Leg) where
  -- a new list of servers changes the leg by its attempt in flight
  pub set-facts : leg_facts setting leg (Servers list ∷ past) ≡ facts_set list (flight setting leg past) (leg_facts setting leg past)
  set-facts = by_flight (flight setting leg past) refl
    where
      left : (o : Option Attempt) → flight setting leg past ≡ o → IfSome o (λ a. IsFalse (not (has_key a.server list)))
          → leg_facts setting leg (Servers list ∷ past) ≡ record (leg_facts setting leg past) { forced = if_left (Servers list) (forced_server setting leg past) }
      left o is open' =
          let spared : IfSome (flight setting leg past) (λ a. IsFalse (not (has_key a.server list))) = subst (λ (p : Option Attempt). IfSome p (λ a. IsFalse (not (has_key a.server list)))) (sym is) open' in
          let flies = unless_closed-spared setting (Servers list) past (flight setting leg past) spared in
          let same = with_closing-spared setting (Servers list) past (flight setting leg past) (closings setting leg past) spared in
          let forced = forced_behind-spared setting (Servers list) past leg (flight setting leg past) (forced_server setting leg past) spared in
          λ k. record {
            flies = flies k;
            due = option_map (λ (a : Attempt). deadline setting leg past) (flies k);
            spends = spent (same k);
            over_tcp = is_over_tcp setting (same k);
            with_opt = has_opt setting (same k);
            forced = forced k;
          }

      by_flight : (o : Option Attempt) → flight setting leg past ≡ o → leg_facts setting leg (Servers list ∷ past) ≡ facts_set list o (leg_facts setting leg past)
      by_flight None is = left None is tt
      by_flight (Some a) is = by_test (has_key a.server list) refl
        where
          by_test : (b : Bool) → has_key a.server list ≡ b
              → leg_facts setting leg (Servers list ∷ past) ≡ cond b (record (leg_facts setting leg past) { forced = if_left (Servers list) (forced_server setting leg past) }) (facts_closed a.server None (leg_facts setting leg past))
          by_test true has = left (Some a) is (ap not has)
          by_test false has = closed-facts setting (Servers list) past leg a is (ap not has) refl

  -- and never its end
  pub set-end : leg_end setting leg (Servers list ∷ past) ≡ leg_end setting leg past
  set-end = by_flight (flight setting leg past) refl
    where
      or_none : (o : Option LegEnd) → option_or o None ≡ o
      or_none None = refl
      or_none (Some end) = refl

      by_flight : (o : Option Attempt) → flight setting leg past ≡ o → leg_end setting leg (Servers list ∷ past) ≡ leg_end setting leg past
      by_flight None is = rw is refl
      by_flight (Some a) is = rw is (by_test (has_key a.server list))
        where
          by_test : (b : Bool) → end_of (cond (not b) (closing_of setting a (Servers list) past (closings setting leg past) ∷ closings setting leg past) (closings setting leg past)) ≡ leg_end setting leg past
          by_test true = refl
          by_test false = or_none (end_of (closings setting leg past))
