-- The state of a leg goes on as its past does: behind each kind of entry the matching call keeps what the state says.
use Rattle.std.proofs.Common.{◌≡◌, ◌∙◌, ℕ, ◌+◌, ◌-◌, ◌^◌, ◌<◌, ◌≤◌, Bool, true, false, List, [], ◌∷◌, Option, Some, None, arith, cond, min, refl, ap, ap₂, sym, subst}
use Rattle.std.proofs.lemmas.Bool.{leb-false}
use Rattle.std.specs.Bool.{then_some}
use Rattle.std.specs.List.{list_any}
use Rattle.std.specs.Prelude.{if◌then◌else◌, nat_le, not, option_map, ◌&&◌, ◌==◌, ◌||◌}
use Rattle.chan_types.specs.declared.journal.What.{What}
use Rattle.chan_types.specs.declared.journal.What.TheVariants.{Servers, Start}
use Rattle.chan_types.specs.declared.server_key.ServerKey.{ServerKey}
use Rattle.chan_types.specs.declared.status.Status.{Status}
use Rattle.channel_model.proofs.Theorems.{AreListed, Spares, begun-facts, closed-end, closed-facts, idle-end, set-end, set-facts, spared-end, spared-facts}
use Rattle.channel_model.specs.Choice.{wait_of}
use Rattle.channel_model.specs.Flight.{Attempt, begun_by, closes, flight}
use Rattle.channel_model.specs.Journal.{Past}
use Rattle.channel_model.specs.LegEnd.{LegEnd, ending_status, leg_end}
use Rattle.channel_model.specs.LegFacts.{LegFacts, facts_begun, facts_closed, facts_set, leg_facts}
use Rattle.channel_model.specs.Legs as model
use Rattle.channel_model.specs.Past.{bytes_of, closing_of, closings, forced_behind, forced_by, forced_server, if_left, is_failed, is_next_plain, is_next_tcp, outcome_of, spent, with_closing}
use Rattle.channel_model.specs.Servers.{attempts, has_key, in_use, servers_at}
use Rattle.channel_model.specs.Setting.{Setting}
use Rattle.channel_model.specs.declared.judged.Judged.{Judged}
use Rattle.channel_model.specs.declared.judged.Judged.TheVariants.{Failed, Final, NextPlain, NextTcp}
use Rattle.query_machine.specs.Legs.{IsWaiting, attempt_from, flying_in, forced_with, fresh_leg, leg_behind, leg_without_each, phase_with, spent_with, status_in, unless_server}
use Rattle.query_machine.specs.Means.{LegMeans, attempt_of, facts_of}
use Rattle.query_machine.specs.declared.leg.Flying.{Flying}
use Rattle.query_machine.specs.declared.leg.Leg.{Leg}
use Rattle.query_machine.specs.declared.leg.Phase.{Phase}
use Rattle.query_machine.specs.declared.leg.Phase.TheVariants as phases

-- a leg that waits has no attempt in flight, and no end
waits_flies : (phase : Phase) → IsWaiting phase → flying_in phase ≡ None
waits_flies phases.Waiting waits = refl
waits_flies (phases.InFlight flying) waits = absurd waits
waits_flies (phases.Ended status) waits = absurd waits

waits_open : (phase : Phase) → IsWaiting phase → status_in phase ≡ None
waits_open phases.Waiting waits = refl
waits_open (phases.InFlight flying) waits = absurd waits
waits_open (phases.Ended status) waits = absurd waits

-- what maps to nothing is nothing
none_mapped : {A B : Type 0} (f : A → B) (o : Option A) → option_map f o ≡ None → o ≡ None
none_mapped f None none = refl
none_mapped f (Some x) none = absurd cc

module _ (setting : Setting) (past : Past) (leg : model.Leg) (state : Leg) (means : LegMeans setting past leg state) where
  -- a leg whose state has no end has none
  open_end : status_in state.phase ≡ None → leg_end setting leg past ≡ None
  open_end open' = none_mapped (λ (end : LegEnd). end.status) (leg_end setting leg past) (means.ended ∙ open')

  -- a leg whose state waits has no attempt in flight
  idle : IsWaiting state.phase → flight setting leg past ≡ None
  idle waits = ap (λ (facts : LegFacts). facts.flies) means.facts ∙ ap (option_map (attempt_of leg)) (waits_flies state.phase waits)

  -- an entry that spares the leg keeps its state
  pub spared_means : (what : What) → Spares setting what past leg → LegMeans setting (what ∷ past) leg state
  spared_means what spares = record {
    facts = spared-facts setting what past leg spares ∙ means.facts;
    ended = ap (option_map (λ (end : LegEnd). end.status)) (spared-end setting what past leg spares) ∙ means.ended;
    few = means.few;
  }

-- the Start of a leg puts its state in flight, with the wait by its spent attempts and the servers in use
module _ (setting : Setting) (past : Past) (number k : ℕ) (state : Leg) (means : LegMeans setting past (model.leg_of number k) state) where
  pub begun_means : (waits : IsWaiting state.phase) (server link id : ℕ) (mix : Option ℕ) (moment : ℕ) →
      LegMeans setting (Start number k server link id mix moment ∷ past) (model.leg_of number k)
      (record state { phase = phases.InFlight (attempt_from server link id mix moment (wait_of setting.options state.spent (in_use setting past))) })
  begun_means waits server link id mix moment =
      let leg : model.Leg = model.leg_of number k in
      let what : What = Start number k server link id mix moment in
      let a : Attempt = record { leg = leg; server = server; link = link; id = id; mix = mix; moment = moment } in
      let none : flight setting leg past ≡ None = idle setting past leg state means waits in
      let due : (spends : ℕ) → ℕ = λ (spends : ℕ). min (moment + wait_of setting.options spends (in_use setting past)) (2 ^ 64 - 1) in
      record {
        facts = begun-facts setting what past leg a none refl refl ∙ ap (λ (facts : LegFacts). facts_begun a (due facts.spends) facts) means.facts;
        ended = ap (option_map (λ (end : LegEnd). end.status)) (idle-end setting what past leg none) ∙ means.ended ∙ waits_open state.phase waits;
        few = λ _. means.few (waits_open state.phase waits);
      }

-- the phase that a status gives has that status, and no attempt in flight
phase_status : (o : Option Status) → status_in (phase_with o) ≡ o
phase_status None = refl
phase_status (Some status) = refl

phase_flies : (o : Option Status) → flying_in (phase_with o) ≡ None
phase_flies None = refl
phase_flies (Some status) = refl

-- where 32 bits can count one more, the count doesn't stop
counts_on : (b : Bool) (spends : ℕ) → spends < 2 ^ 32 - 1 → min (spends + cond b 1 0) (2 ^ 32 - 1) ≡ cond b 1 0 + spends
counts_on true spends few = omega (arith, few)
counts_on false spends few = omega (arith, few)

or_turned : (a b : Bool) → (a || b) ≡ (b || a)
or_turned true true = refl
or_turned true false = refl
or_turned false true = refl
or_turned false false = refl

and_turned : (a b : Bool) → (a && b) ≡ (b && a)
and_turned true true = refl
and_turned true false = refl
and_turned false true = refl
and_turned false false = refl

-- the server of an attempt, where a test says so
server_if : (b : Bool) (server : ℕ) → (if b then Some server else None) ≡ then_some b server
server_if true server = refl
server_if false server = refl

-- the status of an end with a reply
status_of_end : (reply : List ℕ) (o : Option Status) → option_map (λ (end : LegEnd). end.status) (option_map (λ (status : Status). record { status = status; reply = reply }) o) ≡ o
status_of_end reply None = refl
status_of_end reply (Some status) = refl

-- a leg that goes on behind the end of an attempt has spent less than it may
goes_on_below : (outcome : Judged) (spends most : ℕ) → (is_failed (Some outcome) ≡ false → spends < 2 ^ 32 - 1) → most ≤ 2 ^ 32 - 1 → ending_status (Some outcome) spends most ≡ None → spends < 2 ^ 32 - 1
goes_on_below NextTcp spends most few room open' = few refl
goes_on_below NextPlain spends most few room open' = few refl
goes_on_below (Failed status) spends most few room open' = by_test (nat_le most spends) refl open'
  where
    by_test : (b : Bool) → nat_le most spends ≡ b → then_some b status ≡ None → spends < 2 ^ 32 - 1
    by_test true is none = absurd cc
    by_test false is none = omega (arith, leb-false most spends is, room)
goes_on_below (Final status) spends most few room open' = absurd cc

-- an entry that closes the attempt of a leg in flight, with an outcome: the leg's state goes on by that outcome
module _ (setting : Setting) (what : What) (past : Past) (leg : model.Leg) (state : Leg) (means : LegMeans setting past leg state)
    (flying : Flying) (flies : state.phase ≡ phases.InFlight flying) (closed : closes setting (attempt_of leg flying) what past ≡ true) (outcome : Judged)
    (judged : outcome_of setting (attempt_of leg flying) what past (closings setting leg past) ≡ Some outcome) where
  in_flight : flight setting leg past ≡ Some (attempt_of leg flying)
  in_flight = ap (λ (facts : LegFacts). facts.flies) means.facts ∙ ap (λ (phase : Phase). option_map (attempt_of leg) (flying_in phase)) flies

  open_state : status_in state.phase ≡ None
  open_state = ap status_in flies

  few_spent : state.spent < 2 ^ 32 - 1
  few_spent = means.few open_state

  spends_with : spent_with outcome state.spent ≡ cond (is_failed (Some outcome)) 1 0 + state.spent
  spends_with = counts_on (is_failed (Some outcome)) state.spent few_spent

  -- the leg ends with the bytes of the entry for its reply, if the state ends
  pub closed_end_means : leg_end setting leg (what ∷ past)
      ≡ option_map (λ (status : Status). record { status = status; reply = bytes_of what }) (status_in (leg_behind outcome (attempts setting past) state).phase)
  closed_end_means =
      let spends : spent (closings setting leg past) ≡ state.spent = ap (λ (facts : LegFacts). facts.spends) means.facts in
      closed-end setting what past leg (attempt_of leg flying) in_flight closed (open_end setting past leg state means open_state)
      ∙ ap (option_map (λ (status : Status). record { status = status; reply = bytes_of what }))
      (rw (judged, spends, ← spends_with) (sym (phase_status (ending_status (Some outcome) (spent_with outcome state.spent) (attempts setting past)))))

  pub closed_means : begun_by what ≡ None → attempts setting past ≤ 2 ^ 32 - 1 → LegMeans setting (what ∷ past) leg (leg_behind outcome (attempts setting past) state)
  closed_means begins room =
      let spends : ℕ = spent_with outcome state.spent in
      let ending : Option Status = ending_status (Some outcome) spends (attempts setting past) in
      let none : flying_in (phase_with ending) ≡ None = phase_flies ending in
      let over : (state.over_tcp || is_next_tcp (Some outcome)) ≡ (is_next_tcp (Some outcome) || state.over_tcp) = or_turned state.over_tcp (is_next_tcp (Some outcome)) in
      let opt : (state.has_opt && not (is_next_plain (Some outcome))) ≡ (not (is_next_plain (Some outcome)) && state.has_opt) = and_turned state.has_opt (not (is_next_plain (Some outcome))) in
      let again : Bool = is_next_tcp (Some outcome) || is_next_plain (Some outcome) in
      let forced : forced_with outcome (flying_in state.phase) ≡ (if again then Some flying.server else None) = ap (λ (phase : Phase). forced_with outcome (flying_in phase)) flies ∙ sym (server_if again flying.server) in
      let count : spends ≡ cond (is_failed (Some outcome)) 1 0 + state.spent = spends_with in
      let same : facts_of leg (leg_behind outcome (attempts setting past) state) ≡ facts_closed flying.server (Some outcome) (facts_of leg state) = λ i. record {
        flies = option_map (attempt_of leg) (none i);
        due = option_map (λ (f : Flying). f.due) (none i);
        spends = count i;
        over_tcp = over i;
        with_opt = opt i;
        forced = forced i;
      } in
      record {
        facts = closed-facts setting what past leg (attempt_of leg flying) in_flight closed begins
            ∙ ap (λ (o : Option Judged). facts_closed flying.server o (leg_facts setting leg past)) judged ∙ ap (facts_closed flying.server (Some outcome)) means.facts ∙ sym same;
        ended = ap (option_map (λ (end : LegEnd). end.status)) closed_end_means ∙ status_of_end (bytes_of what) (status_in (phase_with ending));
        few = λ open'. goes_on_below outcome spends (attempts setting past) (λ kept. let none_more : cond {A = ℕ} (is_failed (Some outcome)) 1 0 ≡ 0 = ap (λ (b : Bool). cond {A = ℕ} b 1 0) kept in omega (arith, count, none_more, few_spent)) room (sym (phase_status ending) ∙ open');
      }

-- a leg with these fields
abbrev leg_with : Phase → ℕ → Bool → Bool → Option ℕ → Leg
leg_with phase spends over opt forced = record { phase = phase; spent = spends; over_tcp = over; has_opt = opt; forced = forced }

-- the server is one of these
abbrev is_one_of : List ℕ → ℕ → Bool
is_one_of keys server = list_any (λ key. server == key) keys

-- the server, where it isn't one of these
abbrev unless_any : List ℕ → Option ℕ → Option ℕ
unless_any keys None = None
unless_any keys (Some server) = if is_one_of keys server then None else Some server

-- the leg behind a list that lacks these servers, at once
abbrev left_by : List ℕ → Phase → ℕ → Bool → Bool → Option ℕ → Leg
left_by keys phases.Waiting spends over opt forced = leg_with phases.Waiting spends over opt (unless_any keys forced)
left_by keys (phases.InFlight flying) spends over opt forced =
    if is_one_of keys flying.server then leg_with phases.Waiting spends over opt None else leg_with (phases.InFlight flying) spends over opt (unless_any keys forced)
left_by keys (phases.Ended status) spends over opt forced = leg_with (phases.Ended status) spends over opt (unless_any keys forced)

-- one by one is at once
unless_more : (key : ℕ) (keys : List ℕ) (forced : Option ℕ) → unless_any keys (unless_server key forced) ≡ unless_any (key ∷ keys) forced
unless_more key keys None = refl
unless_more key keys (Some server) = by_test (server == key)
  where
    by_test : (b : Bool) → unless_any keys (if b then None else Some server) ≡ (if b || is_one_of keys server then None else Some server)
    by_test true = refl
    by_test false = refl

one_by_one : (keys : List ℕ) (phase : Phase) (spends : ℕ) (over opt : Bool) (forced : Option ℕ) →
    leg_without_each keys (leg_with phase spends over opt forced) ≡ left_by keys phase spends over opt forced
one_by_one [] phases.Waiting spends over opt None = refl
one_by_one [] phases.Waiting spends over opt (Some server) = refl
one_by_one [] (phases.InFlight flying) spends over opt None = refl
one_by_one [] (phases.InFlight flying) spends over opt (Some server) = refl
one_by_one [] (phases.Ended status) spends over opt None = refl
one_by_one [] (phases.Ended status) spends over opt (Some server) = refl
one_by_one (key ∷ keys) phases.Waiting spends over opt forced =
    one_by_one keys phases.Waiting spends over opt (unless_server key forced) ∙ ap (leg_with phases.Waiting spends over opt) (unless_more key keys forced)
one_by_one (key ∷ keys) (phases.Ended status) spends over opt forced =
    one_by_one keys (phases.Ended status) spends over opt (unless_server key forced) ∙ ap (leg_with (phases.Ended status) spends over opt) (unless_more key keys forced)
one_by_one (key ∷ keys) (phases.InFlight flying) spends over opt forced = by_test (flying.server == key) (λ phase left. one_by_one keys phase spends over opt left)
  where
    by_test : (b : Bool) → ((phase : Phase) (left : Option ℕ) → leg_without_each keys (leg_with phase spends over opt left) ≡ left_by keys phase spends over opt left) →
        leg_without_each keys (if b then leg_with phases.Waiting spends over opt None else leg_with (phases.InFlight flying) spends over opt (unless_server key forced))
        ≡ (if b || is_one_of keys flying.server then leg_with phases.Waiting spends over opt None else leg_with (phases.InFlight flying) spends over opt (unless_any (key ∷ keys) forced))
    by_test true rest = rest phases.Waiting None
    by_test false rest =
        rest (phases.InFlight flying) (unless_server key forced)
        ∙ ap (λ (o : Option ℕ). if is_one_of keys flying.server then leg_with phases.Waiting spends over opt None else leg_with (phases.InFlight flying) spends over opt o) (unless_more key keys forced)

module _ (keys : List ℕ) (list : List ServerKey) (leg : model.Leg) where
  -- the server that the next attempt has to go to, if the new list has it
  forced_left : (forced : Option ℕ) → ((server : ℕ) → forced ≡ Some server → is_one_of keys server ≡ not (has_key server list)) → if_left (Servers list) forced ≡ unless_any keys forced
  forced_left None gone = refl
  forced_left (Some server) gone = rw (gone server refl) (by_test (has_key server list))
    where
      by_test : (b : Bool) → then_some b server ≡ (if not b then None else Some server)
      by_test true = refl
      by_test false = refl

  -- a new list of servers changes the leg as the calls do
  facts_left : (phase : Phase) (spends : ℕ) (over opt : Bool) (forced : Option ℕ)
      → ((flying : Flying) → flying_in phase ≡ Some flying → is_one_of keys flying.server ≡ not (has_key flying.server list))
      → ((server : ℕ) → forced ≡ Some server → is_one_of keys server ≡ not (has_key server list))
      → facts_set list (option_map (attempt_of leg) (flying_in phase)) (facts_of leg (leg_with phase spends over opt forced)) ≡ facts_of leg (left_by keys phase spends over opt forced)
  facts_left phases.Waiting spends over opt forced flies gone = ap (λ (o : Option ℕ). facts_of leg (leg_with phases.Waiting spends over opt o)) (forced_left forced gone)
  facts_left (phases.Ended status) spends over opt forced flies gone = ap (λ (o : Option ℕ). facts_of leg (leg_with (phases.Ended status) spends over opt o)) (forced_left forced gone)
  facts_left (phases.InFlight flying) spends over opt forced flies gone = rw (flies flying refl) (by_test (has_key flying.server list))
    where
      by_test : (b : Bool) →
          (if b then facts_of leg (leg_with (phases.InFlight flying) spends over opt (if_left (Servers list) forced)) else facts_closed flying.server None (facts_of leg (leg_with (phases.InFlight flying) spends over opt forced)))
          ≡ facts_of leg (if not b then leg_with phases.Waiting spends over opt None else leg_with (phases.InFlight flying) spends over opt (unless_any keys forced))
      by_test true = ap (λ (o : Option ℕ). facts_of leg (leg_with (phases.InFlight flying) spends over opt o)) (forced_left forced gone)
      by_test false =
          let none_more : 0 + spends ≡ spends = omega arith in
          λ i. record { flies = None; due = None; spends = none_more i; over_tcp = over; with_opt = opt; forced = None }

  -- and leaves its end, and the count of its attempts
  status_left : (phase : Phase) (spends : ℕ) (over opt : Bool) (forced : Option ℕ) → status_in (left_by keys phase spends over opt forced).phase ≡ status_in phase
  status_left phases.Waiting spends over opt forced = refl
  status_left (phases.InFlight flying) spends over opt forced = by_test (is_one_of keys flying.server)
    where
      by_test : (b : Bool) → status_in (if b then leg_with phases.Waiting spends over opt None else leg_with (phases.InFlight flying) spends over opt (unless_any keys forced)).phase ≡ None
      by_test true = refl
      by_test false = refl
  status_left (phases.Ended status) spends over opt forced = refl

  spends_left : (phase : Phase) (spends : ℕ) (over opt : Bool) (forced : Option ℕ) → (left_by keys phase spends over opt forced).spent ≡ spends
  spends_left phases.Waiting spends over opt forced = refl
  spends_left (phases.InFlight flying) spends over opt forced = by_test (is_one_of keys flying.server)
    where
      by_test : (b : Bool) → (if b then leg_with phases.Waiting spends over opt None else leg_with (phases.InFlight flying) spends over opt (unless_any keys forced)).spent ≡ spends
      by_test true = refl
      by_test false = refl
  spends_left (phases.Ended status) spends over opt forced = refl

-- a new list of servers: the calls for each key that it lacks keep what the state says
pub set_means : (setting : Setting) (list : List ServerKey) (past : Past) (leg : model.Leg) (state : Leg) (keys : List ℕ) → LegMeans setting past leg state → AreListed setting past leg
    → ((server : ℕ) → has_key server (servers_at setting past) ≡ true → list_any (λ key. server == key) keys ≡ not (has_key server list))
    → LegMeans setting (Servers list ∷ past) leg (leg_without_each keys state)
set_means setting list past leg state keys means listed gone =
    let at_once : leg_without_each keys state ≡ left_by keys state.phase state.spent state.over_tcp state.has_opt state.forced = one_by_one keys state.phase state.spent state.over_tcp state.has_opt state.forced in
    let flies : flight setting leg past ≡ option_map (attempt_of leg) (flying_in state.phase) = ap (λ (facts : LegFacts). facts.flies) means.facts in
    let forced : forced_server setting leg past ≡ state.forced = ap (λ (facts : LegFacts). facts.forced) means.facts in
    let left = facts_left keys list leg state.phase state.spent state.over_tcp state.has_opt state.forced
    (λ flying is. gone flying.server (listed.flies (attempt_of leg flying) (flies ∙ ap (option_map (attempt_of leg)) is)))
    (λ server is. gone server (listed.forced server (forced ∙ is))) in
    subst (LegMeans setting (Servers list ∷ past) leg) (sym at_once) (record {
      facts = set-facts setting list past leg ∙ ap₂ (λ (o : Option Attempt) (facts : LegFacts). facts_set list o facts) flies means.facts ∙ left;
      ended = ap (option_map (λ (end : LegEnd). end.status)) (set-end setting list past leg) ∙ means.ended ∙ sym (status_left keys list leg state.phase state.spent state.over_tcp state.has_opt state.forced);
      few = λ open'. rw (spends_left keys list leg state.phase state.spent state.over_tcp state.has_opt state.forced)
          (means.few (sym (status_left keys list leg state.phase state.spent state.over_tcp state.has_opt state.forced) ∙ open'));
    })

-- a leg without closings: no server is forced on its next attempt
never_forced : (setting : Setting) (leg : model.Leg) (past : Past) → closings setting leg past ≡ [] → forced_server setting leg past ≡ None
never_forced setting leg [] none = refl
never_forced setting leg (what ∷ past) none = by_flight (flight setting leg past) (never_forced setting leg past) none
  where
    by_flight : (o : Option Attempt) → (closings setting leg past ≡ [] → forced_server setting leg past ≡ None) → with_closing setting what past o (closings setting leg past) ≡ [] → forced_behind setting what past leg o (forced_server setting leg past) ≡ None
    by_flight None before empty = rw (before empty) refl
    by_flight (Some a) before empty = by_test (closes setting a what past) refl empty
      where
        by_test : (b : Bool) → closes setting a what past ≡ b → cond b (closing_of setting a what past (closings setting leg past) ∷ closings setting leg past) (closings setting leg past) ≡ []
            → cond b (forced_by (closing_of setting a what past (closings setting leg past))) (if_left what (forced_server setting leg past)) ≡ None
        by_test true is filled = absurd cc
        by_test false is filled = rw (before filled) refl

or_none : (b : Bool) → (b || false) ≡ b
or_none true = refl
or_none false = refl

and_all : (b : Bool) → (b && true) ≡ b
and_all true = refl
and_all false = refl

-- a leg without a Start and a closing is a new one
pub fresh_means : (setting : Setting) (leg : model.Leg) (past : Past) → flight setting leg past ≡ None → closings setting leg past ≡ [] → LegMeans setting past leg (fresh_leg setting.options.flags)
fresh_means setting leg past none empty =
    let forced : forced_server setting leg past ≡ None = never_forced setting leg past empty in
    let over = or_none setting.options.flags.usevc in
    let opt = and_all setting.options.flags.edns in
    record {
      facts = rw (none, empty, forced, over, opt) refl;
      ended = rw empty refl;
      few = λ _. omega arith;
    }
