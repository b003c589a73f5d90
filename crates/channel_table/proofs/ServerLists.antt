-- How a table follows a new list of servers.
use Rattle.channel_table.proofs.Base.{◌≡◌, ◌∙◌, ℕ, ◌+◌, ◌-◌, ◌^◌, ◌<◌, ◌≤◌, Bool, true, false, List, [], ◌∷◌, ◌++◌, Option, Some, None, Result, Ok, Err, refl, ap, ap₂, sym, subst, map, length, cond, arith, true≢false, append-nil, length-map, sum_by-cons, AllByRecursion, sum_by, IsFalse, count_by, filter, flat_map, max, not, option_map, option_to_list, Servers, Script, ServerKey, Ticket, ServerAddr, as_many-filter, as_many-length, request_of-later, greatest_link, Attempt, closes, in_flight, unless_closed, Past, is_destroyed, MaySet, LegFacts, facts_closed, Leg, greatest_key, greatest_of, has_key, servers_at, SetsServers, Setting, SetFault, flying_in, status_in, Flying, AreCounted, LegStands, attempt_of, facts_of, flown_by, flying_left, has_left, kept_in, left_in, leg_set, row_set, lookup_set, answer_of_ends, RowStands, LookupStands, TableStands, all_lookups, flown, number_of, ticket_number, end_of_lookup, flown_lookup, flying_of, leg_of_lookup, number_of_leg, Lookup, Spec, Status, Name, filter-append, option_and_then, Row, ChannelServers}
use Rattle.channel_model.proofs.Theorems.{fate-kept, keys_given, may_set, rekeyed-addresses, rekeyed-differ, set-end, set-facts}
use Rattle.channel_model.specs.LegFacts.{facts_set}
use Rattle.channel_model.specs.Servers.{KeysDiffer, keys_for, rekeyed}
use Rattle.channel_model.specs.declared.answers.SetFault.TheVariants.{Closed, Full, NoMemory}
use Rattle.std.specs.Result.{IsErrAnd}
use Rattle.query_machine.proofs.Theorems.{renewed_counts}
use Rattle.query_machine.specs.Servers.{renewed}
use Rattle.query_machine.specs.declared.leg.Leg as machine
use Rattle.query_machine.specs.declared.leg.Phase.TheVariants as phases
use Rattle.channel_table.proofs.Outcomes.{Becomes, Follows, Outcome, stays}
use Rattle.channel_table.proofs.RowFrames.{left_one}
use Rattle.channel_table.proofs.SearchSteps.{passed_stay}
use Rattle.channel_table.proofs.TableSteps.{Stands, table_behind}
use Rattle.channel_table.proofs.LegEnds.{flying_open}
use Rattle.channel_table.proofs.LookupLists.{count_lookups}
use Rattle.channel_table.proofs.Telling.{flying_lookups}
use Rattle.channel_table.specs.Counted.{renewed_servers}

module _ (list : List ServerKey) (leg : Leg) (state : machine.Leg) where
  -- the leg where its attempt ends, and where it doesn't
  ended : machine.Leg
  ended = record state { phase = phases.Waiting; forced = None }

  no_sum : (n : ℕ) → 0 + n ≡ n
  no_sum n = omega arith

  facts_after : (o : Option Flying) → flying_in state.phase ≡ o
      → facts_set list (flown_by leg o) (facts_of leg state) ≡ facts_of leg (cond (flying_left list o) (record state { phase = phases.Waiting; forced = None }) (record state { forced = kept_in list state.forced }))
  facts_after None is = refl
  facts_after (Some flying) is = by_test (has_key flying.server list)
    where
      by_test : (b : Bool) → cond b (record (facts_of leg state) { forced = kept_in list state.forced }) (facts_closed flying.server None (facts_of leg state))
          ≡ facts_of leg (cond (not b) (record state { phase = phases.Waiting; forced = None }) (record state { forced = kept_in list state.forced }))
      by_test true = refl
      by_test false = ap (λ (n : ℕ). record { flies = None; due = None; spends = n; over_tcp = state.over_tcp; with_opt = state.has_opt; forced = None }) (no_sum state.spent)

  -- its status is the same
  status_after : (o : Option Flying) → flying_in state.phase ≡ o → status_in (cond (flying_left list o) (record state { phase = phases.Waiting; forced = None }) (record state { forced = kept_in list state.forced })).phase ≡ status_in state.phase
  status_after None is = refl
  status_after (Some flying) is = by_test (flying_left list (Some flying))
    where
      by_test : (b : Bool) → status_in (cond b (record state { phase = phases.Waiting; forced = None }) (record state { forced = kept_in list state.forced })).phase ≡ status_in state.phase
      by_test true = sym (flying_open state.phase flying is)
      by_test false = refl

  pub status_set : status_in (leg_set list state).phase ≡ status_in state.phase
  status_set = status_after (flying_in state.phase) refl

  few_after : (b : Bool) → state.spent < 80 → (cond b (record state { phase = phases.Waiting; forced = None }) (record state { forced = kept_in list state.forced })).spent < 80
  few_after true few = few
  few_after false few = few

  -- a leg stands behind a new list as it is set
  pub leg_set_stands : (setting : Setting) (past : Past) (reply : List ℕ) → LegStands setting past leg state reply → LegStands setting (Servers list ∷ past) leg (leg_set list state) reply
  leg_set_stands setting past reply stands = record {
    facts =
        set-facts setting list past leg ∙ ap₂ (facts_set list) (ap (λ (f : LegFacts). f.flies) stands.facts) stands.facts
        ∙ facts_after (flying_in state.phase) refl;
    ends = set-end setting list past leg ∙ stands.ends ∙ ap (option_map (λ (s : Status). record { status = s; reply = reply })) (sym status_set);
    few = λ open_. few_after (flying_left list (flying_in state.phase)) (stands.few (sym status_set ∙ open_));
  }

  -- its attempt is what the list leaves of it
  pub flown_after : (setting : Setting) (past : Past) (o : Option Flying) → flying_in state.phase ≡ o
      → flown_by leg (flying_in (cond (flying_left list o) (record state { phase = phases.Waiting; forced = None }) (record state { forced = kept_in list state.forced })).phase) ≡ unless_closed setting (Servers list) past (flown_by leg o)
  flown_after setting past None is = ap (flown_by leg) is
  flown_after setting past (Some flying) is = by_test (has_key flying.server list)
    where
      by_test : (b : Bool) → flown_by leg (flying_in (cond (not b) (record state { phase = phases.Waiting; forced = None }) (record state { forced = kept_in list state.forced })).phase) ≡ cond (not b) None (Some (attempt_of leg flying))
      by_test true = ap (flown_by leg) is
      by_test false = refl

module _ (setting : Setting) (past : Past) (list : List ServerKey) where
  lookup_follows : (lookup : Lookup) → flown_lookup (lookup_set list lookup) ≡ filter (λ a. not (closes setting a (Servers list) past)) (flown_lookup lookup)
  lookup_follows lookup =
      ap option_to_list (flown_after list (leg_of_lookup lookup) lookup.leg setting past (flying_of lookup) refl) ∙ sym (left_one setting (Servers list) past (flown_by (leg_of_lookup lookup) (flying_of lookup)))

  lookup_stands_set : (number : ℕ) (spec : Spec) (name : Name) (rest : List Name) (lookup : Lookup) → LookupStands setting past number spec name rest lookup → LookupStands setting (Servers list ∷ past) number spec name rest (lookup_set list lookup)
  lookup_stands_set number spec name rest lookup stands = record {
    numbered = stands.numbered;
    current = stands.current;
    behind = stands.behind;
    asks = stands.asks;
    leg = leg_set_stands list (leg_of_lookup lookup) lookup.leg setting past lookup.reply stands.leg;
    begun = stands.begun;
  }

  lookups_follow : (first : Lookup) (second : Option Lookup)
      → flat_map flown_lookup (lookup_set list first ∷ option_to_list (option_map (lookup_set list) second)) ≡ filter (λ a. not (closes setting a (Servers list) past)) (flat_map flown_lookup (first ∷ option_to_list second))
  lookups_follow first None = ap (λ xs. xs ++ []) (lookup_follows first) ∙ sym (filter-append (λ a. not (closes setting a (Servers list) past)) (flown_lookup first) [])
  lookups_follow first (Some lookup) =
      ap₂ (λ xs ys. xs ++ (ys ++ [])) (lookup_follows first) (lookup_follows lookup)
      ∙ sym (filter-append (λ a. not (closes setting a (Servers list) past)) (flown_lookup first) (flown_lookup lookup ++ [])
      ∙ ap (λ xs. filter (λ a. not (closes setting a (Servers list) past)) (flown_lookup first) ++ xs) (filter-append (λ a. not (closes setting a (Servers list) past)) (flown_lookup lookup) []))

  lookups_set : (number : ℕ) (spec : Spec) (name : Name) (rest : List Name) (first : Lookup) (second : Option Lookup) → AllByRecursion (LookupStands setting past number spec name rest) (first ∷ option_to_list second)
      → AllByRecursion (LookupStands setting (Servers list ∷ past) number spec name rest) (lookup_set list first ∷ option_to_list (option_map (lookup_set list) second))
  lookups_set number spec name rest first None each = (lookup_stands_set number spec name rest first each.0, tt)
  lookups_set number spec name rest first (Some lookup) each = (lookup_stands_set number spec name rest first each.0, (lookup_stands_set number spec name rest lookup each.1.0, tt))

numbers_set : (list : List ServerKey) (first : Lookup) (second : Option Lookup) → map number_of_leg (lookup_set list first ∷ option_to_list (option_map (lookup_set list) second)) ≡ map number_of_leg (first ∷ option_to_list second)
numbers_set list first None = refl
numbers_set list first (Some lookup) = refl

end_set : (list : List ServerKey) (lookup : Lookup) → end_of_lookup (lookup_set list lookup) ≡ end_of_lookup lookup
end_set list lookup = ap (option_map (λ (s : Status). record { status = s; reply = lookup.reply })) (status_set list (leg_of_lookup lookup) lookup.leg)

second_end_set : (list : List ServerKey) (o : Option Lookup) → option_and_then end_of_lookup (option_map (lookup_set list) o) ≡ option_and_then end_of_lookup o
second_end_set list None = refl
second_end_set list (Some lookup) = end_set list lookup

module _ {T : Type 0} (plan : T → Script) (setting : Setting) (past : Past) (list : List ServerKey) where
  row_stands_set : (row : Row T) → RowStands plan setting past row → RowStands plan setting (Servers list ∷ past) (row_set list row)
  row_stands_set row stands =
      let stay = passed_stay setting row.number stands.spec (Servers list) past 0 stands.passed stands.came in
      record {
        spec = stands.spec;
        wants = stands.wants;
        passed = stands.passed;
        name = stands.name;
        rest = stands.rest;
        candidates = stands.candidates;
        few = stands.few;
        legged = stands.legged ∙ sym (numbers_set list row.first row.second);
        came = stay.0;
        emptied = stay.1 ∙ stands.emptied;
        accepts = request_of-later row.number (Servers list) past _ stands.accepts;
        undecided = fate-kept setting (Servers list) past row.number refl ∙ stands.undecided;
        each_lookup = lookups_set setting past list row.number stands.spec stands.name stands.rest row.first row.second stands.each_lookup;
        unanswered = ap₂ (answer_of_ends setting.options row.number row.wanted row.first.question.name) (end_set list row.first) (second_end_set list row.second) ∙ stands.unanswered;
        later = stands.later;
      }

  set_all : List (Row T) → List (Outcome (Row T) (Ticket T))
  set_all [] = []
  set_all (row ∷ rows) = stays row (row_set list row) ∷ set_all rows

  set_all-becomes : (rows : List (Row T)) → Becomes (set_all rows) rows (map (row_set list) rows) []
  unfolding set_all
  set_all-becomes [] = record { rows_before = refl; rows_behind = refl; tickets_behind = refl }
  set_all-becomes (row ∷ rows) =
      let rest = set_all-becomes rows in
      record { rows_before = ap (λ rs. row ∷ rs) rest.rows_before; rows_behind = ap (λ rs. row_set list row ∷ rs) rest.rows_behind; tickets_behind = rest.tickets_behind }

  set_all-follow : (rows : List (Row T)) → AllByRecursion (RowStands plan setting past) rows → AllByRecursion (Follows number_of ticket_number flown setting (Servers list) past) (set_all rows)
  unfolding set_all
  set_all-follow [] each = tt
  set_all-follow (row ∷ rows) each = ((refl, refl, lookups_follow setting past list row.first row.second), set_all-follow rows each.1)

  set_all-stand : (rows : List (Row T)) → AllByRecursion (RowStands plan setting past) rows → AllByRecursion (Stands plan setting (Servers list) past) (set_all rows)
  unfolding set_all
  set_all-stand [] each = tt
  set_all-stand (row ∷ rows) each = (row_stands_set row each.0, set_all-stand rows each.1)

  -- the rows are set
  pub table_set : (rows : List (Row T)) (tickets : List (Ticket T)) → TableStands plan setting past rows tickets → TableStands plan setting (Servers list ∷ past) (map (row_set list) rows) tickets
  table_set rows tickets table =
      subst (TableStands plan setting (Servers list ∷ past) (map (row_set list) rows)) (append-nil tickets)
      (table_behind plan setting (Servers list) past (set_all rows) rows (map (row_set list) rows) tickets [] refl refl refl (set_all-becomes rows) (set_all-follow rows table.each_row) (set_all-stand rows table.each_row) table)

  left_count : (ss : List Lookup) → length (filter (λ (a : Attempt). not (has_key a.server list)) (flat_map flown_lookup ss)) ≡ count_by (has_left list) ss
  left_count [] = refl
  left_count (lookup ∷ ss) = by_attempt (leg_of_lookup lookup) (flying_of lookup) (left_count ss) ∙ sym (sum_by-cons (λ (s : Lookup). cond (has_left list s) 1 0) lookup ss)
    where
      by_test : (a : Attempt) (b : Bool) → length (filter (λ (a : Attempt). not (has_key a.server list)) (flat_map flown_lookup ss)) ≡ count_by (has_left list) ss
          → length (cond b (a ∷ filter (λ (a : Attempt). not (has_key a.server list)) (flat_map flown_lookup ss)) (filter (λ (a : Attempt). not (has_key a.server list)) (flat_map flown_lookup ss))) ≡ cond b 1 0 + count_by (has_left list) ss
      by_test a true rest = omega (arith, rest)
      by_test a false rest = omega (arith, rest)

      by_attempt : (leg : Leg) (o : Option Flying) → length (filter (λ (a : Attempt). not (has_key a.server list)) (flat_map flown_lookup ss)) ≡ count_by (has_left list) ss
          → length (filter (λ (a : Attempt). not (has_key a.server list)) (option_to_list (flown_by leg o) ++ flat_map flown_lookup ss)) ≡ cond (flying_left list o) 1 0 + count_by (has_left list) ss
      by_attempt leg None rest = omega (arith, rest)
      by_attempt leg (Some flying) rest = by_test (attempt_of leg flying) (flying_left list (Some flying)) rest

  -- and so many attempts end
  pub set_count : (rows : List (Row T)) (tickets : List (Ticket T)) → TableStands plan setting past rows tickets → length (filter (λ (a : Attempt). not (has_key a.server list)) (in_flight setting past)) ≡ sum_by (left_in list) rows
  set_count rows tickets table =
      as_many-length _ _ (as_many-filter (λ (a : Attempt). not (has_key a.server list)) (in_flight setting past) (flat_map flown_lookup (all_lookups rows)) (flying_lookups plan setting past rows tickets table))
      ∙ left_count (all_lookups rows) ∙ sym (count_lookups (has_left list) rows)

-- what a table has beside its requests
pub counted_set : (setting : Setting) (past : Past) (list : List ServerKey) {servers : ChannelServers} → AreCounted setting past servers → AreCounted setting (Servers list ∷ past) (renewed_servers list servers)
counted_set setting past list counted = record {
  listed = refl;
  failed = renewed_counts setting list past ∙ ap (renewed list) counted.failed;
  keyed = ap (λ k. greatest_of k list) counted.keyed;
  linked = no_link (greatest_link past) ∙ counted.linked;
  begun = counted.begun;
}
  where
    no_link : (n : ℕ) → max 0 n ≡ n
    no_link n = omega arith

-- the list that a table makes of its own one is that of the rule
pub keys_are : {setting : Setting} {past : Past} (addresses : List ServerAddr) {list : List ServerKey} {servers : ChannelServers} → AreCounted setting past servers → list ≡ rekeyed addresses servers.list servers.greatest_key → list ≡ keys_for setting addresses past
keys_are addresses counted is = is ∙ ap₂ (rekeyed addresses) (sym counted.listed) (sym counted.keyed)

-- a new list, as it is made: it has its servers by the rule, and may become the channel's
module _ (setting : Setting) (past : Past) (addresses : List ServerAddr) (list : List ServerKey) (is : list ≡ keys_for setting addresses past) where
  pub keys_apart : KeysDiffer list
  keys_apart = subst KeysDiffer (sym is) (rekeyed-differ addresses (servers_at setting past) (greatest_key setting past) (keys_given setting past))

  pub set_length : length list ≡ length addresses
  set_length = sym (length-map list (λ (s : ServerKey). s.address)) ∙ ap length (ap (map (λ (s : ServerKey). s.address)) is ∙ rekeyed-addresses addresses (servers_at setting past) (greatest_key setting past))

  pub may_become : IsFalse (is_destroyed past) → 1 ≤ length addresses → length addresses ≤ 8 → MaySet setting past list
  may_become open_ some few = subst (MaySet setting past) (sym is) (may_set setting past addresses open_ some few)

no_closed : ◌≡◌ {A = SetFault} NoMemory Closed → ⊥
no_closed e = cc

no_full : ◌≡◌ {A = SetFault} NoMemory Full → ⊥
no_full e = cc

-- a change of servers that found no memory
pub sets_failed : (addresses : List ServerAddr) (result : Result ℕ SetFault) (setting : Setting) (past : Past) → IsErrAnd result (λ fault. fault ≡ NoMemory) → is_destroyed past ≡ false → greatest_key setting past ≤ 2 ^ 32 - 9 → SetsServers addresses result setting past None
sets_failed addresses (Ok count) setting past failed open_ few = absurd failed
sets_failed addresses (Err fault) setting past failed open_ few = (
  refl,
  (λ closed. absurd (no_closed (sym failed ∙ closed)), λ destroyed. absurd (true≢false (sym destroyed ∙ open_))),
  (λ full. absurd (no_full (sym failed ∙ full)), λ both. absurd (omega (arith, both.1, few))),
)
